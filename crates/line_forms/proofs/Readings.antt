-- What is answered, however a reading has ended.
use Rattle.std.proofs.Common.{◌≡◌, refl, sym, ap, subst, ℕ, Bool, true, false, not, cond, List, []}
use Rattle.std.proofs.Common.{◌∷◌, ◌++◌, take_while}
use Rattle.std.proofs.lemmas.List.Sums.{take_while-cons}
use Rattle.mark_types.specs.text_lines.Lines.{line_texts}
use Rattle.input_lines.specs.Ends.{HasEnded, Reading}
use Rattle.input_lines.specs.declared.reading_end.ReadingEnd.{ReadingEnd}
use Rattle.input_lines.specs.declared.reading_end.ReadingEnd.TheVariants.{Finished, Interrupted}
use Rattle.input_lines.specs.declared.reading_end.ReadingEnd.TheVariants.{TooMuch, LongLine}
use Rattle.input_lines.specs.declared.reading_end.ReadingEnd.TheVariants.{NoMemory, SinkFailed}

module _ (quits : List ℕ → Bool) (answered : List (List ℕ) → List ℕ → Type 0) (reading : Reading)
    (said : List ℕ) where
  -- some lines were answered so
  pub some-answered : (ended : ReadingEnd) → HasEnded quits answered reading ended said
      → (lines : List (List ℕ)) × answered lines said
  some-answered Finished (input, given, is) = (_, is.answers.said_so)
  some-answered Interrupted is = (is.answers.lines, is.answers.answers.said_so)
  some-answered TooMuch is = (is.answers.lines, is.answers.answers.said_so)
  some-answered LongLine (input, given, is) = (_, is.answers.said_so)
  some-answered NoMemory (input, given, is) = (is.lines, is.answers.said_so)
  some-answered SinkFailed (input, given, is) = (is.lines, is.answers.said_so)

  -- what is answered at the end of an input was answered first
  pub broken-off : HasEnded quits answered reading Finished said
      → HasEnded quits answered reading NoMemory said
  broken-off (input, given, is) =
      let all = line_texts input in
      let split = split-while (λ line. not (quits line)) all in (
        input,
        given,
        record {
          lines = take_while (λ line. not (quits line)) all;
          later = split.0;
          lines_are = split.1;
          answers = is.answers;
        },
      )
    where
      split-by : {X : Type 0} (b : Bool) (x : X) (xs front rest : List X) → xs ≡ front ++ rest
          → (later : List X) × (x ∷ xs ≡ cond b (x ∷ front) [] ++ later)
      split-by true x xs front rest is = (rest, ap (λ l. x ∷ l) is)
      split-by false x xs front rest is = (x ∷ xs, refl)

      split-while : {X : Type 0} (p : X → Bool) (xs : List X)
          → (later : List X) × (xs ≡ take_while p xs ++ later)
      split-while p [] = ([], refl)
      split-while p (x ∷ xs) =
          let rest = split-while p xs in
          let here = split-by (p x) x xs (take_while p xs) rest.0 rest.1 in
          (here.0, subst (λ front. x ∷ xs ≡ front ++ here.0) (sym (take_while-cons p x xs)) here.1)
