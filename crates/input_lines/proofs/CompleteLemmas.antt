-- Where nothing fails and no limit is passed, all lines are answered, or memory was wanting.
use Rattle.std.proofs.Common.{◌≡◌, ◌∙◌, refl, sym, ap, subst, ◌⊎◌, inl, inr, ℕ, ◌+◌, ◌-◌, ◌≤◌, ◌||◌}
use Rattle.std.proofs.Common.{Bool, true, false, List, [], ◌∷◌, ◌++◌, length, take, Some, arith}
use Rattle.std.proofs.Common.{append_assoc, length-append}
use Rattle.std.specs.List.{AllByRecursion, list_any}
use Rattle.std.proofs.Math.Seq.{take-append-add}
use Rattle.std.proofs.lemmas.Bool.{cases_Bool}
use Rattle.std.proofs.lemmas.List.{take-append-le}
use Rattle.std.proofs.lemmas.List.Folds.{list_any-append}
use Rattle.text_lines.specs.Lines.{line_texts}
use Rattle.outside.specs.lists.Laws.{each-middle}
use Rattle.input_lines.specs.Answers.{HasNoBreak}
use Rattle.input_lines.specs.Ends.{HasEnded, HasLongLine, IsTooMuch, Reading}
use Rattle.input_lines.specs.Laws.{AnswerRelation}
use Rattle.input_lines.specs.Lines.{AreWhole, IsBounded, IsShort, QuitsEarly, before_quit}
use Rattle.input_lines.specs.Turns.{behind}
use Rattle.input_lines.specs.declared.reading_end.ReadingEnd.{ReadingEnd}
use Rattle.input_lines.specs.declared.reading_end.ReadingEnd.TheVariants.{Finished, Interrupted}
use Rattle.input_lines.specs.declared.reading_end.ReadingEnd.TheVariants.{TooMuch, LongLine}
use Rattle.input_lines.specs.declared.reading_end.ReadingEnd.TheVariants.{NoMemory, SinkFailed}
use Rattle.input_lines.proofs.LineLemmas.{lines-behind, no-break-parts, no-lines, quit-later}
use Rattle.input_lines.proofs.LineLemmas.{raw_lines}
use Rattle.outside.specs.Laws.{takes-front}
use Rattle.outside.specs.Source.{IsToldBytes}
use Rattle.input_lines.specs.declared.limits.TheConstants.{INPUT_LIMIT, LINE_LIMIT}

-- bytes up to a line feed stand before the last line feed
front-within : (before more front rest : List ℕ) → before ++ 10 ∷ more ≡ front ++ rest
    → HasNoBreak rest
    → (later : List ℕ) × (front ≡ (before ++ 10 ∷ []) ++ later)
front-within before more [] rest is none =
    absurd ((no-break-parts before (10 ∷ more) (subst HasNoBreak (sym is) none)).1.0 refl)
front-within [] more (byte ∷ front) rest is none = (front, cc)
front-within (byte ∷ before) more (other ∷ front) rest is none =
    let later = front-within before more front rest (cc) none in
    (later.0, cc (later.1))

-- a line that ends an input early is among those that are whole in the bytes that are read
quit-within : {quits : List ℕ → Bool} {input : List ℕ} {lines : List (List ℕ)}
    (early : QuitsEarly quits input)
    → AreWhole (take INPUT_LIMIT input) lines → list_any quits lines ≡ true
quit-within {quits} {input} {lines} early whole = elim early.ends [
  | inl none ↦
      let never : false ≡ true =
      sym (ap (list_any quits) (ap line_texts none ∙ no-lines)) ∙ early.quits_there in
      absurd (cc)
  | inr (before, is) ↦
      let count : ℕ = INPUT_LIMIT - length early.front in
      let sum : INPUT_LIMIT ≡ length early.front + count = omega (arith, early.few) in
      let kept : take INPUT_LIMIT input ≡ early.front ++ take count early.later =
      ap (λ n. take n input) sum ∙ ap (take (length early.front + count)) early.parts
      ∙ take-append-add early.front early.later count in
      let within = front-within before (take count early.later) whole.front whole.rest
      (sym (append_assoc before (10 ∷ []) (take count early.later))
      ∙ ap (λ f. f ++ take count early.later) (sym is) ∙ sym kept ∙ whole.parts)
      whole.no_more in
      let all : lines ≡ line_texts early.front ++ raw_lines within.0 =
      whole.lines_are ∙ ap line_texts within.1 ∙ lines-behind within.0 (behind before)
      ∙ ap (λ f. line_texts f ++ raw_lines within.0) (sym is) in
      rw (
        all,
        list_any-append quits (line_texts early.front) (raw_lines within.0),
        early.quits_there,
      )
]

-- an input of which not too much is read has not too many bytes
too-much-not : {quits : List ℕ → Bool} {answered : AnswerRelation} {reading : Reading} {input said : List ℕ}
    → reading.before ≡ Some input
    → IsBounded quits input → IsTooMuch quits answered reading said → ⊥
too-much-not {reading} {input} tells bounded much =
    let rest = takes-front reading.before reading.after much.taken much.takes in
    let all : much.taken ++ rest.0 ≡ input =
    subst (λ t. IsToldBytes t (much.taken ++ rest.0)) tells rest.1 in
    elim bounded [
      | inl few ↦ omega (arith, few, much.one_more, ap length all, length-append much.taken rest.0)
      | inr early ↦
          let kept : take INPUT_LIMIT much.taken ≡ take INPUT_LIMIT input =
          sym (take-append-le INPUT_LIMIT much.taken rest.0 (omega (arith, much.one_more)))
          ∙ ap (take INPUT_LIMIT) all in
          let there =
          quit-within early
          (subst (λ bytes. AreWhole bytes much.answers.lines) kept much.answers.whole) in
          let same : true ≡ false = sym there ∙ much.answers.answers.going in
          absurd (cc)
    ]

-- a line that is too long does not end the input, so it is among the lines before one that does
long-not : {quits : List ℕ → Bool} {answered : AnswerRelation} {input said : List ℕ}
    → ((line : List ℕ) → quits line ≡ true → IsShort line)
    → AllByRecursion IsShort (before_quit quits (line_texts input))
    → HasLongLine quits answered input said → ⊥
long-not {quits} {input} quits_short short has = elim (cases_Bool (quits has.long)) [
  | inl is ↦ let fits = quits_short has.long is in omega (arith, fits, has.too_long)
  | inr is ↦
      let lines : before_quit quits (line_texts input) ≡ line_texts has.front ++ has.long
      ∷ before_quit quits has.later =
      ap (before_quit quits) has.lines_are
      ∙ quit-later quits (line_texts has.front) (has.long ∷ has.later) has.answers.going
      ∙ ap (λ rest. line_texts has.front ++ rest)
      (quit-later quits (has.long ∷ []) has.later (ap (λ b. b || false) is)) in
      let fits : length has.long ≤ LINE_LIMIT =
      each-middle IsShort (line_texts has.front) has.long (before_quit quits has.later)
      (subst (AllByRecursion IsShort) lines short) in
      omega (arith, fits, has.too_long)
]

pub ended-complete : (quits : List ℕ → Bool) (answered : AnswerRelation) (reading : Reading)
    (input said : List ℕ) (ended : ReadingEnd)
    → HasEnded quits answered reading ended said → reading.before ≡ Some input
    → IsBounded quits input
    → ((line : List ℕ) → quits line ≡ true → IsShort line)
    → AllByRecursion IsShort (before_quit quits (line_texts input))
    → reading.faults_after ≡ reading.faults_before
    → (ended ≡ Finished) ⊎ ((ended ≡ NoMemory) ⊎ (ended ≡ SinkFailed))
ended-complete _ _ _ _ _ Finished _ _ _ _ _ _ = inl refl
ended-complete _ _ _ _ _ Interrupted is _ _ _ _ reads = absurd (omega (arith, is.failed, reads))
ended-complete _ _ _ _ _ TooMuch is tells bounded _ _ _ = absurd (too-much-not tells bounded is)
ended-complete quits answered _ _ said LongLine (bytes, given, is) tells _ quits_short short _ =
    absurd (long-not quits_short short
    (subst (λ bytes. HasLongLine quits answered bytes said) (rw tells at given) is))
ended-complete _ _ _ _ _ NoMemory _ _ _ _ _ _ = inr (inl refl)
ended-complete _ _ _ _ _ SinkFailed _ _ _ _ _ _ = inr (inr refl)
