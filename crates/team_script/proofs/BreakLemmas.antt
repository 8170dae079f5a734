-- No line of a file has a line feed.
use Rattle.std.proofs.Common.{◌≡◌, ◌∙◌, ℕ, zero, suc, ◌+◌, ◌-◌, ◌≤◌, ◌==◌, Bool, true, false, cond}
use Rattle.std.proofs.Common.{List, [], ◌∷◌, ◌++◌, length, take, drop, get_or, refl, sym, ap, subst}
use Rattle.std.proofs.Common.{append-nil, append_assoc, drop-drop, length-take, arith}
use Rattle.std.proofs.Common.{not-suc-le-zero, le_of_suc-le-suc, if◌then◌else◌}
use borrow.Author.Tests.{eq-eqb}
use Rattle.std.specs.List.{AllByRecursion, slice_split, onto_first, join_with_byte}
use Rattle.std.specs.Str.Lines.{strip_carriage_return}
use Rattle.std.proofs.lemmas.Bool.{false≢true}
use Rattle.std.proofs.lemmas.List.{drop_at, length_push}
use Rattle.std.proofs.lemmas.List.Splits.{join_with_byte-slice_split}
use Rattle.text_lines.specs.lists.Laws.{each-map}
use Rattle.text_lines.specs.Lines.{first_place, is_line_feed, line_at, lines_from, lines_after}
use Rattle.text_lines.specs.Lines.{all_lines, line_texts, text_of}
use Rattle.team_script.specs.Lines.{HasNoBreak}

-- ---- the pieces between line feeds have none

no-feed : (byte : ℕ) → (byte == 10) ≡ false → ¬ (byte ≡ 10)
no-feed byte is same = false≢true (sym is ∙ eq-eqb byte 10 same)

onto-whole : (byte : ℕ) (pieces : List (List ℕ)) → ¬ (byte ≡ 10) → AllByRecursion HasNoBreak pieces
    → AllByRecursion HasNoBreak (onto_first byte pieces)
onto-whole byte [] other whole = ((other, tt), tt)
onto-whole byte (piece ∷ pieces) other whole = ((other, whole.0), whole.1)

whole-pieces : (bytes : List ℕ) → AllByRecursion HasNoBreak (slice_split is_line_feed bytes)
whole-pieces [] = (tt, tt)
whole-pieces (byte ∷ bytes) =
    let pieces : List (List ℕ) = slice_split is_line_feed bytes in
    let rest = whole-pieces bytes in
    elim (byte == 10) as
    (λ b. (byte == 10) ≡ b
    → AllByRecursion HasNoBreak (cond b ([] ∷ pieces) (onto_first byte pieces))) [
      | true ↦ λ _. (tt, rest)
      | false ↦ λ is. onto-whole byte pieces (no-feed byte is) rest
    ] refl

-- ---- a line is the front of its piece

no-break-front : (count : ℕ) (front back : List ℕ) → count ≤ length front → HasNoBreak front
    → HasNoBreak (take count (front ++ back))
no-break-front zero front back fits whole = tt
no-break-front (suc count) [] back fits whole = absurd (not-suc-le-zero fits)
no-break-front (suc count) (byte ∷ front) back fits whole =
    (whole.0, no-break-front count front back (le_of_suc-le-suc fits) whole.1)

stripped-fits : (piece : List ℕ) → length (strip_carriage_return piece) ≤ length piece
stripped-fits piece = by (get_or piece (length piece - 1) 0 == 13)
  where
    by : (test : Bool)
        → length (if test then take (length piece - 1) piece else piece) ≤ length piece
    by true = omega (arith, length-take (length piece - 1) piece)
    by false = omega arith

whole-line : (bytes : List ℕ) (number place : ℕ) (piece after : List ℕ)
    → drop place bytes ≡ piece ++ after → HasNoBreak piece
    → HasNoBreak (text_of bytes (line_at number place piece))
whole-line bytes number place piece after is whole =
    let count : ℕ = place + length (strip_carriage_return piece) - place in
    subst (λ ahead. HasNoBreak (take count ahead)) (sym is)
    (no-break-front count piece after (omega (arith, stripped-fits piece)) whole)

-- the lines of the pieces that stand in the bytes from a place on
whole-from : (bytes : List ℕ) (number place : ℕ) (pieces : List (List ℕ))
    → drop place bytes ≡ join_with_byte 10 pieces → AllByRecursion HasNoBreak pieces
    → AllByRecursion (λ line. HasNoBreak (text_of bytes line)) (lines_from number place pieces)
whole-from bytes number place [] is whole = tt
whole-from bytes number place (piece ∷ []) is whole = by (length piece == 0)
  where
    by : (test : Bool) → AllByRecursion (λ line. HasNoBreak (text_of bytes line))
        (if test then [] else line_at number place piece ∷ [])
    by true = tt
    by false = (whole-line bytes number place piece [] (is ∙ sym (append-nil piece)) whole.0, tt)
whole-from bytes number place (piece ∷ next ∷ more) is whole =
    let rest : List ℕ = join_with_byte 10 (next ∷ more) in
    let later : drop (place + length piece + 1) bytes ≡ rest =
    ap (λ n. drop n bytes) (omega arith) ∙ sym (drop-drop (length piece + 1) place bytes)
    ∙ ap (drop (length piece + 1)) (is ∙ sym (append_assoc piece (10 ∷ []) rest))
    ∙ drop_at (piece ++ 10 ∷ []) rest (length piece + 1) (length_push piece 10) in (
      whole-line bytes number place piece (10 ∷ rest) is whole.0,
      whole-from bytes (number + 1) (place + length piece + 1) (next ∷ more) later whole.1,
    )

pub whole-lines : (bytes : List ℕ) → AllByRecursion HasNoBreak (line_texts bytes)
unfolding lines_after
whole-lines bytes =
    let place : ℕ = first_place bytes in
    each-map HasNoBreak (text_of bytes) (all_lines bytes)
    (whole-from bytes 1 place (slice_split is_line_feed (drop place bytes))
    (sym (join_with_byte-slice_split 10 (drop place bytes))) (whole-pieces (drop place bytes)))
