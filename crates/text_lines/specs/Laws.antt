-- Laws of the lines of a file and of a text.
use Rattle.std.proofs.Common.{◌≡◌, ℕ, ◌+◌, ◌<◌, ◌==◌, Bool, true, false, not, cond, List, []}
use Rattle.std.proofs.Common.{◌∷◌, length, map, drop, find, Some, None, refl, ap, ◌∙◌, arith}
use Rattle.std.specs.List.{slice_split, onto_first, take_while, range_with_len}
use Rattle.std.specs.Option.{option_map}
use Rattle.std.specs.Str.Lines.{strip_carriage_return}
use Rattle.std.proofs.lemmas.Bool.Decides.{nat_tests}
use Rattle.std.proofs.lemmas.List.{nil_from_length}
use Rattle.std.proofs.lemmas.List.Splits.{length-slice_split}
use Rattle.std.proofs.lemmas.List.Sums.{take_while-cons}
use Rattle.text_lines.specs.declared.found.Line.{Line}
use Rattle.text_lines.specs.Lines.{is_line_feed, is_text, line_at, lines_from, lines_after}
use Rattle.text_lines.specs.Lines.{all_lines}
use Rattle.text_lines.specs.Lines.{good_lines, bad_line, first_place}
use Rattle.text_lines.specs.Texts.{stripped, texts_in}

-- a text with a byte has a line
stripped-some : (piece : List ℕ) (pieces : List (List ℕ)) → 0 < length piece + length pieces
    → 0 < length (stripped (piece ∷ pieces))
stripped-some piece [] some =
    let test : (length piece == 0) ≡ false = grind (arith, nat_tests) in
    let one : length (stripped (piece ∷ [])) ≡ 1 =
    ap (λ b. length (cond b [] (strip_carriage_return piece ∷ []))) test in
    omega arith
stripped-some piece (next ∷ more) some = omega arith

pub some-texts : (text : List ℕ) → 0 < length text → 0 < length (texts_in text)
unfolding texts_in
some-texts (byte ∷ text) some =
    by (slice_split is_line_feed text) (is_line_feed byte)
    (omega (arith, length-slice_split is_line_feed text))
  where
    by : (pieces : List (List ℕ)) (b : Bool) → 0 < length pieces
        → 0 < length (stripped (cond b ([] ∷ pieces) (onto_first byte pieces)))
    by [] b none = absurd (omega (arith, none))
    by (piece ∷ more) true some = stripped-some [] (piece ∷ more) (omega arith)
    by (piece ∷ more) false some = stripped-some (byte ∷ piece) more (omega arith)
some-texts [] some = absurd (omega (arith, some))

-- behind the last line there is none
pub no-texts : (text : List ℕ) → length text ≡ 0 → texts_in text ≡ []
unfolding texts_in
no-texts text none = ap (λ t. stripped (slice_split is_line_feed t)) (nil_from_length text none)

-- ---- where no line is bad, all are good
all-taken : (bytes : List ℕ) (lines : List Line)
    → option_map (λ line. line.number) (find (λ line. not (is_text bytes line)) lines) ≡ None
    → take_while (is_text bytes) lines ≡ lines
all-taken bytes [] none = refl
all-taken bytes (line ∷ lines) none =
    take_while-cons (is_text bytes) line lines
    ∙ by (is_text bytes line) none (all-taken bytes lines)
  where
    by : (b : Bool)
        → option_map (λ line. line.number)
        (cond (not b) (Some line) (find (λ line. not (is_text bytes line)) lines)) ≡ None
        → (option_map (λ line. line.number) (find (λ line. not (is_text bytes line)) lines) ≡ None
        → take_while (is_text bytes) lines ≡ lines)
        → cond b (line ∷ take_while (is_text bytes) lines) [] ≡ line ∷ lines
    by true none later = ap (λ more. line ∷ more) (later none)
    by false none later = absurd (cc)

pub all-good : (bytes : List ℕ) → bad_line bytes ≡ None → good_lines bytes ≡ all_lines bytes
all-good bytes none = all-taken bytes (all_lines bytes) none

-- ---- lines are numbered, from 1
numbered-from : (number place : ℕ) (pieces : List (List ℕ))
    → map (λ line. line.number) (lines_from number place pieces)
    ≡ range_with_len number (length (lines_from number place pieces))
numbered-from number place [] = refl
numbered-from number place (piece ∷ []) = one (length piece == 0)
  where
    one : (b : Bool)
        → map (λ line. line.number) (cond b [] (line_at number place piece ∷ []))
        ≡ range_with_len number (length (cond b [] (line_at number place piece ∷ [])))
    one true = refl
    one false = refl
numbered-from number place (piece ∷ next ∷ more) =
    ap (λ numbers. number ∷ numbers)
    (numbered-from (number + 1) (place + length piece + 1) (next ∷ more))

pub numbered : (bytes : List ℕ)
    → map (λ line. line.number) (all_lines bytes) ≡ range_with_len 1 (length (all_lines bytes))
unfolding lines_after
numbered bytes =
    numbered-from 1 (first_place bytes)
    (slice_split is_line_feed (drop (first_place bytes) bytes))
