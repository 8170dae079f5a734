-- The lines of a file, of which those before the first that is not UTF-8 are read.
use Rattle.std.proofs.Common.{◌≡◌, ◌∙◌, inl, inr, ℕ, ◌+◌, ◌==◌, cond, Bool, true, false}
use Rattle.std.proofs.Common.{not, ◌||◌, List, [], ◌∷◌, length, map, Option, Some, None, Ok}
use Rattle.std.proofs.Common.{Err, refl, sym, ap, drop, if◌then◌else◌, ◌≤◌, Result, arith}
use Rattle.std.proofs.Common.{filter_map}
use Rattle.std.specs.List.{cons_option, find, take_while, position_from, range_with_len}
use Rattle.std.specs.List.{slice_split}
use Rattle.std.proofs.lemmas.List.{length-map}
use Rattle.std.specs.Option.{option_map, option_or}
use Rattle.std.proofs.lemmas.Iterator.Adapters.{position_from-zero}
use Rattle.std.proofs.lemmas.List.Sums.{take_while-cons}
use Rattle.text_lines.specs.lists.Answers.{FailsAs}
use Rattle.text_lines.specs.lists.Laws.{or-none}
use Rattle.text_lines.specs.declared.found.Line.{Line}
use Rattle.text_lines.specs.Lines.{text_of, is_text, lines_from, lines_after, line_at, all_lines}
use Rattle.text_lines.specs.Lines.{line_texts, good_lines, bad_line, first_place, is_line_feed}
use Rattle.team_script.specs.declared.fault.ScriptFault.{ScriptFault}
use Rattle.team_script.specs.declared.fault.ScriptFault.TheVariants.{Bad}
use Rattle.team_script.specs.declared.line.SessionLine.{SessionLine}
use Rattle.team_script.specs.Lines.{told_in, line_told, is_formless, is_bad, first_bad}
use Rattle.team_script.specs.Due.{MayComeOfScripts, unless_bad, lines_due, first_formless, good_due}

-- lines are numbered one after another
abbrev AreNumbered : ℕ → List Line → Type 0
AreNumbered from lines = map (λ line. line.number) lines ≡ range_with_len from (length lines)

numbered-from : (number place : ℕ) (pieces : List (List ℕ))
    → AreNumbered number (lines_from number place pieces)
numbered-from number place [] = refl
numbered-from number place (piece ∷ []) =
    elim (length piece == 0) as
    (λ b. AreNumbered number (if b then [] else line_at number place piece ∷ []))
    [ true ↦ refl | false ↦ refl ]
numbered-from number place (piece ∷ next ∷ more) =
    ap (λ numbers. number ∷ numbers)
    (numbered-from (number + 1) (place + length piece + 1) (next ∷ more))

numbered : (bytes : List ℕ) → AreNumbered 1 (all_lines bytes)
unfolding lines_after
numbered bytes =
    numbered-from 1 (first_place bytes) (slice_split is_line_feed (drop (first_place bytes) bytes))

-- the place of the first line that passes a test, one more, is that line's number
number-is : (test : List ℕ → Bool) (bytes : List ℕ) (place : ℕ) (lines : List Line)
    → AreNumbered (place + 1) lines
    → option_map (λ k. k + 1) (position_from test place (map (text_of bytes) lines))
    ≡ option_map (λ line. line.number) (find (λ line. test (text_of bytes line)) lines)
number-is test bytes place [] are = refl
number-is test bytes place (line ∷ lines) are =
    elim (test (text_of bytes line)) as
    (λ b. option_map (λ k. k + 1)
    (cond b (Some place) (position_from test (place + 1) (map (text_of bytes) lines)))
    ≡ option_map (λ l. l.number) (cond b (Some line) (find (λ l. test (text_of bytes l)) lines))) [
      | true ↦ ap Some (sym number)
      | false ↦ number-is test bytes (place + 1) lines later
    ]
  where
    number : line.number ≡ place + 1
    number = cc

    later : AreNumbered (place + 1 + 1) lines
    later = cc

-- the first line that fails one test or passes another: the first that passes the other among those
-- before the first that fails the one, or else that
first-of-two : (is other : Line → Bool) (lines : List Line)
    → find (λ line. not (is line) || other line) lines
    ≡ option_or (find other (take_while is lines)) (find (λ line. not (is line)) lines)
first-of-two is other [] = refl
first-of-two is other (line ∷ lines) =
    rw (take_while-cons is line lines)
    (elim (is line) as
    (λ b. cond (not b || other line) (Some line) (find (λ l. not (is l) || other l) lines)
    ≡ option_or (find other (cond b (line ∷ take_while is lines) []))
    (cond (not b) (Some line) (find (λ l. not (is l)) lines))) [
      | true ↦ elim (other line) as
          (λ b. cond b (Some line) (find (λ l. not (is l) || other l) lines)
          ≡ option_or (cond b (Some line) (find other (take_while is lines)))
          (find (λ l. not (is l)) lines)) [
            | true ↦ refl
            | false ↦ first-of-two is other lines
          ]
      | false ↦ refl
    ])

-- where none fails a test, all lines stand before the first that does
all-good : (is : Line → Bool) (lines : List Line) → find (λ line. not (is line)) lines ≡ None
    → take_while is lines ≡ lines
all-good is [] none = refl
all-good is (line ∷ lines) none =
    rw (take_while-cons is line lines)
    (elim (is line) as
    (λ b. cond (not b) (Some line) (find (λ l. not (is l)) lines) ≡ None
    → cond b (line ∷ take_while is lines) [] ≡ line ∷ lines) [
      | true ↦ λ rest. ap (λ xs. line ∷ xs) (all-good is lines rest)
      | false ↦ λ found. absurd (cc)
    ] none)

map-or : {X Y : Type 0} (f : X → Y) (first second : Option X)
    → option_map f (option_or first second) ≡ option_or (option_map f first) (option_map f second)
map-or f None second = refl
map-or f (Some x) second = refl

map-none : {X Y : Type 0} (f : X → Y) (found : Option X) → option_map f found ≡ None → found ≡ None
map-none f None none = refl
map-none f (Some x) none = absurd (cc)

-- the first bad line is the first of no form among those that are read, or else the first that is
-- not UTF-8
bad-is : (bytes : List ℕ)
    → first_bad (line_texts bytes) ≡ option_or (first_formless bytes (good_lines bytes)) (bad_line bytes)
bad-is bytes =
    ap (option_map (λ k. k + 1)) (position_from-zero is_bad (line_texts bytes))
    ∙ number-is is_bad bytes 0 (all_lines bytes) (numbered bytes)
    ∙ ap (option_map (λ line. line.number))
    (first-of-two (is_text bytes) (λ line. is_formless (text_of bytes line)) (all_lines bytes))
    ∙ map-or (λ line. line.number) _ _

good-is : (bytes : List ℕ) → bad_line bytes ≡ None → good_lines bytes ≡ all_lines bytes
good-is bytes none = all-good (is_text bytes) (all_lines bytes) (map-none (λ line. line.number) _ none)

-- ---- what is due, by what was found
pub lines-given : (bytes : List ℕ) (good : List Line) (bad : Option ℕ) (told : List SessionLine)
    → good ≡ good_lines bytes → bad ≡ bad_line bytes → bad ≡ None → good_due bytes good ≡ Ok told
    → lines_due (line_texts bytes) ≡ Ok told
lines-given bytes good bad told are is none due =
    let never = sym is ∙ none in
    ap (λ found. unless_bad found (told_in (line_texts bytes)))
    (bad-is bytes ∙ ap (option_or (first_formless bytes (good_lines bytes))) never
    ∙ or-none (first_formless bytes (good_lines bytes)))
    ∙ ap (λ lines. unless_bad (first_formless bytes (good_lines bytes))
    (told_in (map (text_of bytes) lines))) (sym (good-is bytes never))
    ∙ ap (good_due bytes) (sym are)
    ∙ due

-- where lines are told, none of them is of no form
no-fault : (found : Option ℕ) (lines told : List SessionLine) → unless_bad found lines ≡ Ok told
    → found ≡ None
no-fault None lines told due = refl
no-fault (Some line) lines told due = absurd (cc)

pub bad-given : (bytes : List ℕ) (good : List Line) (bad : Option ℕ) (line : ℕ)
    (told : List SessionLine)
    → good ≡ good_lines bytes → bad ≡ bad_line bytes → bad ≡ Some line → good_due bytes good ≡ Ok told
    → lines_due (line_texts bytes) ≡ Err (Bad line)
bad-given bytes good bad line told are is some due =
    ap (λ found. unless_bad found (told_in (line_texts bytes)))
    (bad-is bytes
    ∙ ap (λ found. option_or found (bad_line bytes))
    (ap (first_formless bytes) (sym are) ∙ no-fault (first_formless bytes good) _ told due)
    ∙ sym is ∙ some)

-- a fault among the lines that are read is the first
first-fault : (found bad : Option ℕ) (lines all : List SessionLine) (fault : ScriptFault)
    → unless_bad found lines ≡ Err fault
    → unless_bad (option_or found bad) all ≡ Err fault
first-fault None bad lines all fault due = absurd (cc)
first-fault (Some line) bad lines all fault due = due

pub fault-given : (bytes : List ℕ) (good : List Line) (fault : ScriptFault)
    → good ≡ good_lines bytes → FailsAs MayComeOfScripts (good_due bytes good) fault
    → FailsAs MayComeOfScripts (lines_due (line_texts bytes)) fault
fault-given bytes good fault are (inl comes) = inl comes
fault-given bytes good fault are (inr due) =
    inr (ap (λ found. unless_bad found (told_in (line_texts bytes))) (bad-is bytes)
    ∙ first-fault (first_formless bytes (good_lines bytes)) (bad_line bytes) _ _ fault
    (ap (good_due bytes) (sym are) ∙ due))

-- ---- how many lines there are
few-of : (f : List ℕ → Option SessionLine) (texts : List (List ℕ))
    → length (filter_map f texts) ≤ length texts
few-of f [] = omega arith
few-of f (text ∷ texts) = by (f text) (few-of f texts)
  where
    by : (found : Option SessionLine) → length (filter_map f texts) ≤ length texts
        → length (cons_option found (filter_map f texts)) ≤ length (text ∷ texts)
    by None few = omega (arith, few)
    by (Some line) few = omega (arith, few)

-- no more lines are told than are read
pub few-told : (bytes : List ℕ) (lines : List Line) (told : List SessionLine) (count : ℕ)
    → good_due bytes lines ≡ Ok told → length lines ≤ count → length told ≤ count
few-told bytes lines told count due few = by (first_formless bytes lines) due
  where
    texts : List (List ℕ)
    texts = map (text_of bytes) lines

    within : (a b c d : ℕ) → a ≡ b → b ≤ c → c ≡ d → d ≤ count → a ≤ count
    within a b c d is less same most = omega (arith, is, less, same, most)

    short : told_in texts ≡ told → length told ≤ count
    short is =
        within (length told) (length (told_in texts)) (length texts) (length lines)
        (sym (ap length is)) (few-of line_told texts) (length-map lines (text_of bytes)) few

    lines_in : Result (List SessionLine) ScriptFault → List SessionLine
    lines_in (Ok found) = found
    lines_in (Err fault) = []

    by : (bad : Option ℕ) → unless_bad bad (told_in texts) ≡ Ok told → length told ≤ count
    by None is = short (ap lines_in is)
    by (Some line) is = absurd (cc)
