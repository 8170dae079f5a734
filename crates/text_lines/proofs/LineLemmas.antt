-- What the walk over the lines of a file keeps, and a step of it.
use Rattle.std.proofs.Common.{◌≡◌, ◌∙◌, refl, sym, ap, ℕ, zero, suc, add-zero, add-one, add_comm}
use Rattle.std.proofs.Common.{map, ◌+◌, ◌-◌, ◌<◌, ◌≤◌, Bool, true, false, not, List, [], ◌∷◌, ◌++◌}
use Rattle.std.proofs.Common.{length, drop, take, cond, Option, None, Some, unwrap_or, find}
use Rattle.std.proofs.Common.{slice_range, append_assoc, Result, Ok, Err, is_ok}
use Rattle.std.proofs.Common.{MatchResult, Bor, arith, length-drop, length-take}
use Rattle.std.specs.List.{All, slice_split, position_or_len, take_while, range_with_len}
use Rattle.std.specs.Option.{option_map}
use Rattle.std.proofs.lemmas.List.{drop-drop, drop_all, take_all, length_push, map-append}
use mathlib.Core.Logic.{⊎_elim}
use borrow.Author.Tests.{ne_eqb}
use Rattle.std.proofs.lemmas.List.Splits.{slice_split_first, slice_split_none, length-slice_split}
use Rattle.std.proofs.lemmas.List.Sums.{position_or_len_is, fails_before_first, take_while-cons}
use Rattle.std.proofs.lemmas.List.Elements.{All-push}
use Rattle.std.proofs.lemmas.Str.{IsUtf8-from_is_utf8, is_utf8-from_IsUtf8}
use Rattle.std.specs.Str.{IsUtf8, is_utf8}
use Rattle.std.proofs.lemmas.Bool.{cases_lt, lt-ltb, le-ltb}
use Rattle.bstr.specs.Find.{IsFirstByte, is_byte}
use Rattle.text_lines.specs.declared.found.Ahead.{Ahead}
use Rattle.text_lines.specs.declared.found.Line.{Line}
use Rattle.text_lines.specs.Lines.{is_line_feed, line_at, lines_from, lines_after, is_text}
use Rattle.text_lines.specs.Lines.{good_lines, bad_line, good_ahead, bad_ahead, number_here}
use Rattle.text_lines.specs.Lines.{IsInside, ComesNext}

false_from_not_true : (b : Bool) → (b ≡ true → ⊥) → b ≡ false
false_from_not_true true h = absurd (h refl)
false_from_not_true false h = refl

-- the first place of a line feed, as the walk looks for it
pub place_of_line_feed : (hay : List ℕ) (r : Option ℕ) → IsFirstByte (is_byte 10) hay r
    → unwrap_or r (length hay) ≡ position_or_len is_line_feed hay
place_of_line_feed hay None h =
    sym (position_or_len_is is_line_feed hay (length hay) 0 (omega arith)
    (λ k l. false_from_not_true _ (h k (omega arith) l)) (λ l. absurd (omega arith)))
place_of_line_feed hay (Some at) h =
    let high : at < length hay = h.0.high in
    sym (position_or_len_is is_line_feed hay at 0 (omega arith)
    (λ k l. false_from_not_true _ (h.0.before k (omega arith) l)) (λ l. h.1))

lines_from-cons : (number place : ℕ) (piece : List ℕ) (pieces : List (List ℕ)) → 0 < length pieces
    → lines_from number place (piece ∷ pieces) ≡ line_at number place piece
    ∷ lines_from (number + 1) (place + length piece + 1) pieces
lines_from-cons number place piece [] some = absurd (omega arith)
lines_from-cons number place piece (next ∷ more) some = refl

-- past the end there is no line
pub lines_after_end : (bytes : List ℕ) (number place : ℕ) → length bytes ≤ place
    → lines_after bytes number place ≡ []
unfolding lines_after
lines_after_end bytes number place past =
    ap (λ rest. lines_from number place (slice_split is_line_feed rest)) (drop_all place bytes past)

-- the piece that begins at a place ends at the next line feed, or at the end of the bytes
abbrev pub stop_of : List ℕ → ℕ → ℕ
stop_of bytes place = place + position_or_len is_line_feed (drop place bytes)

step_at_line_feed : (bytes : List ℕ) (number place : ℕ)
    → position_or_len is_line_feed (drop place bytes) < length (drop place bytes)
    → lines_after bytes number place
    ≡ line_at number place (slice_range bytes place (stop_of bytes place))
    ∷ lines_after bytes (number + 1) (stop_of bytes place + 1)
unfolding lines_after
step_at_line_feed bytes number place before =
    let rest : List ℕ = drop place bytes in
    let n : ℕ = position_or_len is_line_feed rest in
    let piece_is : slice_range bytes place (place + n) ≡ take n rest =
    ap (λ k. take k rest) (omega arith) in
    let long : length (take n rest) ≡ n = omega (arith, length-take n rest) in
    let later : drop (n + 1) rest ≡ drop (place + n + 1) bytes =
    drop-drop (n + 1) place bytes ∙ ap (λ k. drop k bytes) (omega arith) in
    ap (lines_from number place) (slice_split_first is_line_feed rest 0 before)
    ∙ lines_from-cons number place (take n rest) (slice_split is_line_feed (drop (n + 1) rest))
    (omega (arith, length-slice_split is_line_feed (drop (n + 1) rest)))
    ∙ ap (λ piece. line_at number place piece
    ∷ lines_from (number + 1) (place + length (take n rest) + 1)
    (slice_split is_line_feed (drop (n + 1) rest))) (sym piece_is)
    ∙ ap (λ k. line_at number place (slice_range bytes place (place + n))
    ∷ lines_from (number + 1) (place + k + 1) (slice_split is_line_feed (drop (n + 1) rest)))
    long
    ∙ ap (λ later. line_at number place (slice_range bytes place (place + n))
    ∷ lines_from (number + 1) (place + n + 1) (slice_split is_line_feed later)) later

last_piece : (number place : ℕ) (piece : List ℕ) → 0 < length piece
    → lines_from number place (piece ∷ []) ≡ line_at number place piece ∷ []
last_piece number place piece some =
    ap (λ t. cond t [] (line_at number place piece ∷ []))
    (ne_eqb (length piece) 0 (λ z. omega arith))

step_at_end : (bytes : List ℕ) (number place : ℕ) → place < length bytes
    → length (drop place bytes) ≤ position_or_len is_line_feed (drop place bytes)
    → lines_after bytes number place
    ≡ line_at number place (slice_range bytes place (stop_of bytes place))
    ∷ lines_after bytes (number + 1) (stop_of bytes place + 1)
unfolding lines_after
step_at_end bytes number place within none =
    let rest : List ℕ = drop place bytes in
    let n : ℕ = position_or_len is_line_feed rest in
    let long : length rest ≡ length bytes - place = length-drop place bytes in
    let piece_is : slice_range bytes place (place + n) ≡ rest =
    take_all (place + n - place) rest (omega arith) in
    let lacks : All (λ byte. is_line_feed byte ≡ false) rest =
    λ k d l. fails_before_first is_line_feed rest k d (omega arith) in
    ap (lines_from number place) (slice_split_none is_line_feed rest lacks)
    ∙ last_piece number place rest (omega arith)
    ∙ ap (λ piece. line_at number place piece ∷ []) (sym piece_is)
    ∙ ap (λ later. line_at number place (slice_range bytes place (place + n)) ∷ later)
    (sym (lines_after_end bytes (number + 1) (place + n + 1) (omega arith)))

-- a step of the walk: one line, and the lines after its line feed
pub lines_after_step : (bytes : List ℕ) (number place : ℕ) → place < length bytes
    → lines_after bytes number place
    ≡ line_at number place (slice_range bytes place (stop_of bytes place))
    ∷ lines_after bytes (number + 1) (stop_of bytes place + 1)
lines_after_step bytes number place within =
    ⊎_elim (step_at_line_feed bytes number place) (step_at_end bytes number place within)
    (cases_lt (position_or_len is_line_feed (drop place bytes)) (length (drop place bytes)))

numbers_push : (a n : ℕ) → range_with_len a (suc n) ≡ range_with_len a n ++ (a + n) ∷ []
numbers_push a zero = ap (λ k. k ∷ []) (sym (add-zero a))
numbers_push a (suc n) =
    ap (λ ks. a ∷ ks)
    (numbers_push (a + 1) n ∙ ap (λ k. range_with_len (a + 1) n ++ k ∷ []) (omega arith))

numbers_more : (good : List Line) (line : Line)
    → map (λ l. l.number) good ≡ range_with_len 1 (length good) → line.number ≡ length good + 1
    → map (λ l. l.number) (good ++ line ∷ []) ≡ range_with_len 1 (length (good ++ line ∷ []))
numbers_more good line before is =
    map-append (λ l. l.number) good (line ∷ [])
    ∙ (λ i. before i ++ (is ∙ add_comm (length good) 1) i ∷ [])
    ∙ sym (numbers_push 1 (length good))
    ∙ ap (range_with_len 1) (sym (length_push good line ∙ add-one (length good)))

-- the line that the walk comes to, from a place up to where its piece stops
pub record Comes (bytes : List ℕ) (number place stop : ℕ) (line : Line) : Type 0 where
  pub within : place < length bytes
  pub stops : stop ≡ stop_of bytes place
  pub is : line ≡ line_at number place (slice_range bytes place stop)

walk_line : (bytes : List ℕ) (number place stop : ℕ) (line : Line)
    → Comes bytes number place stop line
    → lines_after bytes number place ≡ line ∷ lines_after bytes (number + 1) (stop + 1)
walk_line bytes number place stop line comes =
    lines_after_step bytes number place comes.within
    ∙ ap (λ k. line_at number place (slice_range bytes place k)
    ∷ lines_after bytes (number + 1) (k + 1)) (sym comes.stops)
    ∙ ap (λ first. first ∷ lines_after bytes (number + 1) (stop + 1)) (sym comes.is)

reads_line : (bytes : List ℕ) (line : Line) (later : List Line) (test : Bool)
    → is_text bytes line ≡ test
    → take_while (is_text bytes) (line ∷ later)
    ≡ cond test (line ∷ take_while (is_text bytes) later) []
reads_line bytes line later test is =
    take_while-cons (is_text bytes) line later
    ∙ ap (λ b. cond b (line ∷ take_while (is_text bytes) later) []) is

faults_line : (bytes : List ℕ) (line : Line) (later : List Line) (test : Bool)
    → is_text bytes line ≡ test
    → find (λ l. not (is_text bytes l)) (line ∷ later) ≡ cond (not test) (Some line)
    (find (λ l. not (is_text bytes l)) later)
faults_line bytes line later test is =
    ap (λ b. cond (not b) (Some line) (find (λ l. not (is_text bytes l)) later)) is

-- the good line that comes next
pub line_next : (bytes : List ℕ) (ahead next : Ahead) (stop : ℕ) (line : Line)
    → ahead.number ≤ ahead.place + 1
    → Comes bytes ahead.number ahead.place stop line → IsInside bytes line → line.to ≤ stop
    → stop ≤ length bytes → next ≡ record { number = ahead.number + 1; place = stop + 1 }
    → (line ∷ good_ahead bytes next ≡ good_ahead bytes ahead) × ComesNext bytes ahead (line, next)
line_next bytes ahead next stop line count comes inside ends fits is =
    let step = walk_line bytes ahead.number ahead.place stop line comes in
    let later : List Line = lines_after bytes (ahead.number + 1) (stop + 1) in
    let number = ap (λ n. n.number) is in
    let place = ap (λ n. n.place) is in
    let behind : lines_after bytes next.number next.place ≡ later =
    ap (λ n. lines_after bytes n.number n.place) is in
    let own = ap (λ l. l.from) comes.is in (
      ap (λ ls. line ∷ take_while (is_text bytes) ls) behind
          ∙ sym (ap (take_while (is_text bytes)) step
          ∙ reads_line bytes line later true inside.utf8),
      record {
        inside = inside;
        number = ap (λ l. l.number) comes.is;
        next_number = number;
        begins = omega arith;
        ends = omega arith;
        within = omega arith;
        few = let within = comes.within in omega arith;
        bad = ap (λ ls. option_map (λ l. l.number) (find (λ l. not (is_text bytes l)) ls)) behind
            ∙ sym (ap (λ ls. option_map (λ l. l.number) (find (λ l. not (is_text bytes l)) ls)) step
            ∙ ap (option_map (λ l. l.number)) (faults_line bytes line later true inside.utf8));
      },
    )

-- where the bytes are at their end
pub none_at_end : (bytes : List ℕ) (ahead : Ahead) → length bytes ≤ ahead.place
    → ([] ≡ good_ahead bytes ahead) × (bad_ahead bytes ahead ≡ number_here bytes ahead)
none_at_end bytes ahead past =
    let none = lines_after_end bytes ahead.number ahead.place past in (
      sym (ap (take_while (is_text bytes)) none),
      ap (λ ls. option_map (λ l. l.number) (find (λ l. not (is_text bytes l)) ls)) none
          ∙ sym (ap (λ b. cond b (Some ahead.number) None)
          (le-ltb ahead.place (length bytes) past)),
    )

-- where the line that comes next is not UTF-8
pub none_at_bad : (bytes : List ℕ) (ahead : Ahead) (stop : ℕ) (line : Line)
    → Comes bytes ahead.number ahead.place stop line → is_text bytes line ≡ false
    → ([] ≡ good_ahead bytes ahead) × (bad_ahead bytes ahead ≡ number_here bytes ahead)
none_at_bad bytes ahead stop line comes bad =
    let step = walk_line bytes ahead.number ahead.place stop line comes in
    let later : List Line = lines_after bytes (ahead.number + 1) (stop + 1) in (
      sym (ap (take_while (is_text bytes)) step ∙ reads_line bytes line later false bad),
      ap (λ ls. option_map (λ l. l.number) (find (λ l. not (is_text bytes l)) ls)) step
          ∙ ap (option_map (λ l. l.number)) (faults_line bytes line later false bad)
          ∙ ap (λ l. Some l.number) comes.is
          ∙ sym (ap (λ b. cond b (Some ahead.number) None)
          (lt-ltb ahead.place (length bytes) comes.within)),
    )

-- what the walk over the lines keeps: those so far and those ahead are all lines
pub record Walks (bytes : List ℕ) (good : List Line) (ahead : Ahead) : Type 0 where
  pub count : ahead.number ≤ ahead.place + 1
  pub few : ahead.number ≤ length bytes + 1
  pub next : ahead.number ≡ length good + 1
  pub numbers : map (λ line. line.number) good ≡ range_with_len 1 (length good)
  pub within : ahead.place ≤ length bytes + 1
  pub reads : good ++ good_ahead bytes ahead ≡ good_lines bytes
  pub faults : bad_ahead bytes ahead ≡ bad_line bytes
  pub inside : All (IsInside bytes) good

pub walk_more : (bytes : List ℕ) (good : List Line) (ahead next : Ahead) (line : Line)
    → Walks bytes good ahead
    → line ∷ good_ahead bytes next ≡ good_ahead bytes ahead → ComesNext bytes ahead (line, next)
    → Walks bytes (good ++ line ∷ []) next
walk_more bytes good ahead next line walks is comes =
    let ordered = comes.inside.ordered in
    let count = walks.count in
    let begins = comes.begins in
    let ends = comes.ends in
    let number = comes.next_number in
    let before = walks.next in
    let longer = length_push good line in
    record {
      count = omega arith;
      few = comes.few;
      next = omega arith;
      numbers = numbers_more good line walks.numbers (comes.number ∙ walks.next);
      within = comes.within;
      reads = append_assoc good (line ∷ []) (good_ahead bytes next) ∙ ap (λ ls. good ++ ls) is
          ∙ walks.reads;
      faults = comes.bad ∙ walks.faults;
      inside = All-push (IsInside bytes) good line walks.inside comes.inside;
    }

-- `from_utf8` tells the test
pub tells_utf8 : {E : Type 0} (bytes : List ℕ) (r : Result (Bor (List ℕ)) E) (P : E → Type 0)
    → MatchResult r (λ s. (s.now ≡ bytes) × IsUtf8 bytes) (λ e. ¬ (IsUtf8 bytes) × P e)
    → is_ok r ≡ is_utf8 bytes
tells_utf8 bytes (Ok s) P h = sym (is_utf8-from_IsUtf8 bytes h.1)
tells_utf8 bytes (Err e) P h =
    sym (false_from_not_true (is_utf8 bytes) (λ t. h.0 (IsUtf8-from_is_utf8 bytes t)))
