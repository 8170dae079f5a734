-- The lines of an input that is heard piece by piece.
use Rattle.std.proofs.Common.{◌≡◌, ◌∙◌, refl, sym, ap, subst, inl, inr, ℕ, ◌+◌, ◌-◌, ◌<◌, ◌≤◌, ◌==◌}
use Rattle.std.proofs.Common.{Bool, true, false, not, List, [], ◌∷◌, ◌++◌, length, drop, take, map}
use Rattle.std.proofs.Common.{get_or, arith, append-nil, append_assoc, length-drop, length-take}
use Rattle.std.proofs.Common.{drop-drop, if◌then◌else◌}
use borrow.Author.Tests.{ne_eqb}
use Rattle.std.specs.List.{All, list_any, slice_split, onto_first, join_with_byte}
use Rattle.std.specs.Str.Lines.{strip_carriage_return}
use Rattle.std.proofs.lemmas.Bool.{cases_eq, or_parts}
use Rattle.std.proofs.lemmas.List.{drop-append-le, drop_at, length_push, take_at, take-append-drop}
use Rattle.std.proofs.lemmas.List.Elements.{All-from_recursion}
use Rattle.std.proofs.lemmas.List.Sums.{take_while-cons}
use Rattle.std.proofs.lemmas.List.Splits.{slice_split_none, length-slice_split}
use Rattle.std.proofs.lemmas.List.Splits.{join_with_byte-slice_split}
use Rattle.outside.specs.lists.Laws.{each-append}
use Rattle.text_lines.specs.Lines.{first_place, is_line_feed, line_at, lines_from, lines_after}
use Rattle.text_lines.specs.Lines.{line_texts, text_of}
use Rattle.input_lines.specs.Answers.{HasNoBreak}
use Rattle.input_lines.specs.Lines.{EndsLine, before_quit, piece_text, unmarked}
use Rattle.input_lines.specs.Turns.{IsFront, start, behind}
use Rattle.input_lines.specs.declared.limits.TheConstants.{LINE_LIMIT}

-- ---- bytes without a line feed

-- two parts without a line feed are a whole without one
pub no-break-both : (front back : List ℕ) → HasNoBreak front → HasNoBreak back
    → HasNoBreak (front ++ back)
no-break-both front back = each-append (λ byte. ¬ (byte ≡ 10)) front back

-- and the parts of such a whole have none
pub no-break-parts : (front back : List ℕ) → HasNoBreak (front ++ back) → HasNoBreak front
    × HasNoBreak back
no-break-parts [] back whole = (tt, whole)
no-break-parts (byte ∷ front) back whole =
    let later = no-break-parts front back whole.1 in
    ((whole.0, later.0), later.1)

-- a search for a line feed finds none in them
no-break-none : (bytes : List ℕ) → HasNoBreak bytes → All (λ byte. is_line_feed byte ≡ false) bytes
no-break-none bytes whole = λ k d within.
    ne_eqb (get_or bytes k d) 10 (All-from_recursion (λ byte. ¬ (byte ≡ 10)) bytes whole k d within)

-- ---- the lines of bytes, without looking for a mark

-- the texts of the lines of the pieces between line feeds
abbrev texts_of : List (List ℕ) → List (List ℕ)
texts_of [] = []
texts_of (piece ∷ []) = if length piece == 0 then [] else strip_carriage_return piece ∷ []
texts_of (piece ∷ next ∷ more) = strip_carriage_return piece ∷ texts_of (next ∷ more)

-- the lines of bytes that begin with no mark
abbrev pub raw_lines : List ℕ → List (List ℕ)
raw_lines bytes = texts_of (slice_split is_line_feed bytes)

-- a piece begins with its text, and has one byte more at most
stripped : (piece : List ℕ) → (end : List ℕ) × (piece ≡ strip_carriage_return piece ++ end)
    × (length piece ≤ length (strip_carriage_return piece) + 1)
stripped piece = by (get_or piece (length piece - 1) 0 == 13)
  where
    front : Bool → List ℕ
    front test = if test then take (length piece - 1) piece else piece

    by : (test : Bool) → (end : List ℕ) × (piece ≡ front test ++ end)
        × (length piece ≤ length (front test) + 1)
    by true = (
      drop (length piece - 1) piece,
      sym (take-append-drop (length piece - 1) piece),
      omega (arith, length-take (length piece - 1) piece),
    )
    by false = ([], sym (append-nil piece), omega arith)

-- the text of a line that begins where a piece does
line-text : (bytes : List ℕ) (number place : ℕ) (piece after : List ℕ) → drop place bytes ≡ piece
    ++ after
    → text_of bytes (line_at number place piece) ≡ strip_carriage_return piece
line-text bytes number place piece after is =
    let kept : List ℕ = strip_carriage_return piece in
    let end = stripped piece in
    let count : place + length kept - place ≡ length kept = omega arith in
    ap (λ n. take n (drop place bytes)) count
    ∙ ap (take (length kept)) (is ∙ ap (λ p. p ++ after) end.1 ∙ append_assoc kept end.0 after)
    ∙ take_at kept (end.0 ++ after) (length kept) refl

lines-texts : (bytes : List ℕ) (number place : ℕ) (pieces : List (List ℕ))
    → drop place bytes ≡ join_with_byte 10 pieces
    → map (text_of bytes) (lines_from number place pieces) ≡ texts_of pieces
lines-texts bytes number place [] is = refl
lines-texts bytes number place (piece ∷ []) is = by (length piece == 0)
  where
    by : (test : Bool) → map (text_of bytes) (if test then [] else line_at number place piece ∷ [])
        ≡ (if test then [] else strip_carriage_return piece ∷ [])
    by true = refl
    by false = ap (λ text. text ∷ [])
        (line-text bytes number place piece [] (is ∙ sym (append-nil piece)))
lines-texts bytes number place (piece ∷ next ∷ more) is =
    let rest : List ℕ = join_with_byte 10 (next ∷ more) in
    let later : drop (place + length piece + 1) bytes ≡ rest =
    ap (λ n. drop n bytes) (omega arith) ∙ sym (drop-drop (length piece + 1) place bytes)
    ∙ ap (drop (length piece + 1)) (is ∙ sym (append_assoc piece (10 ∷ []) rest))
    ∙ drop_at (piece ++ 10 ∷ []) rest (length piece + 1) (length_push piece 10) in
    (λ i. line-text bytes number place piece (10 ∷ rest) is i
    ∷ lines-texts bytes (number + 1) (place + length piece + 1) (next ∷ more) later i)

-- the lines of all bytes are those behind the mark
lines-raw : (bytes : List ℕ) → line_texts bytes ≡ raw_lines (unmarked true bytes)
unfolding lines_after
lines-raw bytes =
    let place : ℕ = first_place bytes in
    lines-texts bytes 1 place (slice_split is_line_feed (drop place bytes))
    (sym (join_with_byte-slice_split 10 (drop place bytes)))

-- nothing has no lines
pub no-lines : line_texts [] ≡ []
no-lines = lines-raw []

-- ---- behind a line feed all is as at the start

onto-append : (byte : ℕ) (pieces others : List (List ℕ)) → 0 < length pieces
    → onto_first byte (pieces ++ others) ≡ onto_first byte pieces ++ others
onto-append byte [] others some = absurd (omega arith)
onto-append byte (piece ∷ pieces) others some = refl

-- a line feed parts the pieces before it from those behind it
split-feed : (before more : List ℕ)
    → slice_split is_line_feed (before ++ 10 ∷ more) ≡ slice_split is_line_feed before
    ++ slice_split is_line_feed more
split-feed [] more = refl
split-feed (byte ∷ before) more =
    grind (arith, split-feed before more, onto-append, length-slice_split)

texts-append : (pieces others : List (List ℕ)) → 0 < length others
    → texts_of (pieces ++ others) ≡ map strip_carriage_return pieces ++ texts_of others
texts-append [] others some = refl
texts-append (piece ∷ []) [] some = absurd (omega arith)
texts-append (piece ∷ []) (other ∷ others) some = refl
texts-append (piece ∷ next ∷ more) others some =
    ap (λ texts. strip_carriage_return piece ∷ texts) (texts-append (next ∷ more) others some)

raw-feed : (before more : List ℕ)
    → raw_lines (before ++ 10 ∷ more) ≡ map strip_carriage_return (slice_split is_line_feed before)
    ++ raw_lines more
raw-feed before more =
    ap texts_of (split-feed before more)
    ∙ texts-append (slice_split is_line_feed before) (slice_split is_line_feed more)
    (omega (arith, length-slice_split is_line_feed more))

raw-behind : (before more : List ℕ)
    → raw_lines (before ++ 10 ∷ more) ≡ raw_lines (before ++ 10 ∷ []) ++ raw_lines more
raw-behind before more = rw (raw-feed before more, raw-feed before [], append-nil)

-- bytes without a line feed are one line, if there are any
raw-last : (piece : List ℕ) → HasNoBreak piece
    → raw_lines piece ≡ (if length piece == 0 then [] else strip_carriage_return piece ∷ [])
raw-last piece whole = ap texts_of (slice_split_none is_line_feed piece (no-break-none piece whole))

-- a line feed behind them ends the line
raw-first : (piece more : List ℕ) → HasNoBreak piece
    → raw_lines (piece ++ 10 ∷ more) ≡ strip_carriage_return piece ∷ raw_lines more
raw-first piece more whole =
    rw (raw-feed piece more, slice_split_none is_line_feed piece (no-break-none piece whole))

-- ---- a mark at the very start

mark-feed : (before more : List ℕ) → first_place (before ++ 10 ∷ more) ≡ first_place before
mark-feed (a ∷ b ∷ c ∷ before) more = refl
mark-feed before more = refl

mark-more : (piece more : List ℕ) → 3 ≤ length piece
    → first_place (piece ++ more) ≡ first_place piece
mark-more (a ∷ b ∷ c ∷ piece) more long = refl
mark-more piece more long = absurd (omega arith)

mark-within : (bytes : List ℕ) → first_place bytes ≤ length bytes
mark-within (a ∷ b ∷ c ∷ bytes) = grind arith
mark-within bytes = grind arith

-- what is behind a line feed does not change where the first line begins
unmarked-feed : (is_first : Bool) (piece more : List ℕ) → unmarked is_first (piece ++ 10 ∷ more)
    ≡ unmarked is_first piece ++ 10 ∷ more
unmarked-feed false piece more = refl
unmarked-feed true piece more =
    rw (mark-feed piece more)
    (drop-append-le (first_place piece) piece (10 ∷ more) (mark-within piece))

-- nor does what is behind three bytes
unmarked-more : (is_first : Bool) (piece more : List ℕ) → 3 ≤ length piece
    → unmarked is_first (piece ++ more) ≡ unmarked is_first piece ++ more
unmarked-more false piece more long = refl
unmarked-more true piece more long =
    rw (mark-more piece more long)
    (drop-append-le (first_place piece) piece more (mark-within piece))

-- without a mark a piece is no longer
unmarked-short : (is_first : Bool) (piece : List ℕ)
    → length (unmarked is_first piece) ≤ length piece
unmarked-short false piece = omega arith
unmarked-short true piece = omega (arith, length-drop (first_place piece) piece)

-- and it has no line feed if it had none before
unmarked-no-break : (is_first : Bool) (piece : List ℕ) → HasNoBreak piece
    → HasNoBreak (unmarked is_first piece)
unmarked-no-break false piece whole = whole
unmarked-no-break true piece whole =
    let place : ℕ = first_place piece in
    (no-break-parts (take place piece) (drop place piece)
    (subst HasNoBreak (sym (take-append-drop place piece)) whole)).1

-- nor has its text
pub piece-no-break : (is_first : Bool) (piece : List ℕ) → HasNoBreak piece
    → HasNoBreak (piece_text is_first piece)
piece-no-break is_first piece whole =
    let end = stripped (unmarked is_first piece) in
    (no-break-parts (piece_text is_first piece) end.0
    (subst HasNoBreak end.1 (unmarked-no-break is_first piece whole))).0

-- ---- the lines of what was heard

-- a front ends a line, or is nothing
pub ends-line : {front : List ℕ} {is_first : Bool} → IsFront front is_first → EndsLine front
ends-line start = inl refl
ends-line (behind before) = inr (before, refl)

-- behind one line more it is a front again
pub front-longer : (front piece : List ℕ) → IsFront (front ++ (piece ++ 10 ∷ [])) false
front-longer front piece =
    subst (λ f. IsFront f false) (append_assoc front piece (10 ∷ [])) (behind (front ++ piece))

-- behind a front the lines go on with those of what follows, without a mark that may stand there
pub lines-behind : {front : List ℕ} {is_first : Bool} (more : List ℕ) → IsFront front is_first
    → line_texts (front ++ more) ≡ line_texts front ++ raw_lines (unmarked is_first more)
lines-behind more start =
    lines-raw more ∙ ap (λ texts. texts ++ raw_lines (unmarked true more)) (sym no-lines)
lines-behind more (behind before) =
    ap line_texts (append_assoc before (10 ∷ []) more) ∙ lines more
    ∙ raw-behind (unmarked true before) more
    ∙ ap (λ texts. texts ++ raw_lines more) (sym (lines []))
  where
    lines : (rest : List ℕ)
        → line_texts (before ++ 10 ∷ rest) ≡ raw_lines (unmarked true before ++ 10 ∷ rest)
    lines rest = lines-raw (before ++ 10 ∷ rest) ∙ ap raw_lines (unmarked-feed true before rest)

-- this line comes behind those of a front of an input
pub record HasNext (input front line : List ℕ) : Type 0 where
  pub later : List (List ℕ)
  pub lines_are : line_texts input ≡ line_texts front ++ line ∷ later

module _ {front : List ℕ} {is_first : Bool} (begins : IsFront front is_first) (piece : List ℕ)
    (whole : HasNoBreak piece) where
  -- a piece with a line feed behind it is the next line, whatever follows
  pub line-then : (more : List ℕ)
      → line_texts (front ++ (piece ++ 10 ∷ more)) ≡ line_texts front ++ piece_text is_first piece
      ∷ raw_lines more
  line-then more = rw (
    lines-behind (piece ++ 10 ∷ more) begins,
    unmarked-feed is_first piece more,
    raw-first (unmarked is_first piece) more (unmarked-no-break is_first piece whole),
  )

  -- at the end of the input it is one line more, unless nothing is left of it without a mark
  pub line-last : line_texts (front ++ piece)
      ≡ line_texts front
      ++ (if length (unmarked is_first piece) == 0 then [] else piece_text is_first piece ∷ [])
  line-last = lines-behind piece begins
      ∙ ap (λ texts. line_texts front ++ texts)
      (raw-last (unmarked is_first piece) (unmarked-no-break is_first piece whole))

-- ---- a line that is not heard to its end

-- a piece that has some bytes begins a line, whatever follows: the line lacks one of its bytes at
-- most
raw-ahead : (piece more : List ℕ) → HasNoBreak piece → 0 < length piece
    → (line : List ℕ) × (later : List (List ℕ)) × (raw_lines (piece ++ more) ≡ line ∷ later)
    × (length piece ≤ length line + 1)
raw-ahead piece [] whole some =
    let some : length piece == 0 ≡ false = ne_eqb (length piece) 0 (λ none. omega arith) in (
      strip_carriage_return piece,
      [],
      rw (append-nil piece, raw-last piece whole, some),
      (stripped piece).2,
    )
raw-ahead piece (byte ∷ more) whole some = elim (cases_eq byte 10) [
  | inl feed ↦ (
    strip_carriage_return piece,
    raw_lines more,
    rw feed (raw-first piece more whole),
    (stripped piece).2,
  )
  | inr other ↦
      let ahead =
      raw-ahead (piece ++ byte ∷ []) more
      (no-break-both piece (byte ∷ []) whole (other, tt))
      (omega (arith, length_push piece byte)) in
      let long : length piece ≤ length ahead.0 + 1 =
      omega (arith, length_push piece byte, ahead.3) in
      (ahead.0, ahead.1, ap raw_lines (sym (append_assoc piece (byte ∷ []) more)) ∙ ahead.2, long)
]

-- a piece that is longer than a line and a carriage return begins a line that is too long
pub line-too-long : {front : List ℕ} {is_first : Bool} (piece more : List ℕ)
    → IsFront front is_first → HasNoBreak piece
    → LINE_LIMIT + 1 < length (unmarked is_first piece)
    → (line : List ℕ) × HasNext (front ++ (piece ++ more)) front line × (LINE_LIMIT < length line)
line-too-long {front} {is_first} piece more begins whole long =
    let bare : List ℕ = unmarked is_first piece in
    let short : length bare ≤ length piece = unmarked-short is_first piece in
    let ahead = raw-ahead bare more (unmarked-no-break is_first piece whole) (omega arith) in
    let lines : raw_lines (unmarked is_first (piece ++ more)) ≡ ahead.0 ∷ ahead.1 =
    ap raw_lines (unmarked-more is_first piece more (omega arith)) ∙ ahead.2 in
    let over : LINE_LIMIT < length ahead.0 = omega (arith, ahead.3) in (
      ahead.0,
      record {
        later = ahead.1;
        lines_are = lines-behind (piece ++ more) begins
            ∙ ap (λ texts. line_texts front ++ texts) lines;
      },
      over,
    )

-- ---- up to the line that ends the input

-- lines of which none ends it stand before the one that does, and then those that follow them up to
-- it
pub quit-later : (quits : List ℕ → Bool) (lines later : List (List ℕ))
    → list_any quits lines ≡ false
    → before_quit quits (lines ++ later) ≡ lines ++ before_quit quits later
quit-later quits [] later none = refl
quit-later quits (line ∷ lines) later none =
    let parts = or_parts (quits line) (list_any quits lines) none in
    rw (
      take_while-cons (λ line. not (quits line)) line (lines ++ later),
      parts.0,
      quit-later quits lines later parts.1,
    )

-- all lines stand before it where none is it
pub quit-never : (quits : List ℕ → Bool) (lines : List (List ℕ)) → list_any quits lines ≡ false
    → before_quit quits lines ≡ lines
quit-never quits lines none = rw append-nil at (quit-later quits lines [] none)
