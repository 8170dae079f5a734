-- A text read piece by piece.
use Rattle.std.proofs.Common.{◌≡◌, ℕ, zero, suc, ◌+◌, ◌-◌, ◌<◌, ◌≤◌, true, false, not, cond, List}
use Rattle.std.proofs.Common.{[], ◌∷◌, ◌++◌, length, drop, take, get_or, nat_lt, Option, Some, None}
use Rattle.std.proofs.Common.{option_and_then, refl, sym, ap, ◌∙◌, append_assoc, append-nil, arith}
use Rattle.std.proofs.lemmas.Bool.{lt-ltb, le-ltb}
use Rattle.std.proofs.lemmas.List.{drop_more, drop_all, drop-drop, length-append}
use Rattle.std.proofs.Math.Seq.{take-append_seam, drop-append-add}
use Rattle.std.specs.Option.{option_map}
use Rattle.std.specs.List.{AllByRecursion, position, position_or_len}
use Rattle.spell_types.specs.declared.rules.Piece.{Piece}
use Rattle.spell_types.specs.lists.Laws.{take-rest}
use Rattle.affix_classes.specs.ConditionTexts.{opens_set, closes_set, plain_piece, bracket_piece}
use Rattle.affix_classes.specs.ConditionTexts.{bracket}
use Rattle.affix_classes.specs.ConditionTexts.{first_piece, followed_by, pieces_behind, pieces_of}

-- what was read, with what the rest is behind it
abbrev pub after : List Piece → Option (List Piece) → Option (List Piece)
after made rest = option_map (λ pieces. made ++ pieces) rest

pieces_behind-drop : (read : ℕ) (text : List ℕ)
    → pieces_behind read text ≡ pieces_of (drop read text)
unfolding pieces_of
pieces_behind-drop zero text = refl
pieces_behind-drop (suc read) [] = refl
pieces_behind-drop (suc read) (c ∷ text) = pieces_behind-drop read text

pub pieces_of-nil : pieces_of [] ≡ Some []
unfolding pieces_of
pieces_of-nil = refl

-- a text that begins with a piece is that piece, followed by what the rest is
pub pieces_of-piece : (c : ℕ) (text : List ℕ) (piece : Piece) (more : ℕ)
    → first_piece c text ≡ Some (piece, more)
    → pieces_of (c ∷ text) ≡ followed_by piece (pieces_of (drop more text))
unfolding pieces_of
pieces_of-piece c text piece more found =
    ap (option_and_then (λ found. followed_by found.0 (pieces_behind found.1 text))) found
    ∙ ap (followed_by piece) (pieces_behind-drop more text)

-- and a text that begins with none is no condition
pub pieces_of-none : (c : ℕ) (text : List ℕ) → first_piece c text ≡ None
    → pieces_of (c ∷ text) ≡ None
unfolding pieces_of
pieces_of-none c text none =
    ap (option_and_then (λ found. followed_by found.0 (pieces_behind found.1 text))) none

pub pieces_of-plain : (c : ℕ) (text : List ℕ) → opens_set c ≡ false
    → pieces_of (c ∷ text) ≡ followed_by (plain_piece c) (pieces_of text)
pieces_of-plain c text plain =
    pieces_of-piece c text (plain_piece c) 0
    (ap (λ b. cond b (bracket text) (Some (plain_piece c, 0))) plain)

closed_at : (inside text : List ℕ) → AllByRecursion (λ c. closes_set c ≡ false) inside
    → position_or_len closes_set (inside ++ 93 ∷ text) ≡ length inside
closed_at [] text each = refl
closed_at (c ∷ inside) text each =
    ap (λ b. cond (not b) (1 + position_or_len closes_set (inside ++ 93 ∷ text)) 0) each.0
    ∙ omega (arith, closed_at inside text each.1)

never_closed : (text : List ℕ) → AllByRecursion (λ c. closes_set c ≡ false) text
    → position_or_len closes_set text ≡ length text
never_closed [] each = refl
never_closed (c ∷ text) each =
    ap (λ b. cond (not b) (1 + position_or_len closes_set text) 0) each.0
    ∙ omega (arith, never_closed text each.1)

position-closed : (inside text : List ℕ) → AllByRecursion (λ c. closes_set c ≡ false) inside
    → position closes_set (inside ++ 93 ∷ text) ≡ Some (length inside)
position-closed inside text each =
    let whole = inside ++ 93 ∷ text in
    let shorter : nat_lt (length inside) (length whole) ≡ true =
    lt-ltb _ _ (omega (arith, length-append inside (93 ∷ text))) in
    ap (λ n. cond (nat_lt n (length whole)) (Some n) None) (closed_at inside text each)
    ∙ ap (λ b. cond b (Some (length inside)) None) shorter

position-unclosed : (text : List ℕ) → AllByRecursion (λ c. closes_set c ≡ false) text
    → position closes_set text ≡ None
position-unclosed text each =
    let no_shorter : nat_lt (length text) (length text) ≡ false = le-ltb _ _ (omega arith) in
    ap (λ n. cond (nat_lt n (length text)) (Some n) None) (never_closed text each)
    ∙ ap (λ b. cond b (Some (length text)) None) no_shorter

pub pieces_of-bracket : (inside text : List ℕ) → AllByRecursion (λ c. closes_set c ≡ false) inside
    → pieces_of (91 ∷ (inside ++ 93 ∷ text)) ≡ followed_by (bracket_piece inside) (pieces_of text)
pieces_of-bracket inside text each =
    let whole = inside ++ 93 ∷ text in
    pieces_of-piece 91 whole (bracket_piece inside) (length inside + 1)
    (ap (option_map (λ place. (bracket_piece (take place whole), place + 1)))
    (position-closed inside text each)
    ∙ ap (λ xs. Some (bracket_piece xs, length inside + 1)) (take-append_seam inside (93 ∷ text)))
    ∙ ap (λ rest. followed_by (bracket_piece inside) (pieces_of rest))
    (drop-append-add inside (93 ∷ text) 1)

pub pieces_of-unclosed : (text : List ℕ) → AllByRecursion (λ c. closes_set c ≡ false) text
    → pieces_of (91 ∷ text) ≡ None
pieces_of-unclosed text each =
    pieces_of-none 91 text
    (ap (option_map (λ place. (bracket_piece (take place text), place + 1)))
    (position-unclosed text each))

after-push : (made : List Piece) (piece : Piece) (rest : Option (List Piece))
    → after made (followed_by piece rest) ≡ after (made ++ piece ∷ []) rest
after-push made piece None = refl
after-push made piece (Some pieces) =
    ap (λ xs. Some xs) (sym (append_assoc made (piece ∷ []) pieces))

-- a step of the reader: a piece is read, and all is as it was
pub piece_read : (text : List ℕ) (made grown : List Piece) (place c : ℕ) (piece : Piece) (more : ℕ)
    → place < length text → c ≡ get_or text place c
    → first_piece c (take (length text - (place + 1)) (drop (place + 1) text)) ≡ Some (piece, more)
    → grown ≡ made ++ piece ∷ [] → after made (pieces_of (drop place text)) ≡ pieces_of text
    → after grown (pieces_of (drop (place + (1 + more)) text)) ≡ pieces_of text
piece_read text made grown place c piece more within here found pushed so_far =
    let rest = drop (place + 1) text in
    let read : first_piece c rest ≡ Some (piece, more) =
    ap (first_piece c) (sym (take-rest (place + 1) text)) ∙ found in
    let same : place + (1 + more) ≡ place + 1 + more = omega arith in
    ap (λ xs. after xs (pieces_of (drop (place + (1 + more)) text))) pushed
    ∙ ap (λ n. after (made ++ piece ∷ []) (pieces_of (drop n text))) same
    ∙ ap (λ xs. after (made ++ piece ∷ []) (pieces_of xs)) (sym (drop-drop more (place + 1) text))
    ∙ sym (after-push made piece (pieces_of (drop more rest)))
    ∙ ap (after made)
    (sym (ap pieces_of (drop_more text place c within ∙ ap (λ x. x ∷ rest) (sym here))
    ∙ pieces_of-piece c rest piece more read))
    ∙ so_far

-- where no piece is read the text is no condition
pub none_read : (text : List ℕ) (made : List Piece) (place c : ℕ) → place < length text
    → c ≡ get_or text place c
    → first_piece c (take (length text - (place + 1)) (drop (place + 1) text)) ≡ None
    → after made (pieces_of (drop place text)) ≡ pieces_of text → pieces_of text ≡ None
none_read text made place c within here none so_far =
    sym so_far
    ∙ ap (after made)
    (ap pieces_of
    (drop_more text place c within ∙ ap (λ x. x ∷ drop (place + 1) text) (sym here))
    ∙ pieces_of-none c (drop (place + 1) text)
    (ap (first_piece c) (sym (take-rest (place + 1) text)) ∙ none))

-- at the end all is read
pub all_read : (text : List ℕ) (made : List Piece) (place : ℕ) → length text ≤ place
    → after made (pieces_of (drop place text)) ≡ pieces_of text → pieces_of text ≡ Some made
all_read text made place end so_far =
    sym so_far ∙ ap (after made) (ap pieces_of (drop_all place text end) ∙ pieces_of-nil)
    ∙ ap (λ xs. Some xs) (append-nil made)
