-- The lines of a text, cut at its line feeds, are those of the file, and all are UTF-8 where the
-- text is.
use Rattle.std.proofs.Common.{◌≡◌, ◌≢◌, ℕ, ◌+◌, ◌-◌, ◌<◌, ◌==◌, ◌⊎◌, inl, inr, Bool}
use Rattle.std.proofs.Common.{true, false, not, cond, List, [], ◌∷◌, ◌++◌, append-nil, append_assoc}
use Rattle.std.proofs.Common.{length, map, drop, take, get_or, find, Some, None, refl, sym}
use Rattle.std.proofs.Common.{ap, ◌∙◌, subst, arith, ⊎_elim}
use Rattle.std.specs.List.{All, AllByRecursion, slice_split, join_with_byte}
use Rattle.std.specs.List.{position_or_len, before_first, after_first}
use Rattle.std.specs.Option.{option_map}
use Rattle.std.specs.Str.{IsUtf8}
use Rattle.std.specs.Str.Lines.{strip_carriage_return}
use Rattle.std.proofs.lemmas.Bool.Decides.{nat_tests}
use Rattle.std.proofs.lemmas.List.{drop-drop, take_more, take_all, length-append, get_or-append-add}
use Rattle.std.proofs.lemmas.List.{get_or_push, length_push}
use Rattle.std.proofs.lemmas.List.{nil_from_length}
use Rattle.std.proofs.lemmas.List.Splits.{join_with_byte-slice_split, slice_split_first}
use Rattle.std.proofs.lemmas.List.Splits.{slice_split_none, length-slice_split}
use Rattle.std.proofs.lemmas.List.Sums.{fails_before_first}
use Rattle.std.proofs.lemmas.Str.{IsUtf8-append, IsUtf8-nil, IsUtf8-take, IsUtf8-drop}
use Rattle.std.proofs.lemmas.Str.{IsUtf8-from_is_utf8, is_utf8-from_IsUtf8}
use Rattle.std.proofs.lemmas.Str.{IsCharBoundary-before_ascii, IsCharBoundary-after_ascii}
use Rattle.std.proofs.lemmas.Str.{encode_ascii}
use Rattle.text_lines.specs.declared.found.Line.{Line}
use Rattle.text_lines.specs.Lines.{is_line_feed, is_text, lines_from, lines_after, all_lines}
use Rattle.text_lines.specs.Lines.{line_at, line_texts, text_of, first_place, bad_line}
use Rattle.text_lines.specs.Texts.{stripped, texts_in}

take-front : (xs ys : List ℕ) → take (length xs) (xs ++ ys) ≡ xs
take-front [] ys = refl
take-front (x ∷ xs) ys = ap (λ l. x ∷ l) (take-front xs ys)

drop-front : (xs ys : List ℕ) → drop (length xs) (xs ++ ys) ≡ ys
drop-front [] ys = refl
drop-front (x ∷ xs) ys = drop-front xs ys

drop-past : (xs : List ℕ) (c : ℕ) (ys : List ℕ) → drop (length xs + 1) (xs ++ c ∷ ys) ≡ ys
drop-past xs c ys =
    sym (drop-drop 1 (length xs) (xs ++ c ∷ ys)) ∙ ap (drop 1) (drop-front xs (c ∷ ys))

-- ---- the carriage return at the end of a piece
ends : (piece : List ℕ) (b : Bool) → 0 < length piece → (get_or piece (length piece - 1) 0 == 13)
    ≡ b
    → (piece ≡ cond b (take (length piece - 1) piece) piece)
    ⊎ (piece ≡ cond b (take (length piece - 1) piece) piece ++ 13 ∷ [])
ends piece false some is = inl refl
ends piece true some is =
    let last : get_or piece (length piece - 1) 0 ≡ 13 = grind (arith, nat_tests) in
    let size : length piece - 1 + 1 ≡ length piece = omega arith in
    inr (sym (take_all (length piece - 1 + 1) piece (omega arith))
    ∙ take_more piece (length piece - 1) 0 (omega arith)
    ∙ ap (λ c. take (length piece - 1) piece ++ c ∷ []) last)

-- a piece is its text, or that and a carriage return
strips : (piece : List ℕ) → (piece ≡ strip_carriage_return piece)
    ⊎ (piece ≡ strip_carriage_return piece ++ 13 ∷ [])
strips [] = inl refl
strips (c ∷ more) =
    ends (c ∷ more) (get_or (c ∷ more) (length (c ∷ more) - 1) 0 == 13) (omega arith) refl

-- a piece that ends with a carriage return
strip-return : (text : List ℕ) → strip_carriage_return (text ++ 13 ∷ []) ≡ text
strip-return text =
    let size = length_push text 13 in
    let before : length (text ++ 13 ∷ []) - 1 ≡ length text = omega arith in
    let last : get_or (text ++ 13 ∷ []) (length text) 0 ≡ 13 =
    get_or_push text 13 0 (length text) refl in
    ap (λ n. cond (get_or (text ++ 13 ∷ []) n 0 == 13) (take n (text ++ 13 ∷ [])) (text ++ 13 ∷ []))
    before
    ∙ ap (λ c. cond (c == 13) (take (length text) (text ++ 13 ∷ [])) (text ++ 13 ∷ [])) last
    ∙ take-front text (13 ∷ [])

-- what `strip_suffix` gives
pub strip-none : (piece : List ℕ) → ((front : List ℕ) → piece ≢ front ++ (13 ∷ []))
    → piece ≡ strip_carriage_return piece
strip-none piece none =
    ⊎_elim (λ same. same) (λ ends. absurd (none (strip_carriage_return piece) ends)) (strips piece)

pub strip-some : (piece text : List ℕ) → piece ≡ text ++ (13 ∷ [])
    → text ≡ strip_carriage_return piece
strip-some piece text is = sym (ap strip_carriage_return is ∙ strip-return text)

front-of : (piece back : List ℕ) → take (length (strip_carriage_return piece)) (piece ++ back)
    ≡ strip_carriage_return piece
front-of piece back =
    let text = strip_carriage_return piece in
    ⊎_elim (λ same. ap (λ p. take (length text) (p ++ back)) same ∙ take-front text back)
    (λ ends. ap (λ p. take (length text) (p ++ back)) ends
    ∙ ap (take (length text)) (append_assoc text (13 ∷ []) back) ∙ take-front text (13 ∷ back))
    (strips piece)

-- ---- the texts of lines by their places
text-at : (bytes : List ℕ) (number place : ℕ) (piece back : List ℕ) → drop place bytes ≡ piece
    ++ back → text_of bytes (line_at number place piece) ≡ strip_carriage_return piece
text-at bytes number place piece back is =
    let size : place + length (strip_carriage_return piece) - place
    ≡ length (strip_carriage_return piece) = omega arith in
    ap (λ n. take n (drop place bytes)) size ∙ ap (take (length (strip_carriage_return piece))) is
    ∙ front-of piece back

texts-from : (bytes : List ℕ) (number place : ℕ) (pieces : List (List ℕ))
    → drop place bytes ≡ join_with_byte 10 pieces
    → map (text_of bytes) (lines_from number place pieces) ≡ stripped pieces
texts-from bytes number place [] is = refl
texts-from bytes number place (piece ∷ []) is =
    let text = text-at bytes number place piece [] (is ∙ sym (append-nil piece)) in
    elim (length piece == 0) as
    (λ b. map (text_of bytes) (cond b [] (line_at number place piece ∷ []))
    ≡ cond b [] (strip_carriage_return piece ∷ [])) [
      | true ↦ refl
      | false ↦ ap (λ t. t ∷ []) text
    ]
texts-from bytes number place (piece ∷ next ∷ more) is =
    let rest = join_with_byte 10 (next ∷ more) in
    let place_is : place + (length piece + 1) ≡ place + length piece + 1 = omega arith in
    let later : drop (place + length piece + 1) bytes ≡ rest =
    sym (drop-drop (length piece + 1) place bytes ∙ ap (λ k. drop k bytes) place_is)
    ∙ ap (drop (length piece + 1)) is ∙ drop-past piece 10 rest in
    let text = text-at bytes number place piece (10 ∷ rest) is in
    ap (λ t. t ∷ map (text_of bytes)
    (lines_from (number + 1) (place + length piece + 1) (next ∷ more))) text
    ∙ ap (λ texts. strip_carriage_return piece ∷ texts)
    (texts-from bytes (number + 1) (place + length piece + 1) (next ∷ more) later)

-- the lines of a document are those of its text behind a byte order mark
pub texts-are : (document text : List ℕ) → text ≡ drop (first_place document) document
    → texts_in text ≡ line_texts document
unfolding texts_in lines_after
texts-are document text is =
    let rest = drop (first_place document) document in
    ap (λ t. stripped (slice_split is_line_feed t)) is
    ∙ sym (texts-from document 1 (first_place document) (slice_split is_line_feed rest)
    (sym (join_with_byte-slice_split 10 rest)))

-- ---- UTF-8
-- at an ASCII character a text may be cut
cut-good : (front : List ℕ) (c : ℕ) (back : List ℕ) → c < 128 → IsUtf8 (front ++ c ∷ back)
    → IsUtf8 front × IsUtf8 back
cut-good front c back low good =
    let whole = front ++ c ∷ back in
    let size : length whole ≡ length front + length (c ∷ back) = length-append front (c ∷ back) in
    let within : length front < length whole = omega arith in
    let here : get_or whole (length front) 0 ≡ c =
    ap (λ n. get_or whole n 0) (omega arith) ∙ get_or-append-add front (c ∷ back) 0 0 in
    let small : get_or whole (length front) 0 < 128 = omega arith in (
      subst IsUtf8 (take-front front (c ∷ back))
          (IsUtf8-take whole (length front) good
          (IsCharBoundary-before_ascii whole (length front) within small)),
      subst IsUtf8 (drop-past front c back)
          (IsUtf8-drop whole (length front + 1) good
          (IsCharBoundary-after_ascii whole (length front) good within small)),
    )

-- a piece is UTF-8 just where its text is
strip-good : (piece : List ℕ) → IsUtf8 piece → IsUtf8 (strip_carriage_return piece)
strip-good piece good =
    ⊎_elim (λ same. subst IsUtf8 same good)
    (λ ends. (cut-good (strip_carriage_return piece) 13 [] (omega arith)
    (subst IsUtf8 ends good)).0) (strips piece)

whole-good : (piece : List ℕ) → IsUtf8 (strip_carriage_return piece) → IsUtf8 piece
whole-good piece good =
    ⊎_elim (λ same. subst IsUtf8 (sym same) good)
    (λ ends. subst IsUtf8 (sym ends)
    (IsUtf8-append (strip_carriage_return piece) (13 ∷ []) good
    (13 ∷ [], (refl, ap (λ e. e ++ []) (encode_ascii 13 (omega arith))))))
    (strips piece)

each-piece : (pieces : List (List ℕ)) → IsUtf8 (join_with_byte 10 pieces)
    → AllByRecursion IsUtf8 (stripped pieces)
each-piece [] good = tt
each-piece (piece ∷ []) good =
    elim (length piece == 0) as
    (λ b. AllByRecursion IsUtf8 (cond b [] (strip_carriage_return piece ∷ [])))
    [ true ↦ tt | false ↦ (strip-good piece good, tt) ]
each-piece (piece ∷ next ∷ more) good =
    let parts = cut-good piece 10 (join_with_byte 10 (next ∷ more)) (omega arith) good in
    (strip-good piece parts.0, each-piece (next ∷ more) parts.1)

last-good : (piece : List ℕ) (b : Bool) → (length piece == 0) ≡ b
    → AllByRecursion IsUtf8 (cond b [] (strip_carriage_return piece ∷ [])) → IsUtf8 piece
last-good piece true is each =
    let none : length piece ≡ 0 = grind (arith, nat_tests) in
    subst IsUtf8 (sym (nil_from_length piece none)) IsUtf8-nil
last-good piece false is each = whole-good piece each.0

all-pieces : (pieces : List (List ℕ)) → AllByRecursion IsUtf8 (stripped pieces)
    → IsUtf8 (join_with_byte 10 pieces)
all-pieces [] each = IsUtf8-nil
all-pieces (piece ∷ []) each = last-good piece (length piece == 0) refl each
all-pieces (piece ∷ next ∷ more) each =
    let rest = join_with_byte 10 (next ∷ more) in
    IsUtf8-append piece (10 ∷ rest) (whole-good piece each.0)
    (IsUtf8-append (10 ∷ []) rest
    (10 ∷ [], (refl, ap (λ e. e ++ []) (encode_ascii 10 (omega arith))))
    (all-pieces (next ∷ more) each.1))

none-bad : (bytes : List ℕ) (lines : List Line) → AllByRecursion IsUtf8 (map (text_of bytes) lines)
    → find (λ line. not (is_text bytes line)) lines ≡ None
none-bad bytes [] each = refl
none-bad bytes (line ∷ lines) each =
    ap (λ b. cond (not b) (Some line) (find (λ line. not (is_text bytes line)) lines))
    (is_utf8-from_IsUtf8 (text_of bytes line) each.0) ∙ none-bad bytes lines each.1

each-good : (bytes : List ℕ) (lines : List Line)
    → option_map (λ line. line.number) (find (λ line. not (is_text bytes line)) lines) ≡ None
    → AllByRecursion IsUtf8 (map (text_of bytes) lines)
each-good bytes [] none = tt
each-good bytes (line ∷ lines) none = by (is_text bytes line) refl none (each-good bytes lines)
  where
    by : (b : Bool) → is_text bytes line ≡ b
        → option_map (λ line. line.number)
        (cond (not b) (Some line) (find (λ line. not (is_text bytes line)) lines)) ≡ None
        → (option_map (λ line. line.number) (find (λ line. not (is_text bytes line)) lines) ≡ None
        → AllByRecursion IsUtf8 (map (text_of bytes) lines))
        → AllByRecursion IsUtf8 (map (text_of bytes) (line ∷ lines))
    by true is none later = (IsUtf8-from_is_utf8 (text_of bytes line) is, later none)
    by false is none later = absurd (cc)

-- a document has a bad line just where its text behind a byte order mark is not UTF-8
pub text-good : (document text : List ℕ) → text ≡ drop (first_place document) document → IsUtf8 text
    → bad_line document ≡ None
unfolding texts_in
text-good document text is good =
    let each = each-piece (slice_split is_line_feed text)
    (subst IsUtf8 (sym (join_with_byte-slice_split 10 text)) good) in
    ap (option_map (λ line. line.number))
    (none-bad document (all_lines document)
    (subst (AllByRecursion IsUtf8) (texts-are document text is) each))

pub text-bad : (document text : List ℕ) → text ≡ drop (first_place document) document
    → bad_line document ≡ None → IsUtf8 text
unfolding texts_in
text-bad document text is none =
    let each = subst (AllByRecursion IsUtf8) (sym (texts-are document text is))
    (each-good document (all_lines document) none) in
    subst IsUtf8 (join_with_byte-slice_split 10 text)
    (all-pieces (slice_split is_line_feed text) each)

-- ---- the first line of a text
stripped-cons : (piece : List ℕ) (pieces : List (List ℕ)) → 0 < length pieces
    → stripped (piece ∷ pieces) ≡ strip_carriage_return piece ∷ stripped pieces
stripped-cons piece [] some = absurd (omega arith)
stripped-cons piece (next ∷ more) some = refl

pub line-first : (text piece behind : List ℕ) → position_or_len is_line_feed text < length text
    → piece ≡ before_first is_line_feed text → behind ≡ after_first is_line_feed text
    → texts_in text ≡ strip_carriage_return piece ∷ texts_in behind
unfolding texts_in
line-first text piece behind within is rest =
    let some : 0 < length (slice_split is_line_feed (after_first is_line_feed text)) =
    omega (arith, length-slice_split is_line_feed (after_first is_line_feed text)) in
    ap stripped (slice_split_first is_line_feed text 0 within)
    ∙ stripped-cons (before_first is_line_feed text)
    (slice_split is_line_feed (after_first is_line_feed text)) some
    ∙ ap (λ p. strip_carriage_return p
    ∷ stripped (slice_split is_line_feed (after_first is_line_feed text))) (sym is)
    ∙ ap (λ b. strip_carriage_return piece ∷ stripped (slice_split is_line_feed b)) (sym rest)

pub line-last : (text : List ℕ) → position_or_len is_line_feed text ≡ length text → 0 < length text
    → texts_in text ≡ strip_carriage_return text ∷ texts_in []
unfolding texts_in
line-last text is some =
    let lacks : All (λ byte. is_line_feed byte ≡ false) text =
    λ k d l. fails_before_first is_line_feed text k d (omega arith) in
    let test : (length text == 0) ≡ false = grind (arith, nat_tests) in
    ap stripped (slice_split_none is_line_feed text lacks)
    ∙ ap (λ b. cond b [] (strip_carriage_return text ∷ [])) test
