-- Paragraphs, which are the lines of a text, in the order in which they are found.
use Rattle.std.proofs.Common.{◌≡◌, ℕ, ◌+◌, ◌<◌, ◌≤◌, ◌==◌, ◌||◌, Bool, true, false, cond, List, []}
use Rattle.std.proofs.Common.{◌∷◌, ◌++◌, append_assoc, length, Ok, Err, refl, sym, ap, ◌∙◌, arith}
use Rattle.std.specs.Borrow.{Bor}
use Rattle.std.specs.List.{list_any}
use Rattle.std.proofs.lemmas.Bool.{lt-ltb, le-ltb}
use Rattle.std.proofs.lemmas.Bool.Decides.{nat_tests}
use Rattle.std.proofs.lemmas.List.{length-append, map-append, length-map}
use Rattle.document_report.specs.declared.fault.DocumentFault.TheVariants.{LongParagraph}
use Rattle.document_report.specs.declared.fault.DocumentFault.TheVariants.{TooManyParagraphs}
use Rattle.document_report.specs.Documents.{is_long_paragraph, texts_unless_long, unless_many}
use Rattle.document_report.specs.Texts.{lent}
use Rattle.paragraph_text.specs.declared.limits.TheConstants.{MOST_PARAGRAPHS, MOST_BYTES}

-- texts that are lent
any-lent : (texts : List (Bor (List ℕ))) → list_any (λ text. is_long_paragraph text.now) texts
    ≡ list_any is_long_paragraph (lent texts)
any-lent [] = refl
any-lent (text ∷ texts) = ap (λ b. is_long_paragraph text.now || b) (any-lent texts)

-- whether one of them is too long
pub long-found : (texts : List (Bor (List ℕ))) (has_long : Bool)
    → has_long ≡ list_any (λ text. is_long_paragraph text.now) texts → has_long ≡ true
    → texts_unless_long (lent texts) ≡ Err (LongParagraph MOST_BYTES)
unfolding texts_unless_long
long-found texts has_long is found =
    ap (λ b. cond b (Err (LongParagraph MOST_BYTES)) (Ok (lent texts)))
    (sym (any-lent texts) ∙ sym is ∙ found)

pub long-none : (texts : List (Bor (List ℕ))) (has_long : Bool)
    → has_long ≡ list_any (λ text. is_long_paragraph text.now) texts → has_long ≡ false
    → texts_unless_long (lent texts) ≡ Ok (lent texts)
unfolding texts_unless_long
long-none texts has_long is none =
    ap (λ b. cond b (Err (LongParagraph MOST_BYTES)) (Ok (lent texts)))
    (sym (any-lent texts) ∙ sym is ∙ none)

-- as many lines as may be paragraphs were found, and one more is there
pub many-found : (texts : List (Bor (List ℕ))) (all rest : List (List ℕ)) → 0 < length rest
    → lent texts ++ rest ≡ all → length texts ≡ MOST_PARAGRAPHS
    → unless_many all ≡ Err (TooManyParagraphs MOST_PARAGRAPHS)
unfolding unless_many
many-found texts all rest some is full =
    let size : length all ≡ length (lent texts) + length rest =
    sym (ap length is) ∙ length-append (lent texts) rest in
    let own : length (lent texts) ≡ length texts = length-map texts (λ t. t.now) in
    let many : MOST_PARAGRAPHS < length all = omega arith in
    ap (λ b. cond b (Err (TooManyParagraphs MOST_PARAGRAPHS)) (Ok all))
    (lt-ltb MOST_PARAGRAPHS (length all) many)

-- all lines were found, and they are not too many
pub few-found : (texts : List (Bor (List ℕ))) (all : List (List ℕ)) → lent texts ≡ all
    → length texts ≤ MOST_PARAGRAPHS → unless_many all ≡ Ok (lent texts)
unfolding unless_many
few-found texts all is few =
    let own : length (lent texts) ≡ length texts = length-map texts (λ t. t.now) in
    let size = ap length is in
    let none : length all ≤ MOST_PARAGRAPHS = omega arith in
    ap (λ b. cond b (Err (TooManyParagraphs MOST_PARAGRAPHS)) (Ok all))
    (le-ltb MOST_PARAGRAPHS (length all) none) ∙ ap Ok (sym is)

pub none-left : (n : ℕ) (is_empty : Bool) → is_empty ≡ (n == 0) → is_empty ≡ true → n ≡ 0
none-left n is_empty is empty = grind (arith, nat_tests)

pub some-left : (n : ℕ) (is_empty : Bool) → is_empty ≡ (n == 0) → is_empty ≡ false → 0 < n
some-left n is_empty is empty = grind (arith, nat_tests)

lent-push : (texts : List (Bor (List ℕ))) (text : Bor (List ℕ))
    → lent (texts ++ text ∷ []) ≡ lent texts ++ text.now ∷ []
lent-push texts text = map-append (λ t. t.now) texts (text ∷ [])

-- a line is taken from the front of the rest
pub line-taken : (texts : List (Bor (List ℕ))) (line : Bor (List ℕ)) (more all : List (List ℕ))
    (rest : List (List ℕ)) → rest ≡ line.now ∷ more → lent texts ++ rest ≡ all
    → lent (texts ++ line ∷ []) ++ more ≡ all
line-taken texts line more all rest first is =
    ap (λ front. front ++ more) (lent-push texts line)
    ∙ append_assoc (lent texts) (line.now ∷ []) more
    ∙ ap (λ r. lent texts ++ r) (sym first) ∙ is
