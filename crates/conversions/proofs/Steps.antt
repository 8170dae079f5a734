-- A text converted step by step.
use Rattle.std.proofs.Common.{◌≡◌, ℕ, zero, suc, ◌+◌, ◌-◌, ◌<◌, ◌≤◌, Bool, true, false, cond, List}
use Rattle.std.proofs.Common.{[], ◌∷◌, ◌++◌, length, drop, take, get_or, filter, nat_lt, Option}
use Rattle.std.proofs.Common.{Some, None, refl, sym, ap, ap₂, ◌∙◌, append_assoc, append-nil}
use Rattle.std.proofs.Common.{length-append, arith}
use Rattle.std.proofs.lemmas.Bool.Decides.{nat_tests, Decides-eqb}
use Rattle.std.proofs.lemmas.List.{take_more, take_all, drop_all, drop_more}
use Rattle.std.proofs.lemmas.Slice.Eq.{starts_is}
use Rattle.std.proofs.lemmas.Bool.{and_parts}
use Rattle.spell_types.specs.declared.conversions.Conversion.{Conversion}
use Rattle.spell_types.specs.Conversions.{fits, longer_of, longest, best_fit, replaced, more_read}
use Rattle.spell_types.specs.Conversions.{converted_behind, converted}
use Rattle.std.proofs.lemmas.Option.{same_Some}

passes_longer : (p : Conversion → Bool) (first : Conversion) (best : Option Conversion)
    → p first ≡ true → ((row : Conversion) → best ≡ Some row → p row ≡ true)
    → p (longer_of first best) ≡ true
passes_longer p first None one others = one
passes_longer p first (Some row) one others =
    elim (nat_lt (length first.from) (length row.from)) as (λ b. p (cond b row first) ≡ true)
    [ true ↦ others row refl | false ↦ one ]

longest_passes : (p : Conversion → Bool) (rows : List Conversion) (row : Conversion)
    → longest (filter p rows) ≡ Some row → p row ≡ true
longest_passes p [] row found = cc
longest_passes p (first ∷ rows) row found =
    (elim (p first) as
    (λ b. p first ≡ b → longest (cond b (first ∷ filter p rows) (filter p rows)) ≡ Some row
    → p row ≡ true) [
      | true ↦ λ one is. ap p (sym (same_Some (longer_of first (longest (filter p rows))) row is))
          ∙ passes_longer p first (longest (filter p rows)) one (longest_passes p rows)
      | false ↦ λ _ is. longest_passes p rows row is
    ]) refl found

-- the best row fits
best_fit-fits : (table : List Conversion) (text : List ℕ) (row : Conversion)
    → best_fit table text ≡ Some row → fits text row ≡ true
unfolding best_fit
best_fit-fits table text row found = longest_passes (fits text) table row found

-- its pattern isn't empty, and no longer than the text
pub best_fit-reads : (table : List Conversion) (text : List ℕ) (row : Conversion)
    → best_fit table text ≡ Some row → (0 < length row.from) × (length row.from ≤ length text)
best_fit-reads table text row found =
    let tests = and_parts (nat_lt 0 (length row.from)) _ (best_fit-fits table text row found) in
    let stands : text ≡ row.from ++ drop (length row.from) text =
    (starts_is Decides-eqb text row.from _ refl).0 tests.1 in (
      grind (arith, nat_tests),
      omega (arith, ap length stands, length-append row.from (drop (length row.from) text)),
    )

converted_behind-drop : (table : List Conversion) (read : ℕ) (text : List ℕ)
    → converted_behind table read text ≡ converted table (drop read text)
unfolding converted
converted_behind-drop table zero text = refl
converted_behind-drop table (suc read) [] = refl
converted_behind-drop table (suc read) (c ∷ text) = converted_behind-drop table read text

drop_behind : (n c : ℕ) (text : List ℕ) → 0 < n → drop (n - 1) text ≡ drop n (c ∷ text)
drop_behind zero c text some = absurd (omega arith)
drop_behind (suc n) c text some = let one : suc n - 1 ≡ n = omega arith in rw one refl

-- where a row fits, its replacement stands before the rest behind its pattern, converted
pub converted-replaced : (table : List Conversion) (text : List ℕ) (row : Conversion)
    → best_fit table text ≡ Some row → converted table text ≡ row.to
    ++ converted table (drop (length row.from) text)
unfolding converted
converted-replaced table [] row found =
    absurd (omega
    (arith, (best_fit-reads table [] row found).0, (best_fit-reads table [] row found).1))
converted-replaced table (c ∷ text) row found =
    ap (λ best. replaced best c ++ converted_behind table (more_read best) text) found
    ∙ ap (λ rest. row.to ++ rest)
    (converted_behind-drop table (length row.from - 1) text
    ∙ ap (converted table)
    (drop_behind (length row.from) c text (best_fit-reads table (c ∷ text) row found).0))

-- where none fits, the first character stands before the rest, converted
pub converted-kept : (table : List Conversion) (c : ℕ) (text : List ℕ)
    → best_fit table (c ∷ text) ≡ None → converted table (c ∷ text) ≡ c ∷ converted table text
unfolding converted
converted-kept table c text none =
    ap (λ found. replaced found c ++ converted_behind table (more_read found) text) none

-- what is written at the end of a replacement, and the rest converted, make the whole
pub front_replaced : (table : List Conversion) (text made before items pattern : List ℕ)
    (row : Conversion) (place : ℕ) → best_fit table text ≡ Some row
    → made ≡ before ++ take place items → length items ≤ place → items ≡ row.to → pattern ≡ row.from
    → made ++ converted table (drop (length pattern) text) ≡ before ++ converted table text
front_replaced table text made before items pattern row place found so_far end written read =
    ap (λ p. made ++ converted table (drop (length p) text)) read
    ∙ (ap (λ m. m ++ converted table (drop (length row.from) text))
    (so_far ∙ ap (λ w. before ++ w) (take_all place items end ∙ written))
    ∙ (append_assoc before row.to (converted table (drop (length row.from) text))
    ∙ ap (λ whole. before ++ whole) (sym (converted-replaced table text row found))))

-- and so at a character that is kept
pub front_kept : (table : List Conversion) (text made before : List ℕ) (c : ℕ) → 0 < length text
    → best_fit table text ≡ None → made ≡ before ++ c ∷ [] → c ≡ get_or text 0 c
    → made ++ converted table (drop 1 text) ≡ before ++ converted table text
front_kept table [] made before c some none is here = absurd (omega arith)
front_kept table (first ∷ text) made before c some none is here =
    ap (λ m. m ++ converted table text) (is ∙ ap (λ x. before ++ x ∷ []) here)
    ∙ (append_assoc before (first ∷ []) (converted table text)
    ∙ ap (λ whole. before ++ whole) (sym (converted-kept table first text none)))

pub converted-nil : (table : List Conversion) → converted table [] ≡ []
unfolding converted
converted-nil table = refl

-- at the end of the word all is written
pub all_converted : (table : List Conversion) (word made whole : List ℕ) (place : ℕ)
    → length word ≤ place → made ++ converted table (drop place word) ≡ whole → made ≡ whole
all_converted table word made whole place end so_far =
    sym (append-nil made)
    ∙ (ap (λ rest. made ++ rest)
    (sym (ap (converted table) (drop_all place word end) ∙ converted-nil table)) ∙ so_far)

-- up to a place at which no row fits the word stays
pub stays_more : (table : List Conversion) (word : List ℕ) (place : ℕ) → place < length word
    → best_fit table (drop place word) ≡ None
    → converted table word ≡ take place word ++ converted table (drop place word)
    → converted table word ≡ take (place + 1) word ++ converted table (drop (place + 1) word)
stays_more table word place within none so_far =
    let c = get_or word place 0 in
    let here : drop place word ≡ c ∷ drop (place + 1) word = drop_more word place 0 within in
    so_far
    ∙ ap (λ rest. take place word ++ rest)
    (ap (converted table) here
    ∙ converted-kept table c (drop (place + 1) word) (ap (best_fit table) (sym here) ∙ none))
    ∙ sym (append_assoc (take place word) (c ∷ []) (converted table (drop (place + 1) word)))
    ∙ ap (λ front. front ++ converted table (drop (place + 1) word))
    (sym (take_more word place 0 within))

pub stays_all : (table : List Conversion) (word : List ℕ) (place : ℕ) → length word ≤ place
    → converted table word ≡ take place word ++ converted table (drop place word)
    → converted table word ≡ word
stays_all table word place end so_far =
    so_far
    ∙ ap₂ (λ front rest. front ++ rest) (take_all place word end)
    (ap (converted table) (drop_all place word end) ∙ converted-nil table)
    ∙ append-nil word
