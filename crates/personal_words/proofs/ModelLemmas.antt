-- Flags that are kept at the words that items name as their models.
use Rattle.std.proofs.Common.{◌≡◌, ◌∙◌, refl, sym, ap, subst, ℕ, Bool, true, false, cond, List, []}
use Rattle.std.proofs.Common.{◌∷◌, length, Option, Some, None, is_some, unwrap_or, IsSome, IfSome}
use Rattle.std.proofs.Common.{arith, find, ◌+◌, ◌-◌, ◌<◌, ◌≤◌, suc, All, take, drop, get_or}
use Rattle.std.proofs.Math.Seq.{drop-cons}
use Rattle.std.proofs.lemmas.List.{take_more, take_all}
use Rattle.std.proofs.lemmas.List.Elements.{All-push}
use Rattle.std.specs.Map.{lookup}
use Rattle.std.specs.Option.{option_map_or}
use Rattle.std.proofs.lemmas.Option.{same_Some}
use Rattle.std.proofs.lemmas.Slice.Eq.{bytes_eq-Decides}
use Rattle.indexmap.specs.IndexMap.{IndexMap, index_map_len}
use Rattle.mark_types.specs.spell_types.declared.Entry.{Entry}
use Rattle.mark_types.specs.spell_types.declared.flags.Flag.{Flag}
use Rattle.mark_types.specs.spell_types.Cases.{is_same_word}
use Rattle.personal_words.specs.declared.items.OwnItem.{OwnItem}
use Rattle.personal_words.specs.Extended.{flags_like}
use Rattle.personal_words.specs.Models.{flags_at, flags_kept, HasModel, AreLike, Puts}

-- ---- the flags of the first entry

like-none : (text : List ℕ) → flags_like [] text ≡ []
unfolding flags_like
like-none text = refl

like-cons : (entry : Entry) (rest : List Entry) (text : List ℕ)
    → flags_like (entry ∷ rest) text
    ≡ cond (is_same_word entry.word text) entry.flags (flags_like rest text)
unfolding flags_like
like-cons entry rest text =
    elim (is_same_word entry.word text) as (λ b.
    option_map_or (λ (e : Entry). e.flags)
    (cond b (Some entry) (find (λ (e : Entry). is_same_word e.word text) rest)) []
    ≡ cond b entry.flags (flags_like rest text)) [ true ↦ refl | false ↦ refl ]

-- ---- what is kept
abbrev pub Kept : Type 0 → Type 0
Kept S = IndexMap (List ℕ) (List Flag) S

-- where the flags are those of one entry more, in front of the others
by-first : (entry : Entry) (rest : List Entry) (text : List ℕ) (flags : List Flag) (b : Bool)
    → is_same_word entry.word text ≡ b → flags ≡ cond b entry.flags (flags_like rest text)
    → flags ≡ flags_like (entry ∷ rest) text
by-first entry rest text flags b is same =
    same
    ∙ sym (like-cons entry rest text
    ∙ ap (λ t. cond t entry.flags (flags_like rest text)) is)

-- the entries from a place on, with the one before it
abbrev pub IsCut : List Entry → ℕ → Entry → Type 0
IsCut entries place entry = drop (place - 1) entries ≡ entry ∷ drop place entries

module _ {S : Type 0} where
  -- Where nothing is kept, it is like any entries.
  pub nothing-like : (entries : List Entry) (models : Kept S) → index_map_len models ≡ 0
      → AreLike entries models
  nothing-like entries models none text flags at =
      absurd (lacks models.entries none at)
    where
      lacks : (kept : List (List ℕ × List Flag)) → length kept ≡ 0
          → lookup (is_same_word text) kept ≡ Some flags → ⊥
      lacks [] none at = cc
      lacks (one ∷ more) none at = omega (arith, none)

  -- the model that was put is kept, and so are those that were
  pub put-own : (old new : Kept S) (model : List ℕ) (flags : List Flag) → Puts old model flags new
      → IsSome (flags_at new model)
  put-own old new model flags puts =
      subst IsSome
      (sym (puts model
      ∙ ap (λ b. cond b (Some flags) (flags_at old model)) ((bytes_eq-Decides model model).1 refl)))
      refl

  pub put-has : (old new : Kept S) (model : List ℕ) (flags : List Flag) → Puts old model flags new
      → (item : OwnItem) → HasModel old item → HasModel new item
  put-has old new model flags puts item = at item.model
    where
      by : (b : Bool) (found : Option (List Flag)) → IsSome found
          → IsSome (cond b (Some flags) found)
      by true found some = refl
      by false found some = some

      at : (named : Option (List ℕ)) → IfSome named (λ text. IsSome (flags_at old text))
          → IfSome named (λ text. IsSome (flags_at new text))
      at None has = tt
      at (Some text) has =
          subst IsSome (sym (puts text)) (by (is_same_word model text) (flags_at old text) has)

  -- no flags are like those of no entry
  pub put-none : (old new : Kept S) (model : List ℕ) → Puts old model [] new → AreLike [] old
      → AreLike [] new
  put-none old new model puts like text flags at =
      by (is_same_word model text) (sym (puts text) ∙ at)
    where
      by : (b : Bool) → cond b (Some []) (flags_at old text) ≡ Some flags
          → flags ≡ flags_like [] text
      by true own = sym (same_Some [] flags own) ∙ sym (like-none text)
      by false before = like text flags before

  -- ---- one entry more, in front of the others
  module _ (entry : Entry) (rest : List Entry) where
    -- its flags are put at its word
    pub like-put : (old new : Kept S) → Puts old entry.word entry.flags new → AreLike rest old
        → AreLike (entry ∷ rest) new
    like-put old new puts like text flags at =
        by (is_same_word entry.word text) refl (sym (puts text) ∙ at)
      where
        by : (b : Bool) → is_same_word entry.word text ≡ b
            → cond b (Some entry.flags) (flags_at old text) ≡ Some flags
            → flags ≡ flags_like (entry ∷ rest) text
        by true is own =
            by-first entry rest text flags true is (sym (same_Some entry.flags flags own))
        by false is before = by-first entry rest text flags false is (like text flags before)

    -- nothing is kept at its word
    pub like-past : (models : Kept S) → is_some (flags_at models entry.word) ≡ false
        → AreLike rest models → AreLike (entry ∷ rest) models
    like-past models lacks like text flags at = by (is_same_word entry.word text) refl
      where
        by : (b : Bool) → is_same_word entry.word text ≡ b
            → flags ≡ flags_like (entry ∷ rest) text
        by true is =
            let same : entry.word ≡ text = (bytes_eq-Decides entry.word text).0 is in
            let none : is_some (flags_at models text) ≡ false =
            ap (λ t. is_some (flags_at models t)) (sym same) ∙ lacks in
            absurd (at-both (flags_at models text) none at)
          where
            at-both : (found : Option (List Flag)) → is_some found ≡ false → found ≡ Some flags → ⊥
            at-both None none at = cc
            at-both (Some own) none at = cc
        by false is = by-first entry rest text flags false is (like text flags at)

  -- ---- a turn of the loop over the entries, from the last one back
  module _ (entries : List Entry) (place : ℕ) (entry : Entry) where
    pub turn-put : (old new : Kept S) (word : List ℕ) (flags : List Flag)
        → IsCut entries place entry → word ≡ entry.word → flags ≡ entry.flags → Puts old word flags new
        → AreLike (drop place entries) old → AreLike (drop (place - 1) entries) new
    turn-put old new word flags cut is same puts like =
        subst (λ (es : List Entry). AreLike es new) (sym cut)
        (like-put entry (drop place entries) old new
        (λ text. puts text
        ∙ ap (λ w. cond (is_same_word w text) (Some flags) (flags_at old text)) is
        ∙ ap (λ own. cond (is_same_word entry.word text) (Some own) (flags_at old text)) same)
        like)

    pub turn-past : (models : Kept S) (word : List ℕ) → IsCut entries place entry
        → word ≡ entry.word → is_some (flags_at models word) ≡ false
        → AreLike (drop place entries) models → AreLike (drop (place - 1) entries) models
    turn-past models word cut is lacks like =
        subst (λ (es : List Entry). AreLike es models) (sym cut)
        (like-past entry (drop place entries) models
        (ap (λ w. is_some (flags_at models w)) (sym is) ∙ lacks) like)

  -- ---- the flags of an item's model
  pub kept-like : (entries : List Entry) (models : Kept S) (item : OwnItem) → HasModel models item
      → AreLike entries models
      → option_map_or (flags_kept models) item.model []
      ≡ option_map_or (flags_like entries) item.model []
  kept-like entries models item has like = at item.model has
    where
      kept : (text : List ℕ) (found : Option (List Flag)) → flags_at models text ≡ found
          → IsSome found → unwrap_or found [] ≡ flags_like entries text
      kept text None is some = absurd cc
      kept text (Some flags) is some = like text flags is

      at : (named : Option (List ℕ)) → IfSome named (λ text. IsSome (flags_at models text))
          → option_map_or (flags_kept models) named [] ≡ option_map_or (flags_like entries) named []
      at None has = refl
      at (Some text) has = kept text (flags_at models text) refl has

pub cut-at : (entries : List Entry) (place : ℕ) (entry : Entry) → 0 < place
    → place ≤ length entries → entry ≡ get_or entries (place - 1) entry
    → IsCut entries place entry
cut-at entries place entry some within is =
    let next : suc (place - 1) ≡ place = omega (arith, some) in
    drop-cons entries (place - 1) entry (omega (arith, some, within))
    ∙ ap (λ n. get_or entries (place - 1) entry ∷ drop n entries) next
    ∙ ap (λ e. e ∷ drop place entries) (sym is)

-- ---- a turn of the loop over the items

-- the models of the items up to one more are kept, and without flags
pub record NamedUpTo {S : Type 0} (items : List OwnItem) (place : ℕ)
    (models : Kept S) : Type 0 where
  pub each : All (HasModel models) (take place items)
  pub like : AreLike [] models

module _ (items : List OwnItem) (place : ℕ) (item : OwnItem)
    (within : place < length items) (is : item ≡ get_or items place item) where
  one-more : (P : OwnItem → Type 0) → All P (take place items) → P item
      → All P (take (place + 1) items)
  one-more P so_far own =
      subst (All P) (sym (take_more items place item within))
      (All-push P (take place items) (get_or items place item) so_far (subst P is own))

  pub turn-named : {S : Type 0} (old new : Kept S) (model word : List ℕ) (flags : List Flag)
      → item.model ≡ Some model → word ≡ model → Puts old word flags new
      → All (HasModel old) (take place items)
      → All (HasModel new) (take (place + 1) items)
  turn-named old new model word flags has same puts so_far =
      let own : HasModel new item =
      subst (λ (named : Option (List ℕ)). IfSome named (λ text. IsSome (flags_at new text)))
      (sym has)
      (subst (λ text. IsSome (flags_at new text)) same (put-own old new word flags puts)) in
      one-more (HasModel new)
      (λ k d inside. put-has old new word flags puts (get_or (take place items) k d)
      (so_far k d inside)) own

  pub turn-unnamed : {S : Type 0} (models : Kept S) → item.model ≡ None
      → All (HasModel models) (take place items)
      → All (HasModel models) (take (place + 1) items)
  turn-unnamed models none so_far =
      one-more (HasModel models) so_far
      (subst (λ (named : Option (List ℕ)). IfSome named (λ text. IsSome (flags_at models text)))
      (sym none) tt)

pub all-named : (P : OwnItem → Type 0) (items : List OwnItem) (place : ℕ) → length items ≤ place
    → All P (take place items) → All P items
all-named P items place past all = subst (All P) (take_all place items past) all
