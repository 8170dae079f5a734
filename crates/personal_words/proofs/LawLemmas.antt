-- In a dictionary with a list's words the prohibited words are barred.
use Rattle.std.proofs.Common.{ℕ, ◌≡◌, ◌∙◌, ◌<◌, ◌==◌, ◌&&◌, ◌||◌, ◌++◌, Bool, true, false, not}
use Rattle.std.proofs.Common.{cond}
use Rattle.std.proofs.Common.{List, [], ◌∷◌, length, map, slice_get, Contains, Option, None, Some}
use Rattle.std.proofs.Common.{IfSome}
use Rattle.std.proofs.Common.{unwrap_or}
use Rattle.std.proofs.Common.{refl, ap, arith}
use Rattle.std.specs.List.{flat_map, range_with_len}
use Rattle.std.specs.Option.{option_map, option_map_or, option_and_then}
use Rattle.std.proofs.lemmas.Bool.Decides.{nat_tests}
use Rattle.std.proofs.lemmas.List.Elements.{Contains-append_right}
use Rattle.std.proofs.lemmas.Option.{slice_get-get_or}
use Rattle.std.proofs.lemmas.Slice.Eq.{bytes_eq-Decides}
use Rattle.mark_types.specs.lists.Laws.{contains-head, contains-map, contains-flat_map}
use Rattle.mark_types.specs.lists.Laws.{contains-range}
use Rattle.mark_types.specs.lists.Laws.{any-contains}
use Rattle.mark_types.specs.spell_types.declared.Entry.{Entry}
use Rattle.mark_types.specs.spell_types.declared.Lexicon.{Lexicon}
use Rattle.mark_types.specs.spell_types.declared.derivations.Derivation.{Derivation}
use Rattle.mark_types.specs.spell_types.declared.flags.Flag.{Flag}
use Rattle.mark_types.specs.spell_types.Derivations.{named, named_with, form_of, formed}
use Rattle.mark_types.specs.spell_types.Derivations.{derivation_of}
use Rattle.mark_types.specs.spell_types.Derivations.{all_from, all_derivations, choices}
use Rattle.mark_types.specs.spell_types.Flags.{has, IsOrdinary}
use Rattle.mark_types.specs.spell_types.Licences.{holds_of, meets_signs, is_forbidden, is_word}
use Rattle.mark_types.specs.spell_types.Licences.{has_form}
use Rattle.mark_types.specs.spell_types.Licences.{is_barred}
use Rattle.mark_types.specs.spell_types.Sanity.{HasOrdinaryFlags}
use Rattle.personal_words.specs.declared.items.OwnItem.{OwnItem}
use Rattle.personal_words.specs.Extended.{left_over, forbidding, flags_like, entry_of_item}
use Rattle.personal_words.specs.Extended.{extended}

-- an entry's word as it is
abbrev plain : ℕ → Derivation
plain place = derivation_of place None None None

among-all : (lexicon : Lexicon) (place : ℕ) → place < length lexicon.entries
    → Contains (all_derivations lexicon) (plain place)
among-all lexicon place within =
    let count = length lexicon.affixes.rules in
    let none : Contains (choices count) None =
    contains-head None (map (λ (rule : ℕ). Some rule) (range_with_len 0 count)) in
    contains-flat_map (all_from count) (range_with_len 0 (length lexicon.entries)) place
    (plain place) (contains-range (length lexicon.entries) place within)
    (contains-flat_map (λ prefix. flat_map
    (λ first. map (derivation_of place prefix first) (choices count)) (choices count))
    (choices count) None (plain place) none
    (contains-flat_map (λ first. map (derivation_of place None first) (choices count))
    (choices count) None (plain place) none
    (contains-map (derivation_of place None None) (choices count) None none)))

named-at : (lexicon : Lexicon) (place : ℕ) (entry : Entry)
    → slice_get lexicon.entries place ≡ Some entry
    → named lexicon (plain place)
    ≡ Some (named_with lexicon.affixes.rules (plain place) entry)
named-at lexicon place entry at =
    ap (option_map (named_with lexicon.affixes.rules (plain place))) at

-- ---- the signs

nat-own : (a : ℕ) → (a == a) ≡ true
nat-own a = grind (arith, nat_tests)

-- CIRCUMFIX is met where there is no affix
abbrev meets : Option Flag → Bool
meets circumfix = cond (has [] circumfix) (has [] circumfix || has [] circumfix)
    (not (has [] circumfix || has [] circumfix))

meets-it : (circumfix : Option Flag) → meets circumfix ≡ true
meets-it None = refl
meets-it (Some flag) = refl

holds : (flags : List Flag) (flag : Flag) (need circumfix forbidden : Option Flag)
    → flags ≡ flag ∷ [] → forbidden ≡ Some flag → has (flag ∷ []) need ≡ false
    → ((not (has flags need) && meets circumfix) && has flags forbidden) ≡ true
holds flags flag need circumfix forbidden is sign other =
    ap (λ fs. (not (has fs need) && meets circumfix) && has fs forbidden) is
    ∙ ap (λ b. (not b && meets circumfix) && has (flag ∷ []) forbidden) other
    ∙ ap (λ b. b && has (flag ∷ []) forbidden) (meets-it circumfix)
    ∙ ap (has (flag ∷ [])) sign
    ∙ ap (λ b. b || false) (nat-own flag.0)

module _ (lexicon : Lexicon) (place : ℕ) (entry : Entry)
    (at : slice_get lexicon.entries place ≡ Some entry) where
  is-forbidden : (flag : Flag) → entry.flags ≡ flag ∷ []
      → lexicon.affixes.signs.forbidden ≡ Some flag
      → has (flag ∷ []) lexicon.affixes.signs.need_affix ≡ false
      → is_forbidden lexicon (plain place) ≡ true
  unfolding is_forbidden
  is-forbidden flag is sign other =
      let signs = lexicon.affixes.signs in
      ap (holds_of (λ n. meets_signs signs n && has n.entry.flags signs.forbidden))
      (named-at lexicon place entry at)
      ∙ holds entry.flags flag signs.need_affix signs.circumfix signs.forbidden is sign other

  has-own_form : has_form lexicon entry.word (plain place) ≡ true
  unfolding form_of
  has-own_form =
      ap (λ n. is_word entry.word
      (option_and_then (formed lexicon.affixes.options.full_strip) n))
      (named-at lexicon place entry at)
      ∙ (bytes_eq-Decides entry.word entry.word).1 refl

  barred-by : (flag : Flag) → place < length lexicon.entries → entry.flags ≡ flag ∷ []
      → lexicon.affixes.signs.forbidden ≡ Some flag
      → has (flag ∷ []) lexicon.affixes.signs.need_affix ≡ false
      → is_barred lexicon entry.word ≡ true
  unfolding is_barred
  barred-by flag within is sign other =
      any-contains (λ d. is_forbidden lexicon d && has_form lexicon entry.word d)
      (all_derivations lexicon) (plain place) (among-all lexicon place within)
      (ap (λ b. b && has_form lexicon entry.word (plain place)) (is-forbidden flag is sign other)
      ∙ has-own_form)

-- ---- the law

pub prohibited-barred : (lexicon : Lexicon) (own : List OwnItem) (item : OwnItem)
    → Contains own item → item.prohibits ≡ true
    → has (forbidding lexicon ∷ []) lexicon.affixes.signs.need_affix ≡ false
    → is_barred (extended lexicon own) item.word ≡ true
unfolding extended
prohibited-barred lexicon own item among prohibits other =
    let entries = map (entry_of_item lexicon) own in
    let found =
    Contains-append_right lexicon.entries entries (entry_of_item lexicon item)
    (contains-map (entry_of_item lexicon) own item among) in
    barred-by (extended lexicon own) found.0 (entry_of_item lexicon item)
    (slice_get-get_or (lexicon.entries ++ entries) found.0 (entry_of_item lexicon item) found.1
    ∙ ap (λ e. Some e) found.2) (forbidding lexicon) found.1
    (ap (λ b. cond b (forbidding lexicon ∷ [])
    (option_map_or (flags_like lexicon.entries) item.model [])) prohibits)
    refl other

-- the flag that no file gives is not that of NEEDAFFIX
pub left-over-other : (lexicon : Lexicon) → HasOrdinaryFlags lexicon.affixes
    → lexicon.affixes.signs.forbidden ≡ None
    → has (forbidding lexicon ∷ []) lexicon.affixes.signs.need_affix ≡ false
left-over-other lexicon ordinary none =
    ap (λ sign. has (unwrap_or sign left_over ∷ []) lexicon.affixes.signs.need_affix) none
    ∙ at lexicon.affixes.signs.need_affix ordinary.signs.need_affix
  where
    above : (high low : ℕ) → low < high → ((high == low) || false) ≡ false
    above high low lower = grind (arith, nat_tests)

    at : (need : Option Flag) → IfSome need IsOrdinary → has (left_over ∷ []) need ≡ false
    at None low = refl
    at (Some flag) low = above left_over.0 flag.0 low
