-- Which derivations are found: those that are licensed and whose form is the word.
use Rattle.std.proofs.Common.{◌≡◌, ◌↔◌, refl, ℕ, ◌<◌, Bool, true, false, ◌&&◌, List, length, map}
use Rattle.std.proofs.Common.{slice_get, Contains, Option, None, Some, is_none, is_some}
use Rattle.std.proofs.Common.{◌||◌, if◌then◌else◌}
use Rattle.std.specs.List.{flat_map, range_with_len}
use Rattle.std.specs.Option.{option_map}
use Rattle.std.proofs.lemmas.Bool.{and_parts, and_from}
use Rattle.std.proofs.lemmas.List.Elements.{All-contains, filter_passes}
use Rattle.std.proofs.lemmas.Option.{slice_get_within}
use Rattle.spell_types.specs.lists.Laws.{contains-map, contains-flat_map}
use Rattle.spell_types.specs.lists.Laws.{contains-filter, contains-range}
use Rattle.spell_types.specs.declared.Entry.{Entry}
use Rattle.spell_types.specs.declared.Lexicon.{Lexicon}
use Rattle.spell_types.specs.declared.derivations.Derivation.{Derivation}
use Rattle.spell_types.specs.declared.rules.Side.TheVariants.{Prefix, Suffix}
use Rattle.spell_types.specs.Derivations.{is_right, is_in_order, named_with, form_of}
use Rattle.spell_types.specs.Derivations.{choices, derivation_of, all_from, all_derivations}
use Rattle.spell_types.specs.Laws.{contains-choice, right-within}
use Rattle.spell_types.specs.Licences.{holds_of, is_allowed, is_licensed, has_form}
use Rattle.affix_strip.specs.Found.{derives, derivations_of}
use Rattle.affix_strip.proofs.InverseLemmas.{is_word-same, same-is_word}
use Rattle.affix_strip.proofs.LicenceLemmas.{licensed-named}

-- ---- what is licensed is there
licensed-entry : (lexicon : Lexicon) (d : Derivation) → is_licensed lexicon d ≡ true
    → d.entry < length lexicon.entries
unfolding is_licensed
licensed-entry lexicon d is =
    at (is_in_order lexicon.affixes.rules d) (slice_get lexicon.entries d.entry) refl is
  where
    at : (b : Bool) (found : Option Entry) → slice_get lexicon.entries d.entry ≡ found
        → holds_of is_allowed
        (if b then option_map (named_with lexicon.affixes.rules d) found else None) ≡ true
        → d.entry < length lexicon.entries
    at true (Some entry) there is = slice_get_within lexicon.entries d.entry entry there
    at true None there is = absurd (cc)
    at false found there is = absurd (cc)

licensed-among : (lexicon : Lexicon) (d : Derivation) → is_licensed lexicon d ≡ true
    → Contains (all_derivations lexicon) d
licensed-among lexicon d is =
    let rules = lexicon.affixes.rules in
    let count = length rules in
    let places = choices count in
    let one = and_parts (is_right rules Prefix d.prefix)
    (is_right rules Suffix d.first
    && (is_right rules Suffix d.second && (is_none d.second || is_some d.first)))
    (licensed-named lexicon d is) in
    let two = and_parts (is_right rules Suffix d.first)
    (is_right rules Suffix d.second && (is_none d.second || is_some d.first)) one.1 in
    let three =
    and_parts (is_right rules Suffix d.second) (is_none d.second || is_some d.first)
    two.1 in
    contains-flat_map (all_from count) (range_with_len 0 (length lexicon.entries)) d.entry d
    (contains-range (length lexicon.entries) d.entry (licensed-entry lexicon d is))
    (contains-flat_map
    (λ prefix. flat_map (λ first. map (derivation_of d.entry prefix first) places) places)
    places d.prefix d
    (contains-choice count d.prefix (right-within rules Prefix d.prefix one.0))
    (contains-flat_map (λ first. map (derivation_of d.entry d.prefix first) places) places d.first d
    (contains-choice count d.first (right-within rules Suffix d.first two.0))
    (contains-map (derivation_of d.entry d.prefix d.first) places d.second
    (contains-choice count d.second (right-within rules Suffix d.second three.0)))))

-- ---- what is found
pub derivations-members : (lexicon : Lexicon) (word : List ℕ) (d : Derivation)
    → Contains (derivations_of lexicon word) d
    ↔ ((is_licensed lexicon d ≡ true) × (form_of lexicon d ≡ Some word))
unfolding derivations_of
derivations-members lexicon word d = (
  λ inside. told
      (All-contains (λ e. derives lexicon word e ≡ true) (derivations_of lexicon word) d
      (filter_passes (derives lexicon word) (all_derivations lexicon)) inside),
  λ is. contains-filter (derives lexicon word) (all_derivations lexicon) d
      (licensed-among lexicon d is.0)
      (and_from (is_licensed lexicon d) (has_form lexicon word d) is.0
      (same-is_word word (form_of lexicon d) is.1)),
)
  where
    told : derives lexicon word d ≡ true → (is_licensed lexicon d ≡ true)
        × (form_of lexicon d ≡ Some word)
    told is =
        let parts = and_parts (is_licensed lexicon d) (has_form lexicon word d) is in
        (parts.0, is_word-same word (form_of lexicon d) parts.1)
