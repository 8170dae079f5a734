-- What a derivation names, its form, and all derivations of a dictionary.
use Rattle.std.specs.Prelude.{ℕ, Bool, true, false, ◌&&◌, ◌||◌, List, ◌∷◌, length, map, slice_get}
use Rattle.std.specs.Prelude.{Option, None, Some, is_some, is_none, option_and_then, if◌then◌else◌}
use Rattle.std.specs.List.{flat_map, range_with_len}
use Rattle.std.specs.Option.{option_map}
use Rattle.spell_types.specs.declared.Entry.{Entry}
use Rattle.spell_types.specs.declared.Lexicon.{Lexicon}
use Rattle.spell_types.specs.declared.derivations.Derivation.{Derivation}
use Rattle.spell_types.specs.declared.rules.Rule.{Rule}
use Rattle.spell_types.specs.declared.rules.Side.{Side}
use Rattle.spell_types.specs.declared.rules.Side.TheVariants.{Prefix, Suffix}
use Rattle.spell_types.specs.Attaching.{attached}

-- whether the sides are the same
abbrev pub is_same_side : Side → Side → Bool
is_same_side Prefix Prefix = true
is_same_side Prefix Suffix = false
is_same_side Suffix Prefix = false
is_same_side Suffix Suffix = true

-- the rule with a place among the rules, from 0, if it is one of the side
abbrev pub rule_on : List Rule → Side → ℕ → Option Rule
rule_on rules side place =
    option_and_then (λ rule. if is_same_side side rule.side then Some rule else None)
    (slice_get rules place)

-- the rule that is named, if one is
abbrev pub affix_on : List Rule → Side → Option ℕ → Option Rule
affix_on rules side named = option_and_then (rule_on rules side) named

-- whether no rule is named, or one of the side
abbrev pub is_right : List Rule → Side → Option ℕ → Bool
is_right rules side None = true
is_right rules side (Some place) = is_some (rule_on rules side place)

-- whether each rule that is named is one of its side, and a second suffix stands behind a first
abbrev pub is_in_order : List Rule → Derivation → Bool
is_in_order rules d =
    is_right rules Prefix d.prefix
    && (is_right rules Suffix d.first
    && (is_right rules Suffix d.second && (is_none d.second || is_some d.first)))

-- what a derivation names: an entry, and the affixes that are attached to its word
pub record Named : Type 0 where
  pub entry : Entry
  pub prefix : Option Rule
  pub first : Option Rule
  pub second : Option Rule

-- the affixes that a derivation names beside this entry
abbrev pub named_with : List Rule → Derivation → Entry → Named
named_with rules d entry = record {
  entry = entry;
  prefix = affix_on rules Prefix d.prefix;
  first = affix_on rules Suffix d.first;
  second = affix_on rules Suffix d.second;
}

-- what a derivation names, if it is in order
abbrev pub named : Lexicon → Derivation → Option Named
named lexicon d =
    if is_in_order lexicon.affixes.rules d then option_map (named_with lexicon.affixes.rules d)
    (slice_get lexicon.entries d.entry) else None

-- the word with an affix attached, if there is one
abbrev pub with_affix : Bool → Option Rule → List ℕ → Option (List ℕ)
with_affix full_strip None word = Some word
with_affix full_strip (Some rule) word = attached full_strip rule word

-- the entry's word with the first suffix attached, then the second, and last the prefix
abbrev pub formed : Bool → Named → Option (List ℕ)
formed full_strip named =
    option_and_then (with_affix full_strip named.prefix)
    (option_and_then (with_affix full_strip named.second)
    (with_affix full_strip named.first named.entry.word))

-- the form of a derivation, where it has one
unfoldable pub form_of : Lexicon → Derivation → Option (List ℕ)
form_of lexicon d = option_and_then (formed lexicon.affixes.options.full_strip) (named lexicon d)

-- none, and each of so many places
abbrev pub choices : ℕ → List (Option ℕ)
choices count = None ∷ map (λ place. Some place) (range_with_len 0 count)

abbrev pub derivation_of : ℕ → Option ℕ → Option ℕ → Option ℕ → Derivation
derivation_of entry prefix first second =
    record { entry = entry; prefix = prefix; first = first; second = second }

-- all derivations from an entry over so many rules: by prefix, then by first, then by second
-- suffix, none before any
abbrev pub all_from : ℕ → ℕ → List Derivation
all_from count entry =
    flat_map (λ prefix. flat_map (λ first. map (derivation_of entry prefix first) (choices count))
    (choices count)) (choices count)

-- all derivations of a dictionary, in order or not, by entry
abbrev pub all_derivations : Lexicon → List Derivation
all_derivations lexicon =
    flat_map (all_from (length lexicon.affixes.rules)) (range_with_len 0 (length lexicon.entries))
