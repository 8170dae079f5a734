-- Which derivations are licensed, sound, and words that stand alone; and which words are barred.
use Rattle.std.specs.Prelude.{ℕ, Bool, true, false, not, ◌&&◌, ◌||◌, IsTrue, List, [], nat_eq}
use Rattle.std.specs.Prelude.{Option, None, Some, is_none, if◌then◌else◌}
use Rattle.std.specs.List.{list_any}
use Rattle.std.specs.Cmp.Lexicographic.{pointwise}
use Rattle.spell_types.specs.declared.Affixes.{Affixes}
use Rattle.spell_types.specs.declared.Lexicon.{Lexicon}
use Rattle.spell_types.specs.declared.derivations.Derivation.{Derivation}
use Rattle.spell_types.specs.declared.flags.Flag.{Flag}
use Rattle.spell_types.specs.declared.rules.Rule.{Rule}
use Rattle.spell_types.specs.declared.signs.Signs.{Signs}
use Rattle.spell_types.specs.Derivations.{Named, named, form_of, all_derivations}
use Rattle.spell_types.specs.Flags.{has}

-- the flags that an affix carries
abbrev pub carried_by : Option Rule → List Flag
carried_by None = []
carried_by (Some rule) = rule.carried

-- whether flags allow an affix: there is none, or its class's flag is one of them
abbrev pub allows : List Flag → Option Rule → Bool
allows flags None = true
allows flags (Some rule) = has flags (Some rule.flag)

-- The entry allows the first suffix, or a prefix does that the entry allows.
abbrev pub is_first_allowed : Named → Bool
is_first_allowed n =
    allows n.entry.flags n.first
    || (allows n.entry.flags n.prefix && allows (carried_by n.prefix) n.first)

-- The first suffix allows the second.
abbrev pub is_second_allowed : Named → Bool
is_second_allowed n = allows (carried_by n.first) n.second

-- The entry allows the prefix, or one of the suffixes does.
abbrev pub is_prefix_allowed : Named → Bool
is_prefix_allowed n =
    allows n.entry.flags n.prefix
    || (allows (carried_by n.first) n.prefix || allows (carried_by n.second) n.prefix)

-- whether an affix may stand beside one at the word's other end
abbrev pub crosses : Option Rule → Bool
crosses None = true
crosses (Some rule) = rule.cross

-- Where there are a prefix and a suffix, each affix is of a class that crosses.
abbrev pub is_crossing_right : Named → Bool
is_crossing_right n =
    is_none n.prefix
    || (is_none n.first || (crosses n.prefix && (crosses n.first && crosses n.second)))

abbrev pub is_allowed : Named → Bool
is_allowed n =
    is_first_allowed n && (is_second_allowed n && (is_prefix_allowed n && is_crossing_right n))

-- whether there is an affix, and it does not carry the flag
abbrev pub is_affix_without : Option Flag → Option Rule → Bool
is_affix_without flag None = false
is_affix_without flag (Some rule) = not (has rule.carried flag)

abbrev pub has_affix : Named → Bool
has_affix n = not (is_none n.prefix && (is_none n.first && is_none n.second))

-- An affix is without NEEDAFFIX, or there is none and the entry is without it.
abbrev pub meets_need : Option Flag → Named → Bool
meets_need need n =
    if has_affix n
    then is_affix_without need n.prefix
    || (is_affix_without need n.first || is_affix_without need n.second)
    else not (has n.entry.flags need)

-- The prefix carries CIRCUMFIX where a suffix does, and nowhere else.
abbrev pub meets_circumfix : Option Flag → Named → Bool
meets_circumfix circumfix n =
    let by_suffix = has (carried_by n.first) circumfix || has (carried_by n.second) circumfix in
    if has (carried_by n.prefix) circumfix then by_suffix else not by_suffix

-- It is allowed, and NEEDAFFIX and CIRCUMFIX are met.
abbrev pub meets_signs : Signs → Named → Bool
meets_signs signs n =
    is_allowed n && (meets_need signs.need_affix n && meets_circumfix signs.circumfix n)

-- whether an affix carries the flag
abbrev pub some_affix_carries : Option Flag → Named → Bool
some_affix_carries flag n =
    has (carried_by n.prefix) flag
    || (has (carried_by n.first) flag || has (carried_by n.second) flag)

-- whether the entry or an affix carries the flag
abbrev pub some_carry : Option Flag → Named → Bool
some_carry flag n = has n.entry.flags flag || some_affix_carries flag n

-- The entry is no forbidden word, nothing stands in compounds only, and a rare word is not refused.
abbrev pub may_stand_alone : Affixes → Named → Bool
may_stand_alone affixes n =
    not (has n.entry.flags affixes.signs.forbidden)
    && (not (some_carry affixes.signs.only_inside n)
    && not (affixes.options.forbid_warn && has n.entry.flags affixes.signs.warn))

-- whether a derivation names something for which this holds
abbrev pub holds_of : (Named → Bool) → Option Named → Bool
holds_of holds None = false
holds_of holds (Some n) = holds n

-- whether the derivation's entry has the flag
unfoldable pub has_entry_with : Option Flag → Lexicon → Derivation → Bool
has_entry_with flag lexicon d = holds_of (λ n. has n.entry.flags flag) (named lexicon d)

-- whether an affix of the derivation carries the flag
unfoldable pub has_affix_with : Option Flag → Lexicon → Derivation → Bool
has_affix_with flag lexicon d = holds_of (some_affix_carries flag) (named lexicon d)

-- whether the entry or an affix of the derivation carries the flag
unfoldable pub has_some_with : Option Flag → Lexicon → Derivation → Bool
has_some_with flag lexicon d = holds_of (some_carry flag) (named lexicon d)

-- whether the derivation has a prefix that does not carry the flag
unfoldable pub has_prefix_without : Option Flag → Lexicon → Derivation → Bool
has_prefix_without flag lexicon d = holds_of (λ n. is_affix_without flag n.prefix) (named lexicon d)

-- whether it has a suffix that does not
unfoldable pub has_suffix_without : Option Flag → Lexicon → Derivation → Bool
has_suffix_without flag lexicon d =
    holds_of (λ n. is_affix_without flag n.first || is_affix_without flag n.second)
    (named lexicon d)

-- who allows which affix
unfoldable pub is_licensed : Lexicon → Derivation → Bool
is_licensed lexicon d = holds_of is_allowed (named lexicon d)

-- a licensed derivation that meets NEEDAFFIX and CIRCUMFIX
unfoldable pub is_sound : Lexicon → Derivation → Bool
is_sound lexicon d = holds_of (meets_signs lexicon.affixes.signs) (named lexicon d)

-- a sound derivation that stands as a word
unfoldable pub is_alone : Lexicon → Derivation → Bool
is_alone lexicon d =
    holds_of (λ n. meets_signs lexicon.affixes.signs n && may_stand_alone lexicon.affixes n)
    (named lexicon d)

-- a sound derivation of a forbidden word
unfoldable pub is_forbidden : Lexicon → Derivation → Bool
is_forbidden lexicon d =
    holds_of (λ n. meets_signs lexicon.affixes.signs n
    && has n.entry.flags lexicon.affixes.signs.forbidden) (named lexicon d)

abbrev pub IsLicensed : Lexicon → Derivation → Type 0
IsLicensed lexicon d = IsTrue (is_licensed lexicon d)

abbrev pub IsSound : Lexicon → Derivation → Type 0
IsSound lexicon d = IsTrue (is_sound lexicon d)

abbrev pub IsAlone : Lexicon → Derivation → Type 0
IsAlone lexicon d = IsTrue (is_alone lexicon d)

-- whether this is the word, character by character
abbrev pub is_word : List ℕ → Option (List ℕ) → Bool
is_word word None = false
is_word word (Some form) = pointwise nat_eq form word

-- whether the form of the derivation is the word
abbrev pub has_form : Lexicon → List ℕ → Derivation → Bool
has_form lexicon word d = is_word word (form_of lexicon d)

-- whether the word is the form of such a derivation
abbrev pub is_derived : (Lexicon → Derivation → Bool) → Lexicon → List ℕ → Bool
is_derived holds lexicon word =
    list_any (λ d. holds lexicon d && has_form lexicon word d) (all_derivations lexicon)

-- a forbidden word: it is the form of a sound derivation whose entry is forbidden
unfoldable pub is_barred : Lexicon → List ℕ → Bool
is_barred lexicon word = is_derived is_forbidden lexicon word

abbrev pub IsBarred : Lexicon → List ℕ → Type 0
IsBarred lexicon word = IsTrue (is_barred lexicon word)
