-- Which derivations may be parts of compounds, and at which places.
use Rattle.std.specs.Prelude.{ℕ, Bool, true, false, not, ◌&&◌, ◌||◌, List, length, nat_le, Option}
use Rattle.std.specs.Prelude.{is_none, IsTrue}
use Rattle.spell_types.specs.declared.Lexicon.{Lexicon}
use Rattle.spell_types.specs.declared.derivations.Derivation.{Derivation}
use Rattle.spell_types.specs.declared.flags.Flag.{Flag}
use Rattle.spell_types.specs.declared.parts.Place.{Place}
use Rattle.spell_types.specs.declared.parts.Place.TheVariants.{First, Middle, Last}
use Rattle.spell_types.specs.declared.signs.Signs.{Signs}
use Rattle.spell_types.specs.Licences.{has_entry_with, has_affix_with, has_some_with}
use Rattle.spell_types.specs.Licences.{has_prefix_without, has_suffix_without}

abbrev pub is_first : Place → Bool
is_first First = true
is_first Middle = false
is_first Last = false

abbrev pub is_last : Place → Bool
is_last First = false
is_last Middle = false
is_last Last = true

-- the flag that allows parts at a place
abbrev pub sign_at : Signs → Place → Option Flag
sign_at signs First = signs.begin
sign_at signs Middle = signs.middle
sign_at signs Last = signs.last

-- The entry or an affix carries the flag that allows parts at each place, or the one that allows
-- them at this place.
abbrev pub is_allowed_at : Lexicon → Derivation → Place → Bool
is_allowed_at lexicon d place =
    has_some_with lexicon.affixes.signs.compound lexicon d
    || has_some_with (sign_at lexicon.affixes.signs place) lexicon d

-- The entry is no forbidden word, and a rare word is not refused.
abbrev pub has_right_entry : Lexicon → Derivation → Bool
has_right_entry lexicon d =
    not (has_entry_with lexicon.affixes.signs.forbidden lexicon d)
    && not (lexicon.affixes.options.forbid_warn && has_entry_with lexicon.affixes.signs.warn lexicon
    d)

-- No affix forbids compounds, and the entry does so at the last place alone.
abbrev pub is_not_forbidden_at : Lexicon → Derivation → Place → Bool
is_not_forbidden_at lexicon d place =
    not (has_affix_with lexicon.affixes.signs.forbid lexicon d)
    && (is_last place || not (has_entry_with lexicon.affixes.signs.forbid lexicon d))

-- A prefix stands at the first place, a suffix at the last one; elsewhere each affix carries the
-- flag that permits it.
abbrev pub are_affixes_permitted_at : Lexicon → Derivation → Place → Bool
are_affixes_permitted_at lexicon d place =
    (is_first place || not (has_prefix_without lexicon.affixes.signs.permit lexicon d))
    && (is_last place || not (has_suffix_without lexicon.affixes.signs.permit lexicon d))

-- Two suffixes stand at the last place, or they may stand everywhere.
abbrev pub are_suffixes_few_at : Lexicon → Derivation → Place → Bool
are_suffixes_few_at lexicon d place =
    is_none d.second || (is_last place || lexicon.affixes.options.more_suffixes)

-- whether a derivation may stand at a place of a compound, however long its form is
unfoldable pub stands_at : Lexicon → Derivation → Place → Bool
stands_at lexicon d place =
    is_allowed_at lexicon d place
    && (has_right_entry lexicon d
    && (is_not_forbidden_at lexicon d place
    && (are_affixes_permitted_at lexicon d place && are_suffixes_few_at lexicon d place)))

-- whether a text has as many characters as a part needs
abbrev pub is_long_enough : Lexicon → List ℕ → Bool
is_long_enough lexicon text = nat_le lexicon.affixes.options.compound_min (length text)

-- whether a derivation whose form is the text is a part of a compound at a place
unfoldable pub is_part : Lexicon → List ℕ → Derivation → Place → Bool
is_part lexicon text d place = stands_at lexicon d place && is_long_enough lexicon text

abbrev pub IsPart : Lexicon → List ℕ → Derivation → Place → Type 0
IsPart lexicon text d place = IsTrue (is_part lexicon text d place)

-- Whether a derivation may stand at a place of a compound that follows a compound rule: all parts
-- but the last are without an affix, and the last is without a prefix.
unfoldable pub stands_in_rule : Lexicon → Derivation → Place → Bool
stands_in_rule lexicon d place =
    has_right_entry lexicon d
    && (not (has_affix_with lexicon.affixes.signs.forbid lexicon d)
    && (is_none d.prefix && (is_last place || (is_none d.first && is_none d.second))))
