-- The word that an affix rule was attached to.
use Rattle.std.specs.Prelude.{ℕ, ◌-◌, Bool, ◌&&◌, List, ◌++◌, length, take, drop, nat_eq, Option}
use Rattle.std.specs.Prelude.{None, Some, if◌then◌else◌}
use Rattle.std.specs.List.{starts_with, ends_with}
use Rattle.spell_types.specs.declared.rules.Rule.{Rule}
use Rattle.spell_types.specs.declared.rules.Side.{Side}
use Rattle.spell_types.specs.declared.rules.Side.TheVariants.{Prefix, Suffix}
use Rattle.spell_types.specs.Conditions.{fits_front, fits_back}
use Rattle.spell_types.specs.Attaching.{may_strip}

-- the word with what the suffix rule strips off in place of what it adds
abbrev pub suffix_put_back : Rule → List ℕ → List ℕ
suffix_put_back rule word = take (length word - length rule.add) word ++ rule.strip

-- the word with what the prefix rule strips off in place of what it adds
abbrev pub prefix_put_back : Rule → List ℕ → List ℕ
prefix_put_back rule word = rule.strip ++ drop (length rule.add) word

-- that word, where the suffix rule may be attached to it
abbrev pub undone_suffix : Bool → Rule → List ℕ → Option (List ℕ)
undone_suffix full_strip rule word =
    let stem = suffix_put_back rule word in
    if ends_with nat_eq word rule.add
    && (may_strip full_strip rule stem && fits_back rule.condition stem) then Some stem
    else None

-- that word, where the prefix rule may be attached to it
abbrev pub undone_prefix : Bool → Rule → List ℕ → Option (List ℕ)
undone_prefix full_strip rule word =
    let stem = prefix_put_back rule word in
    if starts_with nat_eq word rule.add
    && (may_strip full_strip rule stem && fits_front rule.condition stem) then Some stem
    else None

-- the word that becomes this one when the rule is attached to it, on a side
abbrev pub undone_on : Side → Bool → Rule → List ℕ → Option (List ℕ)
undone_on Prefix full_strip rule word = undone_prefix full_strip rule word
undone_on Suffix full_strip rule word = undone_suffix full_strip rule word
