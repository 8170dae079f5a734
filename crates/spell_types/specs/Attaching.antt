-- What becomes of a word that an affix rule is attached to.
use Rattle.std.specs.Prelude.{◌≡◌, ◌↔◌, ℕ, ◌-◌, Bool, ◌&&◌, ◌||◌, List, ◌++◌, length, take, drop}
use Rattle.std.specs.Prelude.{nat_eq, nat_lt, Option, None, Some, if◌then◌else◌}
use Rattle.std.specs.List.{starts_with, ends_with}
use Rattle.spell_types.specs.declared.rules.Side.{Side}
use Rattle.spell_types.specs.declared.rules.Side.TheVariants.{Prefix, Suffix}
use Rattle.spell_types.specs.declared.rules.Rule.{Rule}
use Rattle.spell_types.specs.Conditions.{fits_front, fits_back}

-- whether what the rule strips off leaves something of the word, or words may be stripped whole
abbrev pub may_strip : Bool → Rule → List ℕ → Bool
may_strip full_strip rule word = full_strip || nat_lt (length rule.strip) (length word)

-- Whether the suffix rule may be attached to the word. The condition is looked at before anything
-- is stripped off.
abbrev pub takes_suffix : Bool → Rule → List ℕ → Bool
takes_suffix full_strip rule word =
    ends_with nat_eq word rule.strip
    && (may_strip full_strip rule word && fits_back rule.condition word)

-- whether the prefix rule may be attached to the word
abbrev pub takes_prefix : Bool → Rule → List ℕ → Bool
takes_prefix full_strip rule word =
    starts_with nat_eq word rule.strip
    && (may_strip full_strip rule word && fits_front rule.condition word)

-- the word with what the suffix rule adds in place of what it strips off, where the rule may be
-- attached
abbrev pub attached_suffix : Bool → Rule → List ℕ → Option (List ℕ)
attached_suffix full_strip rule word =
    if takes_suffix full_strip rule word
    then Some (take (length word - length rule.strip) word ++ rule.add) else None

-- the word with what the prefix rule adds in place of what it strips off, where the rule may be
-- attached
abbrev pub attached_prefix : Bool → Rule → List ℕ → Option (List ℕ)
attached_prefix full_strip rule word =
    if takes_prefix full_strip rule word then Some (rule.add ++ drop (length rule.strip) word)
    else None

-- what attaching the rule to the word gives, on a side
abbrev pub attached_on : Side → Bool → Rule → List ℕ → Option (List ℕ)
attached_on Prefix full_strip rule word = attached_prefix full_strip rule word
attached_on Suffix full_strip rule word = attached_suffix full_strip rule word

-- What attaching the rule to the word gives, where it may be attached. `full_strip` is the
-- dictionary's option FULLSTRIP.
unfoldable pub attached : Bool → Rule → List ℕ → Option (List ℕ)
attached full_strip rule word = attached_on rule.side full_strip rule word

-- what was found is the one word that becomes this word, or there is none
abbrev pub IsUndone : (List ℕ → Option (List ℕ)) → List ℕ → Option (List ℕ) → Type 0
IsUndone attach word found = (stem : List ℕ) → (found ≡ Some stem) ↔ (attach stem ≡ Some word)
