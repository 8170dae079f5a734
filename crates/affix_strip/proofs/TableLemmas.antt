-- The tables of a dictionary: the flags that they list; and which places they give.
use Rattle.std.proofs.Common.{◌≡◌, ◌∙◌, sym, ap, subst, ℕ, Bool, true, ◌↔◌, List, [], slice_get}
use Rattle.std.proofs.Common.{map, Some, None, Result, Ok, Err, IfOk, Vec, Global, Contains, IsTrue}
use Rattle.std.proofs.Common.{if◌then◌else◌}
use Rattle.std.specs.List.{flat_map}
use Rattle.std.proofs.lemmas.Option.{option_and_then_some, cond_some, slice_get_within}
use Rattle.std.proofs.lemmas.Option.{get_or_from_slice_get}
use Rattle.spell_types.specs.lists.Laws.{contains-flat_map, contains-map}
use Rattle.spell_types.specs.declared.flags.Flag.{Flag}
use Rattle.spell_types.specs.declared.rules.Rule.{Rule}
use Rattle.spell_types.specs.declared.rules.Side.{Side}
use Rattle.spell_types.specs.declared.rules.Side.TheVariants.{Suffix}
use Rattle.spell_types.specs.Derivations.{is_same_side, rule_on}
use Rattle.spell_types.specs.Flags.{has, put_all}
use Rattle.affix_strip.specs.Classes.{HasClasses}
use Rattle.affix_strip.specs.Tables.{HasCarried, AreSeconds, carried_by_suffix}

-- ---- the flags that are listed are in their set
-- an item with a place is in its list
pub get-contains : {X : Type 0} (xs : List X) (place : ℕ) (x : X) → slice_get xs place ≡ Some x
    → Contains xs x
get-contains xs place x at =
    (place, slice_get_within xs place x at, get_or_from_slice_get xs place x x at)

-- what sets of flags have
abbrev pub TellsMembers : Type 0
TellsMembers =
    (flags : List Flag) (flag : Flag) → Contains (put_all [] flags) flag ↔ Contains flags flag

abbrev pub TellsHas : Type 0
TellsHas = (set : List Flag) (flag : Flag) → IsTrue (has set (Some flag)) ↔ Contains set flag

pub listed-has : TellsMembers → TellsHas → (flags set : List Flag) → set ≡ put_all [] flags
    → (flag : Flag) → Contains flags flag → has set (Some flag) ≡ true
listed-has members told flags set is flag among =
    subst (λ fs. has fs (Some flag) ≡ true) (sym is)
    ((told (put_all [] flags) flag).1 ((members flags flag).1 among))

-- the flags of classes
pub classes-listed : TellsMembers → TellsHas → (rules : List Rule) (set : List Flag)
    → set ≡ put_all [] (map (λ (rule : Rule). rule.flag) rules) → HasClasses rules set
classes-listed members told rules set is = record {
  flags = λ place rule at.
      listed-has members told (map (λ (r : Rule). r.flag) rules) set is rule.flag
      (contains-map (λ (r : Rule). r.flag) rules rule (get-contains rules place rule at));
}

-- the flags that suffix rules carry
pub carried-listed : TellsMembers → TellsHas → (rules : List Rule) (set : List Flag)
    → set ≡ put_all [] (flat_map carried_by_suffix rules) → HasCarried rules set
carried-listed members told rules set is = record {
  flags = λ place own rule other at side there carries.
      listed-has members told (flat_map carried_by_suffix rules) set is other.flag
      (contains-flat_map carried_by_suffix rules rule other.flag (get-contains rules place rule at)
      (own-flag rule other.flag side ((told rule.carried other.flag).0 carries)));
}
  where
    own-flag : (rule : Rule) (flag : Flag) → rule.side ≡ Suffix → Contains rule.carried flag
        → Contains (carried_by_suffix rule) flag
    own-flag rule flag side has =
        subst (λ s. Contains (if is_same_side Suffix s then rule.carried else []) flag) (sym side)
        has

-- the rules whose flags these are
pub are-seconds : {E : Type 0} (rules : List Rule) (set : List Flag) → HasCarried rules set
    → (told : Result (Vec Bool Global) E)
    → IfOk told (λ seconds. seconds.items ≡ map (λ rule. has set (Some rule.flag)) rules)
    → IfOk told (λ seconds. AreSeconds rules seconds.items)
are-seconds rules set carried (Ok seconds) are = record { set = set; carried = carried; are = are }
are-seconds rules set carried (Err why) are = tt

-- ---- the rules that may be undone
pub on-rule : (rules : List Rule) (side : Side) (place : ℕ) (rule : Rule)
    → rule_on rules side place ≡ Some rule → slice_get rules place ≡ Some rule
on-rule rules side place rule on =
    option_and_then_some (λ (r : Rule). if is_same_side side r.side then Some r else None)
    (slice_get rules place) rule on (λ r at is.
    at ∙ ap (λ x. Some x) (cond_some (is_same_side side r.side) r rule is).1)
