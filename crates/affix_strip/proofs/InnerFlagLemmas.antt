-- Sets with the flags of all classes whose rules carry one of theirs.
use Rattle.std.proofs.Common.{◌≡◌, ◌∙◌, refl, sym, ap, ◌+◌, Bool, true, false}
use Rattle.std.proofs.Common.{true≢false, not, List, [], ◌++◌, length, map}
use Rattle.std.proofs.Common.{Some, Result, Ok, Err, IfOk, Contains, arith}
use Rattle.std.proofs.Common.{length-append}
use Rattle.std.specs.List.{list_any}
use Rattle.std.proofs.lemmas.Bool.{and_from}
use Rattle.std.proofs.lemmas.List.{get_or_append_left, get_or-append-add}
use Rattle.spell_types.specs.lists.Laws.{any-at, contains-map}
use Rattle.spell_types.specs.declared.flags.Flag.{Flag}
use Rattle.spell_types.specs.declared.rules.Rule.{Rule}
use Rattle.spell_types.specs.Flags.{has, has_flag_of, put_all}
use Rattle.affix_strip.specs.Inside.{HasCarriers, KeepsFlags, lacks_carrier}
use Rattle.affix_strip.proofs.TableLemmas.{TellsMembers, TellsHas, get-contains, listed-has}

contains-left : {X : Type 0} (xs ys : List X) (x : X) → Contains xs x → Contains (xs ++ ys) x
contains-left xs ys x among = (
  among.0,
  omega (arith, among.1, length-append xs ys),
  get_or_append_left xs ys x among.0 among.1 ∙ among.2,
)

contains-right : {X : Type 0} (xs ys : List X) (x : X) → Contains ys x → Contains (xs ++ ys) x
contains-right xs ys x among = (
  length xs + among.0,
  omega (arith, among.1, length-append xs ys),
  get_or-append-add xs ys among.0 x ∙ among.2,
)

-- where no rule lacks it, each carrier's flag is there
pub none-lacks : (set : List Flag) (rules : List Rule)
    → list_any (lacks_carrier set) rules ≡ false → HasCarriers rules set
none-lacks set rules none place rule at carries = by (has set (Some rule.flag)) refl
  where
    by : (b : Bool) → has set (Some rule.flag) ≡ b → has set (Some rule.flag) ≡ true
    by true is = is
    by false is =
        absurd (true≢false
        (sym (any-at (lacks_carrier set) rules place rule at
        (and_from (has_flag_of set rule.carried) (not (has set (Some rule.flag))) carries
        (ap not is))) ∙ none))

-- the flags of a set with more are there still
pub joined-keeps : TellsMembers → TellsHas → (set more made : List Flag)
    → made ≡ put_all [] (set ++ more) → KeepsFlags set made
joined-keeps members told set more made is flag there =
    listed-has members told (set ++ more) made is flag
    (contains-left set more flag ((told set flag).0 there))

-- where the flags of all classes are put in
joined-classes : TellsMembers → TellsHas → (set made : List Flag) (rules : List Rule)
    → made ≡ put_all [] (set ++ map (λ (rule : Rule). rule.flag) rules) → HasCarriers rules made
joined-classes members told set made rules is place rule at carries =
    listed-has members told (set ++ map (λ (r : Rule). r.flag) rules) made is rule.flag
    (contains-right set (map (λ (r : Rule). r.flag) rules) rule.flag
    (contains-map (λ (r : Rule). r.flag) rules rule (get-contains rules place rule at)))

pub all-joined : {E : Type 0} → TellsMembers → TellsHas → (rules : List Rule)
    (made : Result (List Flag) E) (set more : List Flag)
    → IfOk made (λ flags. flags ≡ put_all [] (set ++ more))
    → more ≡ map (λ (rule : Rule). rule.flag) rules → IfOk made (HasCarriers rules)
all-joined members told rules (Ok made) set more is all =
    joined-classes members told set made rules (is ∙ ap (λ m. put_all [] (set ++ m)) all)
all-joined members told rules (Err why) set more is all = tt
