-- What the search tells of the place makes the set that the definition makes.
use Rattle.std.proofs.Common.{◌≡◌, ◌≤◌, ◌∙◌, sym, ap, subst, Some, slice_get, length}
use Rattle.std.proofs.lemmas.Result.{IfOk-equal}
use Rattle.spell_types.specs.Flags.{put}
use Rattle.spell_types.specs.KeptFlags.{kept_flags}
use Rattle.spell_types.proofs.FlagLemmas.{Missing, put_held, put_missing}
use Rattle.spell_types.proofs.flags.FlagSet.insert.Goals as goal

pub returns-in-Ok-clause-ok : goal.returns-in-Ok-clause-ok
returns-in-Ok-clause-ok c =
    sym (subst (λ xs. put c.args.flag xs ≡ xs) c.self.view_is
    (put_held c.args.flag (kept_flags c.self.inside.kept) c.in-Ok.field-0 c.self.invariant
    (subst (λ xs. slice_get xs c.in-Ok.field-0 ≡ Some c.args.flag)
    c.slice_of.ensures c.in-Ok.ensures.found)))

pub returns-in-Err-clause-ok : goal.returns-in-Err-clause-ok
returns-in-Err-clause-ok c =
    IfOk-equal c.insert_at.result _ _ _ c.insert_at.ensures.ok
    (sym (put_missing c.args.flag (kept_flags c.self.inside.kept) c.in-Err.place
    (subst (λ xs. c.in-Err.place ≤ length xs) c.slice_of.ensures c.in-Err.ensures.within)
    (subst (λ xs. Missing c.args.flag xs c.in-Err.place)
    c.slice_of.ensures c.in-Err.ensures.missing))
    ∙ ap (put c.args.flag) c.self.view_is)
