-- The place before the first step is set, and no other.
use Rattle.std.proofs.Common.{sym, subst, []}
use Rattle.compound_pattern.specs.States.{AreAfter}
use Rattle.compound_pattern.proofs.StateLemmas.{start-AreAfter, first_set}
use Rattle.compound_pattern.proofs.running.States.start.Goals as goal

pub returns : goal.returns
returns c =
    let steps = c.args.pattern.now in
    subst (AreAfter steps [])
    (sym (first_set steps c.as_slice.result.now c.in_ok-kept.kept.items c.as_slice.ensures
    (c.in_ok-kept.ensures.items_if_clones_equal (λ y is. is))))
    (start-AreAfter steps)
