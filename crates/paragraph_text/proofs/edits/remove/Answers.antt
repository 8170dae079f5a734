-- The paragraph at the place is taken out.
use Rattle.paragraph_text.proofs.Decided.{removes-at}
use Rattle.paragraph_text.proofs.edits.remove.Goals as goal

pub returns-clause-applied : goal.returns-clause-applied
returns-clause-applied c =
    let found = c.in_ok-place.ensures.found in
    removes-at c.args.named.rev found.0 found.1 c.in_ok-removed.ensures
