-- The two eyes are all.
use Rattle.std.proofs.Common.{◌∙◌, ap, [], ◌∷◌, ◌++◌}
use Rattle.desk_tests.proofs.TwoEyes.{two-eyes}
use Rattle.desk_tests.proofs.tests.desks.closed.Goals as goal

pub close-requires : goal.close-requires
close-requires g c =
    two-eyes g.D.Ledger.parts c.push-2.new.self.items c.args.first c.args.second c.requires.parts
    c.requires.first c.requires.second
    (c.in_ok-push-2.ensures.items
    ∙ ap (λ eyes. eyes ++ c.args.second ∷ []) (c.in_ok-push.ensures.items
    ∙ ap (λ eyes. eyes ++ c.args.first ∷ []) c.new-eyes.ensures.items))
