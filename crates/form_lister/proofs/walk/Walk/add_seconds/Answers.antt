-- Those with one second suffix more are there.
use Rattle.std.proofs.Common.{refl, get_or, None, arith}
use Rattle.form_lister.specs.Walks.{HasSuffixes}
use Rattle.form_lister.proofs.WalkLemmas.{at-none, at-more, at-last}
use Rattle.form_lister.proofs.walk.Walk.add_seconds.Goals as goal

pub loop-second-init : goal.loop-second-init
loop-second-init c =
    at-none c.args.self.now (HasSuffixes c.args.entry c.args.first) c.args.found.now c.requires.way

pub loop-second-preserved : goal.loop-second-preserved
loop-second-preserved c =
    at-more c.args.self.now (HasSuffixes c.args.entry c.args.first) c.args.seconds.now
    c.loop-second.second-index (get_or c.args.seconds.now c.loop-second.second-index None) None
    c.args.found.now c.loop-second.found
    c.add_second.new.found (omega arith) refl c.loop-second.invariant
    c.in_ok-add_second.ensures.adds

pub returns-clause-adds : goal.returns-clause-adds
returns-clause-adds c =
    at-last c.args.self.now (HasSuffixes c.args.entry c.args.first) c.args.seconds.now
    c.loop-second.second-index c.args.found.now c.loop-second.found (omega arith)
    c.loop-second.invariant
