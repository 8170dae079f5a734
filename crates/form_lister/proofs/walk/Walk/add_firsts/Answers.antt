-- Those with one first suffix more are there.
use Rattle.std.proofs.Common.{refl, get_or, None, arith}
use Rattle.form_lister.specs.Walks.{HasFirst}
use Rattle.form_lister.proofs.WalkLemmas.{at-none, at-more, at-last}
use Rattle.form_lister.proofs.walk.Walk.add_firsts.Goals as goal

pub loop-first-init : goal.loop-first-init
loop-first-init c =
    at-none c.args.self.now (HasFirst c.args.entry) c.args.found.now c.requires.way

pub loop-first-preserved : goal.loop-first-preserved
loop-first-preserved c =
    at-more c.args.self.now (HasFirst c.args.entry) c.args.firsts.now
    c.loop-first.first-index (get_or c.args.firsts.now c.loop-first.first-index None) None
    c.args.found.now c.loop-first.found
    c.add_first.new.found (omega arith) refl c.loop-first.invariant
    c.in_ok-add_first.ensures.adds

pub returns-clause-adds : goal.returns-clause-adds
returns-clause-adds c =
    at-last c.args.self.now (HasFirst c.args.entry) c.args.firsts.now
    c.loop-first.first-index c.args.found.now c.loop-first.found (omega arith)
    c.loop-first.invariant
