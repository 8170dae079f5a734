-- Those behind one prefix more are there.
use Rattle.std.proofs.Common.{refl, get_or, None, arith}
use Rattle.form_lister.specs.Walks.{IsOfEntryAndPrefix}
use Rattle.form_lister.proofs.WalkLemmas.{at-none, at-more, at-last}
use Rattle.form_lister.proofs.walk.Walk.add_behind_prefixes.Goals as goal

pub loop-prefix-init : goal.loop-prefix-init
loop-prefix-init c =
    at-none c.args.self.now (IsOfEntryAndPrefix c.args.self.now.stems.now c.args.entry) c.args.found.now
    c.requires

pub loop-prefix-preserved : goal.loop-prefix-preserved
loop-prefix-preserved c =
    at-more c.args.self.now (IsOfEntryAndPrefix c.args.self.now.stems.now c.args.entry) c.args.prefixes.now
    c.loop-prefix.prefix-index (get_or c.args.prefixes.now c.loop-prefix.prefix-index None) None
    c.args.found.now c.loop-prefix.found
    c.add_behind.new.found (omega arith) refl c.loop-prefix.invariant
    c.in_ok-add_behind.ensures.adds

pub returns-clause-adds : goal.returns-clause-adds
returns-clause-adds c =
    at-last c.args.self.now (IsOfEntryAndPrefix c.args.self.now.stems.now c.args.entry) c.args.prefixes.now
    c.loop-prefix.prefix-index c.args.found.now c.loop-prefix.found (omega arith)
    c.loop-prefix.invariant
