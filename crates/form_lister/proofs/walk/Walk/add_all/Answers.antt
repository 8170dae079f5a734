-- The forms of one entry more are there.
use Rattle.std.proofs.Common.{◌≡◌, ap, length, arith}
use Rattle.form_lister.proofs.WalkLemmas.{below-none, below-more, all-below}
use Rattle.form_lister.proofs.walk.Walk.add_all.Goals as goal

pub loop-entry-init : goal.loop-entry-init
loop-entry-init c = below-none c.args.self.now c.args.found.now c.requires

pub loop-entry-preserved : goal.loop-entry-preserved
loop-entry-preserved c =
    below-more c.args.self.now c.loop-entry.entry c.args.found.now c.loop-entry.found
    c.add_entry.new.found c.loop-entry.invariant c.in_ok-add_entry.ensures.adds

pub returns-clause-adds : goal.returns-clause-adds
returns-clause-adds c =
    let same : length c.lexicon.result.now.entries ≡ length c.args.self.now.stems.now.entries =
    ap (λ lexicon. length lexicon.entries) c.lexicon.ensures.same in
    all-below c.args.self.now c.loop-entry.entry c.args.found.now c.loop-entry.found
    (omega (arith, same, c.len-count.ensures, c.loop-entry-test.false)) c.loop-entry.invariant
