-- The derivations with one second suffix more are shown.
use Rattle.std.proofs.Common.{refl, None, get_or, arith}
use Rattle.affix_strip.specs.Parts.{From}
use Rattle.affix_strip.proofs.ShowLemmas.{loop-first, loop-more, loop-end, loop-last}
use Rattle.affix_strip.proofs.walk.visit_second_suffixes.Goals as goal

pub loop-second-init : goal.loop-second-init
loop-second-init g c =
    loop-first (λ second. From c.args.lexicon.now c.args.prefix c.args.first second
    c.args.entries.now) c.args.seconds.now

pub returns-then-branch : goal.returns-then-branch
returns-then-branch g c =
    loop-end (λ second. From c.args.lexicon.now c.args.prefix c.args.first second
    c.args.entries.now) c.args.seconds.now c.loop-second.second-index
    (get_or c.args.seconds.now c.loop-second.second-index None) None
    (omega arith) refl c.loop-second.invariant c.in_ok-visit_entries.ensures c.if-branch.true

pub loop-second-preserved : goal.loop-second-preserved
loop-second-preserved g c =
    loop-more (λ second. From c.args.lexicon.now c.args.prefix c.args.first second
    c.args.entries.now) c.args.seconds.now c.loop-second.second-index
    (get_or c.args.seconds.now c.loop-second.second-index None) None
    (omega arith) refl c.loop-second.invariant c.in_ok-visit_entries.ensures c.if-branch.false

pub returns : goal.returns
returns g c =
    loop-last (λ second. From c.args.lexicon.now c.args.prefix c.args.first second
    c.args.entries.now) c.args.seconds.now c.loop-second.second-index (omega arith)
    c.loop-second.invariant
