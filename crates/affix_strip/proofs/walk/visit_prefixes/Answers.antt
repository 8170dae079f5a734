-- The derivations with one prefix more are shown.
use Rattle.std.proofs.Common.{refl, None, get_or, arith}
use Rattle.affix_strip.specs.Parts.{From}
use Rattle.affix_strip.specs.Parts.{AtSome}
use Rattle.affix_strip.proofs.ShowLemmas.{loop-first, loop-more, loop-end, loop-last}
use Rattle.affix_strip.proofs.walk.visit_prefixes.Goals as goal

pub loop-prefix-init : goal.loop-prefix-init
loop-prefix-init g c =
    loop-first (λ prefix.
    AtSome (λ second. From c.args.lexicon.now prefix c.args.first second c.args.entries.now)
    c.args.seconds.now) c.args.prefixes.now

pub returns-then-branch : goal.returns-then-branch
returns-then-branch g c =
    loop-end (λ prefix.
    AtSome (λ second. From c.args.lexicon.now prefix c.args.first second c.args.entries.now)
    c.args.seconds.now) c.args.prefixes.now c.loop-prefix.prefix-index
    (get_or c.args.prefixes.now c.loop-prefix.prefix-index None) None
    (omega arith) refl c.loop-prefix.invariant c.in_ok-visit_second_suffixes.ensures c.if-branch.true

pub loop-prefix-preserved : goal.loop-prefix-preserved
loop-prefix-preserved g c =
    loop-more (λ prefix.
    AtSome (λ second. From c.args.lexicon.now prefix c.args.first second c.args.entries.now)
    c.args.seconds.now) c.args.prefixes.now c.loop-prefix.prefix-index
    (get_or c.args.prefixes.now c.loop-prefix.prefix-index None) None
    (omega arith) refl c.loop-prefix.invariant c.in_ok-visit_second_suffixes.ensures c.if-branch.false

pub returns : goal.returns
returns g c =
    loop-last (λ prefix.
    AtSome (λ second. From c.args.lexicon.now prefix c.args.first second c.args.entries.now)
    c.args.seconds.now) c.args.prefixes.now c.loop-prefix.prefix-index (omega arith)
    c.loop-prefix.invariant
