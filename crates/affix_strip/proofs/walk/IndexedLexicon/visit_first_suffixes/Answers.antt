-- The derivations with one first suffix more are shown.
use Rattle.std.proofs.Common.{refl, get_or, arith}
use Rattle.affix_strip.specs.Parts.{RuleFrom}
use Rattle.affix_strip.proofs.ShowLemmas.{loop-first, loop-more, loop-end, loop-last}
use Rattle.affix_strip.proofs.walk.IndexedLexicon.visit_first_suffixes.Goals as goal

pub loop-first-init : goal.loop-first-init
loop-first-init g c =
    loop-first (RuleFrom c.args.self.now.lexicon c.args.prefixes.now c.args.seconds.now
    c.args.rest.now c.args.entries.now) c.args.firsts.now

pub returns-then-branch : goal.returns-then-branch
returns-then-branch g c =
    loop-end (RuleFrom c.args.self.now.lexicon c.args.prefixes.now c.args.seconds.now
    c.args.rest.now c.args.entries.now) c.args.firsts.now c.loop-first.first-index
    (get_or c.args.firsts.now c.loop-first.first-index 0) 0
    (omega arith) refl c.loop-first.invariant c.in_ok-visit_first_suffix.ensures c.if-branch.true

pub loop-first-preserved : goal.loop-first-preserved
loop-first-preserved g c =
    loop-more (RuleFrom c.args.self.now.lexicon c.args.prefixes.now c.args.seconds.now
    c.args.rest.now c.args.entries.now) c.args.firsts.now c.loop-first.first-index
    (get_or c.args.firsts.now c.loop-first.first-index 0) 0
    (omega arith) refl c.loop-first.invariant c.in_ok-visit_first_suffix.ensures c.if-branch.false

pub returns : goal.returns
returns g c =
    loop-last (RuleFrom c.args.self.now.lexicon c.args.prefixes.now c.args.seconds.now
    c.args.rest.now c.args.entries.now) c.args.firsts.now c.loop-first.first-index (omega arith)
    c.loop-first.invariant
