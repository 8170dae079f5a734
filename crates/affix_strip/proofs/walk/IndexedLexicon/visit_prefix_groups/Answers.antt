-- The derivations with a prefix of one group more are shown.
use Rattle.std.proofs.Common.{arith}
use Rattle.spell_types.specs.declared.rules.Side.TheVariants.{Prefix}
use Rattle.affix_strip.specs.Parts.{Any, Peels, with_suffixes}
use Rattle.affix_strip.proofs.ShowLemmas.{loop-first, loop-more, loop-end, loop-last}
use Rattle.affix_strip.proofs.walk.IndexedLexicon.visit_prefix_groups.Goals as goal

pub loop-front-init : goal.loop-front-init
loop-front-init g c =
    loop-first (Peels c.args.self.now.lexicon Prefix (λ d. d.prefix) Any
    (with_suffixes c.args.self.now.lexicon)) c.args.fronts.now

pub returns-then-branch : goal.returns-then-branch
returns-then-branch g c =
    loop-end (Peels c.args.self.now.lexicon Prefix (λ d. d.prefix) Any
    (with_suffixes c.args.self.now.lexicon)) c.args.fronts.now c.loop-front.front-index
    c.front-item.result c.front-item.result
    (omega arith) c.front-item.is c.loop-front.invariant c.in_ok-visit_prefix_group.ensures
    c.if-branch.true

pub loop-front-preserved : goal.loop-front-preserved
loop-front-preserved g c =
    loop-more (Peels c.args.self.now.lexicon Prefix (λ d. d.prefix) Any
    (with_suffixes c.args.self.now.lexicon)) c.args.fronts.now c.loop-front.front-index
    c.front-item.result c.front-item.result
    (omega arith) c.front-item.is c.loop-front.invariant c.in_ok-visit_prefix_group.ensures
    c.if-branch.false

pub returns : goal.returns
returns g c =
    loop-last (Peels c.args.self.now.lexicon Prefix (λ d. d.prefix) Any
    (with_suffixes c.args.self.now.lexicon)) c.args.fronts.now c.loop-front.front-index
    (omega arith) c.loop-front.invariant
