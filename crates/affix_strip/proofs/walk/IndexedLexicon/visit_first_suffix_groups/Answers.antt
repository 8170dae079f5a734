-- The derivations with a first suffix of one group more are shown.
use Rattle.std.proofs.Common.{arith}
use Rattle.spell_types.specs.declared.rules.Side.TheVariants.{Suffix}
use Rattle.affix_strip.specs.Parts.{Outside, Peels, stem_of}
use Rattle.affix_strip.proofs.ShowLemmas.{loop-first, loop-more, loop-end, loop-last}
use Rattle.affix_strip.proofs.walk.IndexedLexicon.visit_first_suffix_groups.Goals as goal

pub loop-ending-init : goal.loop-ending-init
loop-ending-init g c =
    loop-first (Peels c.args.self.now.lexicon Suffix (λ d. d.first)
    (Outside c.args.prefixes.now c.args.seconds.now) (stem_of c.args.self.now.lexicon))
    c.args.endings.now

pub returns-then-branch : goal.returns-then-branch
returns-then-branch g c =
    loop-end (Peels c.args.self.now.lexicon Suffix (λ d. d.first)
    (Outside c.args.prefixes.now c.args.seconds.now) (stem_of c.args.self.now.lexicon))
    c.args.endings.now c.loop-ending.ending-index c.ending-item.result c.ending-item.result
    (omega arith) c.ending-item.is c.loop-ending.invariant c.in_ok-visit_first_suffix_group.ensures
    c.if-branch.true

pub loop-ending-preserved : goal.loop-ending-preserved
loop-ending-preserved g c =
    loop-more (Peels c.args.self.now.lexicon Suffix (λ d. d.first)
    (Outside c.args.prefixes.now c.args.seconds.now) (stem_of c.args.self.now.lexicon))
    c.args.endings.now c.loop-ending.ending-index c.ending-item.result c.ending-item.result
    (omega arith) c.ending-item.is c.loop-ending.invariant c.in_ok-visit_first_suffix_group.ensures
    c.if-branch.false

pub returns : goal.returns
returns g c =
    loop-last (Peels c.args.self.now.lexicon Suffix (λ d. d.first)
    (Outside c.args.prefixes.now c.args.seconds.now) (stem_of c.args.self.now.lexicon))
    c.args.endings.now c.loop-ending.ending-index (omega arith) c.loop-ending.invariant
