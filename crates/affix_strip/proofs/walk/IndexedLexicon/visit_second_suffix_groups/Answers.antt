-- The derivations with a second suffix of one group more are shown.
use Rattle.std.proofs.Common.{rules, Contains, arith}
use Rattle.spell_types.specs.declared.rules.Side.TheVariants.{Suffix}
use Rattle.affix_strip.specs.Parts.{Peels, with_first}
use Rattle.affix_strip.proofs.FoundLemmas.{no-seconds-at}
use Rattle.affix_strip.proofs.ShowLemmas.{shows-none, loop-first, loop-more, loop-end, loop-last}
use Rattle.affix_strip.proofs.walk.IndexedLexicon.visit_second_suffix_groups.Goals as goal

pub returns-then-not-self : goal.returns-then-not-self
returns-then-not-self g c =
    shows-none (no-seconds-at c.args.self.now c.args.prefixes.now c.args.endings.now c.requires
    (search rules))

pub loop-ending-init : goal.loop-ending-init
loop-ending-init g c =
    loop-first (Peels c.args.self.now.lexicon Suffix (λ d. d.second)
    (λ d. Contains c.args.prefixes.now d.prefix) (with_first c.args.self.now.lexicon))
    c.args.endings.now

pub returns-then-branch : goal.returns-then-branch
returns-then-branch g c =
    loop-end (Peels c.args.self.now.lexicon Suffix (λ d. d.second)
    (λ d. Contains c.args.prefixes.now d.prefix) (with_first c.args.self.now.lexicon))
    c.args.endings.now c.loop-ending.ending-index c.ending-item.result c.ending-item.result
    (omega arith) c.ending-item.is c.loop-ending.invariant c.in_ok-visit_second_suffix_group.ensures
    c.if-branch.true

pub loop-ending-preserved : goal.loop-ending-preserved
loop-ending-preserved g c =
    loop-more (Peels c.args.self.now.lexicon Suffix (λ d. d.second)
    (λ d. Contains c.args.prefixes.now d.prefix) (with_first c.args.self.now.lexicon))
    c.args.endings.now c.loop-ending.ending-index c.ending-item.result c.ending-item.result
    (omega arith) c.ending-item.is c.loop-ending.invariant c.in_ok-visit_second_suffix_group.ensures
    c.if-branch.false

pub returns : goal.returns
returns g c =
    loop-last (Peels c.args.self.now.lexicon Suffix (λ d. d.second)
    (λ d. Contains c.args.prefixes.now d.prefix) (with_first c.args.self.now.lexicon))
    c.args.endings.now c.loop-ending.ending-index (omega arith) c.loop-ending.invariant
