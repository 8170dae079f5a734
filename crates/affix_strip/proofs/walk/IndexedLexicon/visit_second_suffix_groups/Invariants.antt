-- So far what comes before the loop's place was shown.
use Rattle.std.proofs.Common.{false, take, Contains}
use Rattle.spell_types.specs.declared.rules.Side.TheVariants.{Suffix}
use Rattle.affix_strip.specs.Parts.{Peels, with_first}
use Rattle.affix_strip.specs.Parts.{AtSome, Shows}
use Rattle.affix_strip.proofs.walk.IndexedLexicon.visit_second_suffix_groups.Given as goal

abbrev pub invariant-loop-ending : goal.invariant-loop-ending
invariant-loop-ending g l =
    Shows (AtSome
    (Peels l.self.lexicon Suffix (λ d. d.second) (λ d. Contains l.prefixes d.prefix)
    (with_first l.self.lexicon)) (take l.ending-index l.endings))
    (g.V.Visitor.sees l.initial.visitor) (g.V.Visitor.sees l.visitor) false
