-- So far what comes before the loop's place was shown.
use Rattle.std.proofs.Common.{false, take}
use Rattle.spell_types.specs.declared.rules.Side.TheVariants.{Suffix}
use Rattle.affix_strip.specs.Parts.{Outside, Peels, stem_of}
use Rattle.affix_strip.specs.Parts.{AtSome, Shows}
use Rattle.affix_strip.proofs.walk.IndexedLexicon.visit_first_suffix_groups.Given as goal

abbrev pub invariant-loop-ending : goal.invariant-loop-ending
invariant-loop-ending g l =
    Shows (AtSome
    (Peels l.self.lexicon Suffix (λ d. d.first) (Outside l.prefixes l.seconds)
    (stem_of l.self.lexicon)) (take l.ending-index l.endings))
    (g.V.Visitor.sees l.initial.visitor) (g.V.Visitor.sees l.visitor) false
