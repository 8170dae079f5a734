-- So far what comes before the loop's place was shown.
use Rattle.std.proofs.Common.{false, take}
use Rattle.spell_types.specs.declared.rules.Side.TheVariants.{Prefix}
use Rattle.affix_strip.specs.Parts.{Any, Peels, with_suffixes}
use Rattle.affix_strip.specs.Parts.{AtSome, Shows}
use Rattle.affix_strip.proofs.walk.IndexedLexicon.visit_prefix_groups.Given as goal

abbrev pub invariant-loop-front : goal.invariant-loop-front
invariant-loop-front g l =
    Shows (AtSome (Peels l.self.lexicon Prefix (λ d. d.prefix) Any (with_suffixes l.self.lexicon))
    (take l.front-index l.fronts)) (g.V.Visitor.sees l.initial.visitor)
    (g.V.Visitor.sees l.visitor) false
