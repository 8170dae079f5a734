-- So far what comes before the loop's place was shown.
use Rattle.std.proofs.Common.{false, take}
use Rattle.affix_strip.specs.Parts.{From}
use Rattle.affix_strip.specs.Parts.{AtSome, Shows}
use Rattle.affix_strip.proofs.walk.visit_prefixes.Given as goal

abbrev pub invariant-loop-prefix : goal.invariant-loop-prefix
invariant-loop-prefix g l =
    Shows (AtSome
    (λ prefix. AtSome (λ second. From l.lexicon prefix l.first second l.entries) l.seconds)
    (take l.prefix-index l.prefixes)) (g.V.Visitor.sees l.initial.visitor)
    (g.V.Visitor.sees l.visitor) false
