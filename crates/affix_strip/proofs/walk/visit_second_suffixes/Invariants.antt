-- So far what comes before the loop's place was shown.
use Rattle.std.proofs.Common.{false, take}
use Rattle.affix_strip.specs.Parts.{From}
use Rattle.affix_strip.specs.Parts.{AtSome, Shows}
use Rattle.affix_strip.proofs.walk.visit_second_suffixes.Given as goal

abbrev pub invariant-loop-second : goal.invariant-loop-second
invariant-loop-second g l =
    Shows (AtSome (λ second. From l.lexicon l.prefix l.first second l.entries)
    (take l.second-index l.seconds)) (g.V.Visitor.sees l.initial.visitor)
    (g.V.Visitor.sees l.visitor) false
