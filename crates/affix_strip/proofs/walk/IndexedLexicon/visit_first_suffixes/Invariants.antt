-- So far what comes before the loop's place was shown.
use Rattle.std.proofs.Common.{false, take}
use Rattle.affix_strip.specs.Parts.{RuleFrom}
use Rattle.affix_strip.specs.Parts.{AtSome, Shows}
use Rattle.affix_strip.proofs.walk.IndexedLexicon.visit_first_suffixes.Given as goal

abbrev pub invariant-loop-first : goal.invariant-loop-first
invariant-loop-first g l =
    Shows (AtSome (RuleFrom l.self.lexicon l.prefixes l.seconds l.rest l.entries)
    (take l.first-index l.firsts)) (g.V.Visitor.sees l.initial.visitor)
    (g.V.Visitor.sees l.visitor) false
