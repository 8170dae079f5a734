-- So far the licensed derivations from the entries before the loop's place were shown.
use Rattle.std.proofs.Common.{◌≡◌, true, false, take}
use Rattle.spell_types.specs.Derivations.{derivation_of}
use Rattle.spell_types.specs.Licences.{is_licensed}
use Rattle.affix_strip.specs.Parts.{AtSome, Shows}
use Rattle.affix_strip.proofs.walk.visit_entries.Given as goal

abbrev pub invariant-loop-entry : goal.invariant-loop-entry
invariant-loop-entry g l =
    Shows (AtSome
    (λ entry d. (d ≡ derivation_of entry l.prefix l.first l.second)
    × (is_licensed l.lexicon d ≡ true)) (take l.entry-index l.entries))
    (g.V.Visitor.sees l.initial.visitor) (g.V.Visitor.sees l.visitor) false
