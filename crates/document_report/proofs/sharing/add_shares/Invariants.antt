-- The shares before this place are added up.
use Rattle.std.specs.Arc.{arc_value}
use Rattle.document_report.specs.Parts.{IsOfFront}
use Rattle.document_report.proofs.sharing.add_shares.Given as goal

abbrev pub invariant-loop-place : goal.invariant-loop-place
invariant-loop-place g l =
    IsOfFront l.output (g.J.Judge.lexicon (arc_value l.judge)) l.shares l.place l.all
