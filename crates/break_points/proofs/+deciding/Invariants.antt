-- The pieces get shorter; and so far none of the ways was accepted.
use Rattle.std.proofs.Common.{◌≡◌, ℕ, ◌+◌, ◌-◌, ◌*◌, List, false, take, slice_range}
use Rattle.std.specs.Fn.{FnReturnsAt}
use Rattle.std.specs.List.{list_any}
use Rattle.spell_types.specs.declared.breaks.Anchored.{Anchored}
use Rattle.break_points.specs.declared.Judged.{Judged}
use Rattle.break_points.specs.Judging.{AnswersAs}
use Rattle.break_points.specs.Occurrences.{AreOccurrences, way_by, way_passes}
use Rattle.break_points.specs.Pieces.{is_broken_piece, is_broken_as_judged, IsTableRight, all_left}
use Rattle.break_points.proofs.+deciding.Given as goal

abbrev pub decreases-decide : goal.decreases-decide
decreases-decide g l = 4 * (l.piece.to - l.piece.from) + 3

abbrev pub decreases-decide_anew : goal.decreases-decide_anew
decreases-decide_anew g l = 4 * (l.piece.to - l.piece.from) + 2

abbrev pub decreases-decide_parts : goal.decreases-decide_parts
decreases-decide_parts g l = 4 * (l.piece.to - l.piece.from) + 1

abbrev pub decreases-decide_way : goal.decreases-decide_way
decreases-decide_way g l = 4 * (l.piece.to - l.piece.from)

abbrev pub invariant-decide_parts-loop-occurrence : goal.invariant-decide_parts-loop-occurrence
invariant-decide_parts-loop-occurrence g l =
    (judged : List ℕ → Judged) (breaks : List Anchored)
    → AnswersAs (FnReturnsAt g.F.Fn l.judge) judged → AreOccurrences breaks l.word l.occurrences
    → IsTableRight (is_broken_piece judged breaks l.word) l.fn.table
    → (list_any
    (λ occurrence.
    way_passes (all_left (is_broken_as_judged judged breaks)
    (slice_range l.word l.piece.from l.piece.to)) (way_by occurrence l.piece))
    (take l.occurrence-index l.occurrences) ≡ false)
    × IsTableRight (is_broken_piece judged breaks l.word) l.table
