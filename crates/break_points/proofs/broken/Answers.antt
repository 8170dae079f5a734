-- The prepared patterns break words as those which they were made of.
use Rattle.std.proofs.Common.{◌∙◌}
use Rattle.break_points.specs.Judging.{is_base_by, is_barred_by}
use Rattle.break_points.specs.Patterns.{BreakAlike}
use Rattle.break_points.proofs.Deciding.{ok_weaker}
use Rattle.break_points.proofs.broken.Goals as goal

pub returns : goal.returns
unfolding BreakAlike
returns g c = λ judged answers.
    ok_weaker c.broken.result _ _
    (λ answer is. is ∙ c.in_ok-breaks.ensures (is_base_by judged) (is_barred_by judged)
    c.args.word.now)
    (c.broken.ensures judged answers)
