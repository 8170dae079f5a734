-- By the words that are left.
use Rattle.std.proofs.Common.{◌∙◌, ap, arith}
use Rattle.word_cutter.specs.Runs.{has_some}
use Rattle.check_workers.proofs.Left.{fewer-left}
use Rattle.check_workers.proofs.settling.check_all.Goals as goal

pub loop-checking-smaller : goal.loop-checking-smaller
loop-checking-smaller g c =
    fewer-left 4294967295 c.loop-checking.checking.left c.in-Err.going.left (omega arith)
    (ap (λ going. going.left) c.in-Err.ensures.same
    ∙ ap (λ checking. checking.left) c.in_ok-step.ensures.left)
    (ap (λ going. has_some going.left) c.in-Err.ensures.same ∙ c.in-Err.ensures.some)
