-- By the refusal, which the last board that the eye knows shows.
use Rattle.board_share.specs.Eyes.{last_of}
use Rattle.check_workers.proofs.Closing.{closed-passed, short-told}
use Rattle.check_workers.proofs.finishing.finish_if_wanted.Goals as goal

pub returns-in-Err-clause-closed : goal.returns-in-Err-clause-closed
returns-in-Err-clause-closed g c =
    let claim = c.args.claim.now in
    closed-passed c.args.worker claim.id claim.rev claim.dict c.args.checked.text
    (g.J.Judge.lexicon c.args.checked.judge) (last_of c.finish_through-finished.new.eye.run)
    c.in-Err.refusal c.pass_over.result c.pass_over.ensures.passed c.in-Err.ensures.refused

pub returns-in-Err-clause-short : goal.returns-in-Err-clause-short
returns-in-Err-clause-short g c =
    let claim = c.args.claim.now in
    let run = c.finish_through-finished.new.eye.run in
    short-told c.args.worker claim.id claim.rev claim.dict c.args.checked.text
    (g.J.Judge.lexicon c.args.checked.judge) (last_of run) c.in-Err.refusal c.pass_over.result
    c.pass_over.ensures.short (c.finishes_close.ensures.point run c.known-point.ensures.run)
    c.in-Err.ensures.refused
