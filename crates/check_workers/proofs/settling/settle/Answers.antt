-- From the look to the last board.
use Rattle.std.proofs.Common.{◌∙◌}
use Rattle.check_workers.proofs.OneByOne.{settled-since}
use Rattle.check_workers.proofs.settling.settle.Goals as goal

pub returns-clause-settled : goal.returns-clause-settled
returns-clause-settled g c =
    settled-since c.args.eye.now c.look.new.self c.settle_board.new.eye c.progress-now.new.self
    c.deref.result.now c.look.ensures.later
    (c.deref.ensures ∙ c.in_ok-board.ensures.board)
    c.in_ok-settle_board.ensures.settled c.progress-now.ensures.later
