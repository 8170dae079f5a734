-- What was open at the places so far is closed behind what the eye knew.
use Rattle.board_share.specs.Eyes.{IsLater}
use Rattle.board_share.specs.Eyes.{CountsChecks}
use Rattle.check_workers.proofs.OneByOne.{IsSettledTo}
use Rattle.check_workers.proofs.settling.settle_board.Given as goal

abbrev pub invariant-loop-place : goal.invariant-loop-place
invariant-loop-place g l = record {
  later : IsLater l.fn.eye l.eye;
  counts : CountsChecks l.fn.eye l.eye;
  settled : IsSettledTo l.place l.board l.fn.eye l.eye;
}
