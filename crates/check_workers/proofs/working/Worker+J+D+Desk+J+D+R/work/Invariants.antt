-- It is the same worker, which has claimed and finished, and nothing else.
use Rattle.std.proofs.Common.{◌≡◌}
use Rattle.board_share.specs.Eyes.{IsLater}
use Rattle.board_share.specs.Eyes.{CountsChecks}
use Rattle.check_workers.proofs.working.Worker+J+D+Desk+J+D+R.work.Given as goal

abbrev pub invariant-loop : goal.invariant-loop
invariant-loop g l = record {
  next : (goal.iterator-loop g).can_next l.iterator';
  finite : (goal.iterator-loop g).is_finite l.iterator';
  number : l.self.number ≡ l.fn.self.number;
  later : IsLater l.fn.self.eye l.self.eye;
  counts : CountsChecks l.fn.self.eye l.self.eye;
}
