-- It is a check of the same text by the same judge, and fewer words are left each time.
use Rattle.std.proofs.Common.{◌≡◌, length}
use Rattle.board_share.specs.Eyes.{CountsNothing, IsLater}
use Rattle.check_workers.proofs.checks.check_rest.Given as goal

abbrev pub invariant-loop-checking : goal.invariant-loop-checking
invariant-loop-checking g l = record {
  later : IsLater l.fn.eye l.eye;
  counts : CountsNothing l.fn.eye l.eye;
  judge : l.checking.judge ≡ l.fn.checking.judge;
  text : l.checking.text ≡ l.fn.checking.text;
  asks : g.A.Asker.lexicon l.asker ≡ g.A.Asker.lexicon l.fn.asker;
}

abbrev pub decreases-loop-checking : goal.decreases-loop-checking
decreases-loop-checking g l = length l.checking.left
