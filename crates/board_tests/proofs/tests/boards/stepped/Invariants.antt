-- The asker has the judge's dictionary, before each step and behind it.
use Rattle.std.proofs.Common.{◌≡◌}
use Rattle.board_tests.proofs.tests.boards.stepped.Given as goal

abbrev pub invariant-loop : goal.invariant-loop
invariant-loop l = l.plain ≡ l.checking.judge
