-- So far the scripts are those of the sessions up to a number.
use Rattle.team_forms.proofs.UpTo.{AreUpTo}
use Rattle.team_forms.proofs.scripts.scripts_of.Given as goal

abbrev pub invariant-loop-before : goal.invariant-loop-before
invariant-loop-before l = AreUpTo l.script l.before l.scripts.items
