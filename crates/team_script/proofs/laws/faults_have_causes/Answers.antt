-- By the three questions that are asked of a file in turn.
use Rattle.team_script.proofs.CauseLemmas.{bad-cause, long-cause, many-cause}
use Rattle.team_script.proofs.laws.faults_have_causes.Goals as goal

pub returns-clause-bad : goal.returns-clause-bad
returns-clause-bad c = bad-cause

pub returns-clause-long : goal.returns-clause-long
returns-clause-long c = long-cause

pub returns-clause-many : goal.returns-clause-many
returns-clause-many c = many-cause
