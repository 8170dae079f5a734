-- What is told so far is all but what the lines ahead say.
use Rattle.std.proofs.Common.{drop}
use Rattle.team_script.proofs.LineLemmas.{AreRead}
use Rattle.team_script.proofs.reading.good_lines.Given as goal

abbrev pub invariant-loop-line : goal.invariant-loop-line
invariant-loop-line l = AreRead l.bytes l.lines (drop l.line-index l.lines) l.told
