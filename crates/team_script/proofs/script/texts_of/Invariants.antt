-- The texts found so far, and those of the lines ahead, are all texts of the session.
use Rattle.std.proofs.Common.{drop}
use Rattle.team_script.proofs.LineLemmas.{AreOf}
use Rattle.team_script.proofs.script.texts_of.Given as goal

abbrev pub invariant-loop-line : goal.invariant-loop-line
invariant-loop-line l = AreOf l.session l.lines (drop l.line-index l.lines) l.texts.items
