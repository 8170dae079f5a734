-- So far the lines behind the first are answered.
use Rattle.std.proofs.Common.{drop, map}
use Rattle.std.specs.String.{string_bytes}
use Rattle.team_history.specs.Eyes.{AsksAtMost}
use Rattle.team_forms.proofs.Lines.{AreMidway}
use Rattle.team_forms.proofs.answering.answer_all.Given as goal

abbrev pub invariant-loop-line : goal.invariant-loop-line
invariant-loop-line g l =
    AsksAtMost l.line-index l.fn.console.eye l.console.eye
    × AreMidway g.J.Judge.lexicon l.pairs l.session (map (λ line. line.now) l.lines)
    (map (λ line. line.now) (drop l.line-index l.lines)) l.fn.console.eye l.console.eye
    (string_bytes l.fn.replies) (string_bytes l.replies)
