-- The last line is answered, if there is one.
use Rattle.std.proofs.Common.{append-nil}
use Rattle.input_lines.proofs.TurnLemmas.{ends-on, ends-silent, ends-stops}
use Rattle.input_lines.proofs.listener.Listener.end_input.Goals as goal

pub end_line-requires-clause-whole : goal.end_line-requires-clause-whole
end_line-requires-clause-whole g c = rw append-nil c.requires.no_more

pub returns-then-is_empty : goal.returns-then-is_empty
returns-then-is_empty g c =
    record { ends = λ first before now heard few under. ends-silent under few (cc) }

pub returns-in-Ok : goal.returns-in-Ok
returns-in-Ok g c =
    let is = rw append-nil at c.in-Ok.ensures.turns in
    record { ends = λ first before now heard few under. ends-on under few (cc) is }

pub returns-in-Err : goal.returns-in-Err
returns-in-Err g c =
    let is = rw append-nil at c.in-Err.ensures.turns in
    record { ends = λ first before now heard few under. ends-stops under few (cc) is }
