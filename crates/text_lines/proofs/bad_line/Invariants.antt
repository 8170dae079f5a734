-- The bad line is ahead.
use Rattle.std.proofs.Common.{◌≡◌, ◌+◌, ◌-◌, ◌≤◌, length}
use Rattle.text_lines.specs.Lines.{bad_line, bad_ahead}
use Rattle.text_lines.proofs.bad_line.Given as goal

abbrev pub invariant-loop-next : goal.invariant-loop-next
invariant-loop-next l = record {
  bad : bad_ahead l.bytes l.ahead ≡ bad_line l.bytes;
  count : l.ahead.number ≤ l.ahead.place + 1;
  within : l.ahead.place ≤ length l.bytes + 1;
}

abbrev pub decreases-loop-next : goal.decreases-loop-next
decreases-loop-next l = length l.bytes + 1 - l.ahead.place
