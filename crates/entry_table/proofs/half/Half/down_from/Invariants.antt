-- No place of the word was passed over, and each place lies below the one before.
use Rattle.std.proofs.Common.{◌++◌}
use Rattle.entry_table.proofs.EntryLemmas.{end_of, IsOnWay}
use Rattle.entry_table.proofs.half.Half.down_from.Given as goal

abbrev pub invariant-loop-next : goal.invariant-loop-next
invariant-loop-next l = IsOnWay l.entries (l.front ++ l.back) l.fn.start l.next

abbrev pub decreases-loop-next : goal.decreases-loop-next
decreases-loop-next l = end_of l.next
