-- The places behind the next one are there, and each place lies below the one before.
use Rattle.std.proofs.Common.{◌++◌}
use Rattle.entry_table.proofs.EntryLemmas.{end_of}
use Rattle.entry_table.proofs.PlaceLemmas.{PlacesBehind}
use Rattle.entry_table.proofs.half.Half.places_of.Given as goal

abbrev pub invariant-loop-next : goal.invariant-loop-next
invariant-loop-next l = PlacesBehind l.entries (l.front ++ l.back) l.next l.places.items

abbrev pub decreases-loop-next : goal.decreases-loop-next
decreases-loop-next l = end_of l.next
