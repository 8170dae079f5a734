-- So far the copies are those of the items before the loop's place.
use Rattle.std.proofs.Common.{◌≡◌, take}
use Rattle.shared_items.proofs.copies_of.Given as goal

abbrev pub invariant-loop-item : goal.invariant-loop-item
invariant-loop-item g l = l.copies.items ≡ take l.item-index l.items
