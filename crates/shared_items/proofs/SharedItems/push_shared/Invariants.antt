-- So far the chunks before the loop's place stand behind the others.
use Rattle.std.proofs.Common.{◌≡◌, ◌++◌, take}
use Rattle.shared_items.specs.Chunks.{items_of}
use Rattle.shared_items.proofs.SharedItems.push_shared.Given as goal

abbrev pub invariant-loop-counted : goal.invariant-loop-counted
invariant-loop-counted g l = l.self ≡ l.initial.self ++ items_of (take l.counted-index l.chunks)
