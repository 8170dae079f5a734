-- What is merged so far, with what the eyes that are left have.
use Rattle.std.proofs.Common.{◌≡◌, ◌+◌, length}
use Rattle.std.specs.List.{sum_by}
use Rattle.board_share.specs.Eyes.{EyeSeen, entries_in}
use Rattle.board_share.proofs.scribe.merged.Given as goal

abbrev pub invariant-loop-eye : goal.invariant-loop-eye
invariant-loop-eye g l =
    (l.all.parts + length l.eye-iterator.rest.items ≡ length l.fn.eyes.items)
    × (l.all.amount + sum_by (λ (eye : EyeSeen). entries_in eye.counts) l.eye-iterator.rest.items
    ≡ sum_by (λ (eye : EyeSeen). entries_in eye.counts) l.fn.eyes.items)
