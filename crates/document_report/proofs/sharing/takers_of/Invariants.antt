-- Each taker so far is for this part, by this judge.
use Rattle.std.proofs.Common.{◌≡◌}
use Rattle.std.specs.List.{All}
use Rattle.document_report.proofs.sharing.takers_of.Given as goal

abbrev pub invariant-loop-thread : goal.invariant-loop-thread
invariant-loop-thread g l =
    All
    (λ taker. (taker.output ≡ l.output) × (taker.judge.now ≡ l.judge)
    × (taker.shares.now ≡ l.shares)) l.takers.items
