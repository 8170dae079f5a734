-- Nothing is added before a report is found.
use Rattle.std.proofs.Common.{◌≡◌}
use Rattle.document_report.proofs.sharing.add_share.Given as goal

abbrev pub invariant-loop-taker : goal.invariant-loop-taker
invariant-loop-taker g l = l.all ≡ l.fn.all
