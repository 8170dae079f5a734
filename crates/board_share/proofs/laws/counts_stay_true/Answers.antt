-- The events of six kinds through a number are those through it, which are no more than all.
use Rattle.std.proofs.Common.{◌≡◌, ◌+◌, ◌==◌, arith}
use Rattle.std.proofs.lemmas.List.Sums.{count_by-le-length}
use Rattle.edit_core.specs.Runs.{Entry, entries_by, entries_through}
use Rattle.edit_core.specs.declared.event.EventKind.{EventKind}
use Rattle.edit_core.specs.declared.event.EventKind.TheVariants as kind
use Rattle.board_share.proofs.laws.counts_stay_true.Goals as goal

pub returns-clause-few : goal.returns-clause-few
returns-clause-few c by entries counts is =
    let n = λ (asked : EventKind). entries_by asked by entries in
    let through : entries_through by entries ≡ 0 + n kind.Edit + n kind.Load + n kind.Claim
    + n kind.Finish + n kind.Park + n kind.Ask = c.kinds_add_up.ensures.by by entries in
    let most = count_by-le-length (λ (entry : Entry). entry.by == by) entries in
    omega (arith, through, most, is.edits, is.loads, is.asks, is.checks)
