-- The shares of all eyes together are the whole ledger, which has counted all entries.
use Rattle.std.proofs.Common.{◌≡◌, ◌∙◌, sym, subst}
use Rattle.std.specs.List.{AllByRecursion}
use Rattle.edit_core.specs.Runs.{IsRun, Run}
use Rattle.board_share.specs.Endings.{IsSeenIn, IsTheirs}
use Rattle.board_share.proofs.Endings.{numbers-long}
use Rattle.board_share.proofs.scribe.Scribe.close.Goals as goal

pub returns : goal.returns
returns g c =
    let eyes = c.args.eyes.items in
    let parts = g.D.Ledger.parts in
    let history : Run = record { opening = g.D.Naming.opening; entries = c.self.inside.front } in
    let whole : c.close.result ≡ history = c.close.ensures.whole in
    let long = numbers-long parts eyes c.requires in
    let all = c.audit.ensures.whole (c.merged-all.ensures.parts ∙ long) in
    let total = sym c.merged-all.ensures.amount ∙ all ∙ c.self.invariant.total_is in
    let run = subst IsRun whole c.close.ensures.run in
    let seen =
    subst (AllByRecursion (IsSeenIn history)) c.deref.ensures.value c.wait_unless_seen.ensures in
    subst (IsTheirs eyes) (sym whole)
    (c.all_events_are_theirs.ensures parts eyes history run c.requires seen total)
