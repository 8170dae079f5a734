-- By the step of the finish.
use Rattle.std.proofs.Common.{◌≡◌, ◌∙◌, sym, ap, subst, List, ◌++◌, false}
use Rattle.board_share.specs.edit_core.Runs.{Entry, IsRun, last_board}
use Rattle.board_share.specs.edit_core.Seen.{Seen}
use Rattle.board_share.specs.Settled.{is_open_for}
use Rattle.check_workers.proofs.Closing.{closed-behind}
use Rattle.check_workers.proofs.laws.finishes_close.Goals as goal

pub returns-clause-published : goal.returns-clause-published
returns-clause-published c worker id rev dict text lexicon old new told is later published =
    let front = old.run.entries ++ published.between in
    let opening = new.run.opening in
    let run =
    subst (λ (entries : List Entry). IsRun (record { opening = opening; entries = entries }))
    published.entries is in
    let steps = c.fronts_are_runs.ensures.behind opening front _ run in
    let ends = ap (last_board opening) published.entries
    ∙ c.runs_go_on.ensures.one opening front _ in
    subst (λ (board : Seen). is_open_for id rev dict board ≡ false) (sym ends)
    (closed-behind (last_board opening front) published.board worker id rev dict text lexicon
    steps.0)

pub returns-clause-point : goal.returns-clause-point
returns-clause-point c run is = (c.fronts_are_runs.ensures.valid run is).point
