-- By what is shown of the paragraph.
use Rattle.std.proofs.Common.{◌∙◌, sym, ap}
use Rattle.board_share.specs.edit_core.declared.view.Versions.{Versions}
use Rattle.check_workers.proofs.Shown.{why-gone, why-shown}
use Rattle.check_workers.proofs.polls.place_wanted.Goals as goal

pub returns-in_default-clause-stopped : goal.returns-in_default-clause-stopped
returns-in_default-clause-stopped g c =
    why-gone c.args.board.now c.args.claim.now c.in_default.ensures.none

pub returns-in-None-clause-wanted : goal.returns-in-None-clause-wanted
returns-in-None-clause-wanted g c =
    why-shown c.args.board.now c.args.claim.now c.in-Some.place c.in-Some.view _
    c.in-Some.ensures.at c.in-Some.ensures.some
    (ap (λ (v : Versions). v.dict) c.versions-dict.ensures.versions) c.is_parked.ensures
    (sym c.in-None.is ∙ c.why_for.ensures)

pub returns-in-Some-why_for-clause-stopped : goal.returns-in-Some-why_for-clause-stopped
returns-in-Some-why_for-clause-stopped g c =
    why-shown c.args.board.now c.args.claim.now c.in-Some.place c.in-Some.view _
    c.in-Some.ensures.at c.in-Some.ensures.some
    (ap (λ (v : Versions). v.dict) c.versions-dict.ensures.versions) c.is_parked.ensures
    (sym c.in-Some-why_for.is ∙ c.why_for.ensures)
