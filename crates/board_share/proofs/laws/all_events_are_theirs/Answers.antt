-- By the kinds of events, which add up.
use Rattle.board_share.proofs.Endings.{theirs}
use Rattle.board_share.proofs.laws.all_events_are_theirs.Goals as goal

pub returns : goal.returns
returns c =
    let kinds = c.kinds_add_up.ensures in
    theirs (record { through = kinds.by; asked = kinds.asked_by })
