-- The paragraph stands at the place of its id.
use Rattle.board_share.proofs.Claiming.{free}
use Rattle.board_share.proofs.laws.waiting_is_free.Goals as goal

pub returns : goal.returns
returns c board worker place paragraph valid goes first at =
    free board worker place paragraph goes
    (c.ids_name_paragraphs.ensures.place board place paragraph valid at) first at
