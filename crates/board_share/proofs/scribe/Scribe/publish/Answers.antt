-- The eye knows more than before, and may publish what it might then.
use Rattle.edit_core.specs.Events.{event_of}
use Rattle.board_share.proofs.Knowing.{may-later}
use Rattle.board_share.proofs.scribe.Scribe.publish.Goals as goal

pub next-requires : goal.next-requires
next-requires g c =
    let event = event_of g.J.Judge.lexicon c.args.event in
    may-later c.args.eye.now c.meet.new.self event c.in_ok-meet.ensures.later c.requires
