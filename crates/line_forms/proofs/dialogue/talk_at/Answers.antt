-- The last eye is the console's, and the others are those of the workers.
use Rattle.std.proofs.Common.{◌∙◌, arith}
use Rattle.line_forms.proofs.Seats.{few-others, room-left, so-many, taken-off}
use Rattle.line_forms.proofs.dialogue.talk_at.Goals as goal

pub unreachable-requires : goal.unreachable-requires
unreachable-requires g c =
    let many = so-many _ (g.O.Dictionary.seen c.args.dictionary) c.requires.eyes in
    let none = c.in_default.ensures.cases in
    absurd (omega (arith, many, none.0))

pub crew_of-requires : goal.crew_of-requires
crew_of-requires g c =
    let dictionary = g.O.Dictionary.seen c.args.dictionary in
    let taken = taken-off c.args.workers dictionary c.requires.eyes c.in-Some.ensures.items in
    few-others c.args.workers dictionary c.requires.few taken.0

pub talk_in-requires-clause-room : goal.talk_in-requires-clause-room
talk_in-requires-clause-room g c κs within =
    let dictionary = g.O.Dictionary.seen c.args.dictionary in
    room-left c.args.workers dictionary
    (taken-off c.args.workers dictionary c.requires.eyes c.in-Some.ensures.items).1

pub returns-clause-behind : goal.returns-clause-behind
returns-clause-behind g c =
    let taken = taken-off c.args.workers (g.O.Dictionary.seen c.args.dictionary) c.requires.eyes
    c.in-Some.ensures.items in
    rw (taken.1, c.in_ok-crew.ensures ∙ taken.0) at c.talk_in.ensures.behind
