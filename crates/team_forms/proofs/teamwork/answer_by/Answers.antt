-- The first eyes are those of the workers.
use Rattle.std.proofs.Common.{◌∙◌, ◌+◌, length, map}
use Rattle.std.specs.String.{string_bytes}
use Rattle.team_forms.proofs.Seats.{are-ready, behind-seats, few-first, first-eyes, later-eyes}
use Rattle.team_forms.proofs.Seats.{so-many}
use Rattle.team_forms.proofs.teamwork.answer_by.Goals as goal

pub split_off-requires : goal.split_off-requires
split_off-requires g c =
    few-first c.args.workers (length c.args.scripts.now)
    (c.args.eyes.ok.0
    ∙ so-many g.D.Naming.opening 0 (c.args.workers + length c.args.scripts.now) c.requires.eyes)

pub sessions_of-requires : goal.sessions_of-requires
sessions_of-requires g c =
    so-many g.D.Naming.opening c.args.workers (length c.args.scripts.now)
    (later-eyes g.D.Naming.opening c.args.workers (length c.args.scripts.now) c.requires.eyes
    c.in_ok-others.ensures.tail)

pub answer_beside-requires-after_bounds : goal.answer_beside-requires-after_bounds
answer_beside-requires-after_bounds g c κs within =
    are-ready c.args.pairs.now c.args.scripts.now c.in_ok-others.others.items
    c.in_ok-sessions.ensures c.requires.whole c.requires.held

pub returns : goal.returns
returns g c =
    behind-seats g.J.Judge.lexicon c.args.pairs.now c.args.scripts.now (λ r. r.eyes.items)
    (λ r. map string_bytes r.texts.items) (λ r. r.stopped) c.answer_beside.result
    c.in_ok-sessions.ensures
    (later-eyes g.D.Naming.opening c.args.workers (length c.args.scripts.now) c.requires.eyes
    c.in_ok-others.ensures.tail)
    (c.in_ok-crew.ensures
    ∙ first-eyes g.D.Naming.opening c.args.workers (length c.args.scripts.now) c.requires.eyes
    c.in_ok-others.ensures.items)
    c.answer_beside.ensures
