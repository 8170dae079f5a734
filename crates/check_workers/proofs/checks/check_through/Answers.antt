-- The text is one of the history that the eye knows.
use Rattle.std.specs.Arc.{arc_value}
use Rattle.check_workers.proofs.Kept.{kept-asked, kept-later}
use Rattle.check_workers.proofs.Later.{later-trans}
use Rattle.check_workers.proofs.checks.check_through.Goals as goal

pub start-requires : goal.start-requires
start-requires g c =
    let claim = c.args.claim.now in
    rw c.in_ok-text.ensures
    (c.known_texts_are_short.ensures c.args.eye.now.run claim.id claim.rev claim.dict
    (arc_value claim.text) (g.J.Judge.lexicon (arc_value claim.judge)) c.known-point.ensures.run
    c.requires.claim)

pub returns-in_err-place-clause-kept : goal.returns-in_err-place-clause-kept
returns-in_err-place-clause-kept g c =
    kept-later g.J.Judge.lexicon c.args.eye.now c.pass_gate.new.eye c.args.kept.now
    c.pass_gate.ensures.later c.requires.kept

pub returns-in_err-checking-clause-kept : goal.returns-in_err-checking-clause-kept
returns-in_err-checking-clause-kept g c =
    kept-later g.J.Judge.lexicon c.args.eye.now c.pass_gate.new.eye c.args.kept.now
    c.pass_gate.ensures.later c.requires.kept

pub returns-in-Some-clause-kept : goal.returns-in-Some-clause-kept
returns-in-Some-clause-kept g c =
    let old = c.args.eye.now in
    let middle = c.pass_gate.new.eye in
    let new = c.check_rest.new.eye in
    kept-asked g.J.Judge.lexicon old new c.renew.new.kept c.in-Some.kept
    (g.J.Judge.lexicon c.check_rest.new.asker) c.in-Some.is
    (c.renew.ensures old.run c.known-point.ensures.run c.requires.claim c.requires.kept).known
    (later-trans old middle new c.pass_gate.ensures.later c.check_rest.ensures.later)
    c.check_rest.ensures.same
