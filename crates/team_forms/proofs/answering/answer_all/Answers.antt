-- Each line is answered, or ends the session.
use Rattle.std.proofs.Common.{arith, ◌+◌, ap, map, drop, subst, ℕ, List, [], get_or, Bor}
use Rattle.std.specs.String.{string_bytes}
use Rattle.std.proofs.lemmas.List.{drop_all}
use Rattle.team_forms.specs.Sessions.{AnswersSessionLine}
use Rattle.team_forms.proofs.Lines.{AreMidway, all-answered, goes-on, next-line, quit-answered}
use Rattle.team_forms.proofs.Stops.{asks-more}
use Rattle.team_forms.proofs.answering.answer_all.Goals as goal

pub loop-line-preserved : goal.loop-line-preserved
loop-line-preserved g c =
    let answered = c.in_ok-answer.ensures in
    let d : Bor (List ℕ) = record { ref_ptr = (0, 0); now = [] } in (
      asks-more c.loop-line.line-index (c.loop-line.line-index + 1) c.args.console.now.eye
          c.loop-line.console.eye c.answer.new.console.eye c.loop-line.invariant.0 answered.asks
          (omega arith),
      goes-on g.J.Judge.lexicon c.args.pairs.now c.args.session
          (map (λ line. line.now) c.args.lines.now) c.args.console.now.eye
          (string_bytes c.args.replies.now) c.heard_sessions_go_on.ensures.one_more
          c.loop-line.console.eye c.answer.new.console.eye (string_bytes c.loop-line.replies)
          (string_bytes c.answer.new.replies)
          (get_or c.args.lines.now c.loop-line.line-index d).now
          (map (λ line. line.now) (drop (c.loop-line.line-index + 1) c.args.lines.now))
          (subst (λ rest. AreMidway g.J.Judge.lexicon c.args.pairs.now c.args.session
          (map (λ line. line.now) c.args.lines.now) rest c.args.console.now.eye
          c.loop-line.console.eye (string_bytes c.args.replies.now)
          (string_bytes c.loop-line.replies))
          (next-line (λ line. line.now) c.args.lines.now c.loop-line.line-index d
          c.loop-line-test.true) c.loop-line.invariant.1)
          (subst (AnswersSessionLine g.J.Judge.lexicon c.args.pairs.now c.args.session _
          c.loop-line.console.eye c.answer.new.console.eye (string_bytes c.loop-line.replies)
          (string_bytes c.answer.new.replies)) c.in-On.is answered.answered),
    )

pub returns-after-loop-line-clause-answered : goal.returns-after-loop-line-clause-answered
returns-after-loop-line-clause-answered g c =
    all-answered g.J.Judge.lexicon c.args.pairs.now c.args.session
    (map (λ line. line.now) c.args.lines.now) c.args.console.now.eye
    (string_bytes c.args.replies.now) c.loop-line.console.eye (string_bytes c.loop-line.replies)
    (map (λ line. line.now) (drop c.loop-line.line-index c.args.lines.now))
    (ap (map (λ line. line.now))
    (drop_all c.loop-line.line-index c.args.lines.now c.loop-line-test.false))
    c.loop-line.invariant.1

pub returns-in-Quit-clause-answered : goal.returns-in-Quit-clause-answered
returns-in-Quit-clause-answered g c =
    let answered = c.in_ok-answer.ensures in
    let d : Bor (List ℕ) = record { ref_ptr = (0, 0); now = [] } in
    quit-answered g.J.Judge.lexicon c.args.pairs.now c.args.session
    (map (λ line. line.now) c.args.lines.now) c.args.console.now.eye
    (string_bytes c.args.replies.now)
    c.loop-line.console.eye c.answer.new.console.eye (string_bytes c.loop-line.replies)
    (string_bytes c.answer.new.replies)
    (get_or c.args.lines.now c.loop-line.line-index d).now
    (map (λ line. line.now) (drop (c.loop-line.line-index + 1) c.args.lines.now))
    (subst (λ rest. AreMidway g.J.Judge.lexicon c.args.pairs.now c.args.session
    (map (λ line. line.now) c.args.lines.now) rest c.args.console.now.eye
    c.loop-line.console.eye (string_bytes c.args.replies.now)
    (string_bytes c.loop-line.replies))
    (next-line (λ line. line.now) c.args.lines.now c.loop-line.line-index d
    c.loop-line-test.true) c.loop-line.invariant.1)
    (subst (AnswersSessionLine g.J.Judge.lexicon c.args.pairs.now c.args.session _
    c.loop-line.console.eye c.answer.new.console.eye (string_bytes c.loop-line.replies)
    (string_bytes c.answer.new.replies)) c.in-Quit.is answered.answered)
