-- Where a text is cut off, a front of all is put.
use Rattle.std.proofs.Common.{◌++◌, arith, ap, subst}
use Rattle.std.proofs.lemmas.List.{take_all}
use Rattle.std.proofs.lemmas.Result.{on_err_weaker}
use Rattle.outside.specs.Laws.{appends-front}
use Rattle.outside.specs.Sink.{Appends, AppendsFront}
use Rattle.file_loading.specs.DueLaws.{failed-so}
use Rattle.team_forms.proofs.PutLemmas.{joined, text-cut}
use Rattle.team_forms.proofs.team.put_texts.Goals as goal

pub returns-in_err-put-clause-failed : goal.returns-in_err-put-clause-failed
returns-in_err-put-clause-failed g c =
    let before = g.K.Sink.written c.args.out.now in
    let middle = g.K.Sink.written c.loop-text.out in
    let now = g.K.Sink.written c.put.new.self in
    let text = c.text-item.result in
    failed-so (λ _. AppendsFront before now (joined c.args.texts.now ++ c.args.last.now))
    c.from_residual.result c.from_residual.ensures.1
    (text-cut before middle now c.args.texts.now c.loop-text.text-index text c.args.last.now
    c.loop-text-test.true c.text-item.is c.loop-text.invariant.put
    (subst (AppendsFront middle now) c.as_bytes.ensures.value c.in_err-put.ensures.failed))

pub returns-clause-failed : goal.returns-clause-failed
returns-clause-failed g c =
    let before = g.K.Sink.written c.args.out.now in
    let middle = g.K.Sink.written c.loop-text.out in
    let now = g.K.Sink.written c.put-2.new.self in
    let all = take_all c.loop-text.text-index c.args.texts.now (omega arith) in
    on_err_weaker c.put-2.result
    (appends-front before middle now (joined c.args.texts.now) c.args.last.now
    (subst (Appends before middle) (ap joined all) c.loop-text.invariant.put))
    c.put-2.ensures.failed
