-- A turn goes on from what the input gives.
use Rattle.std.proofs.Common.{◌≡◌, ◌++◌, arith, rules, subst, length, take, length-append}
use Rattle.std.proofs.Common.{length-take}
use Rattle.std.proofs.lemmas.Result.{err_from_is_err_and}
use Rattle.outside.specs.Source.{IsEndOf}
use Rattle.outside.specs.Laws.{takes-all, takes-front, takes-more}
use Rattle.input_lines.proofs.TurnLemmas.{over-interrupted, over-stops}
use Rattle.input_lines.proofs.listener.Listener.take_turn.Goals as goal

pub returns-in-Ok-eq0-clause-comes : goal.returns-in-Ok-eq0-clause-comes
returns-in-Ok-eq0-clause-comes g c = λ first before begun taken few is.
    let left = g.S.Source.left c.args.input.now in
    over-stops _
    (c.end.ensures.ends first before is.heard (omega (arith, few, is.counted)) is.under)
    c.end.ensures.empty
    (takes-all begun.bytes left is.heard is.takes
    (subst (IsEndOf left) (search rules) c.in-Ok-eq0.ensures.end))

pub returns-in_err-hear-in-Ok-clause-comes : goal.returns-in_err-hear-in-Ok-clause-comes
returns-in_err-hear-in-Ok-clause-comes g c = λ first before begun taken few is.
    let more = take c.in-Ok.count c.read.new.into in
    let all = takes-more begun.bytes _ (g.S.Source.left c.read.new.self) is.heard more is.takes
    c.in-Ok.ensures.taken in
    let given = takes-front begun.bytes _ (is.heard ++ more) all in
    let heard = c.in_err-hear-in-Ok.ensures in
    let p = err_from_is_err_and c.from_residual.result c.from_residual.ensures.1 in
    rw (p.1, p.2) (over-stops _ (heard.hears.on first before is.heard
    (omega (arith, few, is.counted, length-take c.in-Ok.count c.read.new.into, c.read.auto.into))
    is.under given.0) heard.empty given.1)

pub returns-in_ok-hear-in-Ok-clause-comes : goal.returns-in_ok-hear-in-Ok-clause-comes
returns-in_ok-hear-in-Ok-clause-comes g c = λ first before begun taken few is.
    let more = take c.in-Ok.count c.read.new.into in
    let long : length more ≡ c.in-Ok.count =
    omega (arith, length-take c.in-Ok.count c.read.new.into, c.in-Ok.ensures.bounded) in
    let heard = c.in_ok-hear-in-Ok.ensures in
    record {
      heard = is.heard ++ more;
      counted = omega (arith, is.counted, long, length-append is.heard more);
      takes = takes-more begun.bytes _ (g.S.Source.left c.read.new.self) is.heard more is.takes
          c.in-Ok.ensures.taken;
      since = omega (arith, is.since, c.in-Ok.ensures.count);
      put = heard.empty;
      under = heard.hears.on first before is.heard
          (omega (
            arith,
            few,
            is.counted,
            length-take c.in-Ok.count c.read.new.into,
            c.read.auto.into,
          )) is.under;
    }

pub returns-in-Err-clause-comes : goal.returns-in-Err-clause-comes
returns-in-Err-clause-comes g c = λ first before begun taken few is.
    over-interrupted is _ c.in-Err.ensures.failed c.in-Err.ensures.rose (omega (arith, few))
