-- One byte more is too much.
use Rattle.std.proofs.Common.{◌<◌, arith, refl, rules, subst, take, length-take}
use Rattle.outside.specs.Source.{IsEndOf}
use Rattle.outside.specs.Laws.{takes-all}
use Rattle.input_lines.proofs.TurnLemmas.{over-interrupted, over-stops, over-too-much}
use Rattle.input_lines.proofs.listener.Listener.end_at_limit.Goals as goal

pub returns-in-Ok-eq0-clause-over : goal.returns-in-Ok-eq0-clause-over
returns-in-Ok-eq0-clause-over g c = λ first before begun is.
    let left = g.S.Source.left c.args.input.now in
    over-stops _ (c.end.ensures.ends first before is.heard (omega (arith, is.counted)) is.under)
    c.end.ensures.empty
    (takes-all begun.bytes left is.heard is.takes
    (subst (IsEndOf left) (search rules) c.in-Ok-eq0.ensures.end))

pub returns-in-Ok-clause-over : goal.returns-in-Ok-clause-over
returns-in-Ok-clause-over g c = λ first before begun is.
    let count = c.in-Ok.field-0 in
    let some : 0 < count = search rules in
    over-too-much is _ (take count c.read.new.into) c.in-Ok.ensures.taken refl
    (omega (
      arith,
      some,
      c.in-Ok.ensures.bounded,
      length-take count c.read.new.into,
      c.read.auto.into,
    ))

pub returns-in-Err-clause-over : goal.returns-in-Err-clause-over
returns-in-Err-clause-over g c = λ first before begun is.
    over-interrupted is _ c.in-Err.ensures.failed c.in-Err.ensures.rose (omega arith)
