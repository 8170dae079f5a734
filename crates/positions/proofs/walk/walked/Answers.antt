-- One character more is passed, or the next one ends behind the byte, or none is left.
use Rattle.std.proofs.Common.{rules, ap, ◌+◌, arith}
use Rattle.std.specs.Str.{chars}
use Rattle.positions.proofs.PlaceLemmas.{units-some}
use Rattle.positions.proofs.WalkLemmas.{way-further, way-stays, way-ends}
use Rattle.positions.proofs.walk.walked.Goals as goal

pub loop-c-preserved : goal.loop-c-preserved
loop-c-preserved c =
    let l = c.loop-c in
    let wide = c.len_utf8-width.ensures.value in
    let few = (units-some c.args.encoding c.in-Some.c).1 in
    record {
      within = omega (arith, c.if-byte-reached.false, l.invariant.within);
      few = omega (arith, l.invariant.few, wide, c.units.ensures, few);
      on_way = λ line held.
          way-further c.args.encoding line c.in-Some.c l.reached _ (l.invariant.on_way line held)
          c.in-Some.ensures.first (ap (λ n. l.reached.byte + n) wide)
          (ap (λ n. l.reached.offset + n) c.units.ensures);
    }

pub returns-then-byte-reached-clause-arrived : goal.returns-then-byte-reached-clause-arrived
returns-then-byte-reached-clause-arrived c = λ line held.
    let l = c.loop-c in
    let wide = c.len_utf8-width.ensures.value in
    way-stays c.args.encoding line (chars c.in-Some.left.now) c.in-Some.c c.args.byte l.reached
    (l.invariant.on_way line held) c.in-Some.ensures.first l.invariant.within
    (omega (arith, c.if-byte-reached.true, wide))

pub returns-in_default-clause-arrived : goal.returns-in_default-clause-arrived
returns-in_default-clause-arrived c = λ line held.
    let l = c.loop-c in
    way-ends c.args.encoding line c.args.byte l.reached (l.invariant.on_way line held)
    (search rules) l.invariant.within
