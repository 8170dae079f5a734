-- One character more has a key that is there, or none goes on.
use Rattle.std.proofs.Common.{◌∙◌, sym, ap, arith}
use Rattle.key_filter.specs.Filter.{may_have}
use Rattle.affix_tables.proofs.EndLemmas.{key-none, key-next}
use Rattle.affix_tables.proofs.reach.Goals as goal

pub loop-number-init : goal.loop-number-init
loop-number-init c = key-none c.args.side c.args.word.now

pub loop-number-preserved : goal.loop-number-preserved
loop-number-preserved c =
    key-next c.args.side c.args.word.now c.loop-number.number c.loop-number.key c.char_at.result
    c.key_with-key.result c.loop-number.invariant c.char_at.ensures c.key_with-key.ensures

pub returns-then-not-may_have-clause-over : goal.returns-then-not-may_have-clause-over
returns-then-not-may_have-clause-over c = λ less.
    ap (may_have c.args.ends.now)
    (sym (key-next c.args.side c.args.word.now c.loop-number.number c.loop-number.key
    c.char_at.result c.key_with-key.result c.loop-number.invariant c.char_at.ensures
    c.key_with-key.ensures))
    ∙ sym c.may_have.ensures ∙ c.if-not-may_have.true

pub returns-clause-over : goal.returns-clause-over
returns-clause-over c = λ less. absurd (omega (arith, less))
