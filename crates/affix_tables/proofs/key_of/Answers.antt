-- One character more is in the key.
use Rattle.affix_tables.proofs.EndLemmas.{key-none, key-next}
use Rattle.affix_tables.proofs.key_of.Goals as goal

pub loop-number-init : goal.loop-number-init
loop-number-init c = key-none c.args.side c.args.text.now

pub loop-number-preserved : goal.loop-number-preserved
loop-number-preserved c =
    key-next c.args.side c.args.text.now c.loop-number.number c.loop-number.key c.char_at.result
    c.key_with-key.result c.loop-number.invariant c.char_at.ensures c.key_with-key.ensures
