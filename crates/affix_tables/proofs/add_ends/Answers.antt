-- The key of one end more is there.
use Rattle.std.proofs.Common.{rules, arith}
use Rattle.affix_tables.proofs.EndLemmas.{added-none, added-more}
use Rattle.affix_tables.proofs.add_ends.Goals as goal

pub loop-number-init : goal.loop-number-init
loop-number-init c = added-none c.args.side c.args.text.now c.args.ends.now

pub loop-number-preserved : goal.loop-number-preserved
loop-number-preserved c =
    added-more c.args.side c.args.text.now c.loop-number.number c.loop-number.key
    c.key_with-key.result c.args.ends.now c.loop-number.ends c.insert.new.self
    c.loop-number.invariant
    (search rules) c.insert.ensures.there c.insert.ensures.kept

pub returns-clause-has : goal.returns-clause-has
returns-clause-has c = λ count some within. c.loop-number.invariant.has count some (omega arith)

pub returns-clause-keeps : goal.returns-clause-keeps
returns-clause-keeps c = c.loop-number.invariant.keeps
