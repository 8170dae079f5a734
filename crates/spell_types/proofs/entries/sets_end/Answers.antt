-- One row more.
use Rattle.std.proofs.Common.{arith}
use Rattle.std.proofs.lemmas.Option.{slice_get_within}
use Rattle.spell_types.proofs.RowLemmas.{next-within, next-few}
use Rattle.spell_types.proofs.entries.sets_end.Goals as goal

pub loop-row-preserved : goal.loop-row-preserved
loop-row-preserved c =
    let rows = c.args.rows.now in
    let index = c.loop-row.row-index in (
      next-within rows index c.loop-row.end c.max-end.result c.max-end.ensures
          c.loop-row.invariant.0,
      λ count fit. next-few rows index c.loop-row.end c.max-end.result c.max-end.ensures count fit
          c.loop-row-test.true (c.loop-row.invariant.1 count fit),
    )

pub returns-clause-within : goal.returns-clause-within
returns-clause-within c = λ place row at.
    c.loop-row.invariant.0 place row
    (omega (
      arith,
      c.loop-row-test.false,
      slice_get_within c.args.rows.now place row at,
    ))
    at
