-- A place that may not be reached needs no row.
use Rattle.std.proofs.Common.{◌∙◌, ◌-◌, sym, arith}
use Rattle.compound_words.specs.Rests.{asked_by, patterns_of}
use Rattle.compound_words.proofs.RowLemmas.{rows-skip}
use Rattle.compound_words.proofs.rows.rows_of.Goals as goal

pub loop-from-preserved : goal.loop-from-preserved
loop-from-preserved c = record {
  within = omega (arith, c.loop-from.invariant.within);
  fits = c.loop-from.invariant.fits;
  rows =
      rows-skip (asked_by c.args.search.now) (patterns_of c.args.search.now) c.args.reached.now
      c.args.word.now (c.loop-from.from - 1) c.loop-from.rows.items c.loop-from.invariant.rows
      (sym c.may_reach.ensures ∙ c.if-may_reach.false);
}
