-- There are the rows of the places from the loop's on.
use Rattle.std.proofs.Common.{◌≤◌, ◌-◌, ◌^◌, length}
use Rattle.compound_words.specs.Rests.{asked_by, patterns_of, AreRows}
use Rattle.compound_words.proofs.rows.rows_of.Given as goal

abbrev pub invariant-loop-from : goal.invariant-loop-from
invariant-loop-from l = record {
  within : l.from ≤ length l.word;
  fits : length l.word ≤ 2 ^ 64 - 1;
  rows : AreRows (asked_by l.search) (patterns_of l.search) l.reached l.word (l.from - 1)
      l.rows.items;
}

abbrev pub decreases-loop-from : goal.decreases-loop-from
decreases-loop-from l = l.from
