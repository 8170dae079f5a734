-- Both halves have the entry.
use Rattle.entry_table.proofs.table.EntryTable.add.Goals as goal

pub returns : goal.returns
returns c = λ entries entry counts is before. record {
  even = c.in_ok-add.ensures 0 entries entry counts is before.even;
  odd = c.in_ok-add-2.ensures 1 entries entry counts is before.odd;
}
