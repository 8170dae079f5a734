-- The hash is that of the word.
use Rattle.entry_table.proofs.EntryLemmas.{joined-hash}
use Rattle.std.proofs.Common.{◌++◌}
use Rattle.entry_table.proofs.table.EntryTable.may_have.Goals as goal

pub returns : goal.returns
returns c = λ entries holds none.
    c.may_have.ensures entries (c.args.front.text.now ++ c.args.back.now)
    (c.half_of.ensures entries holds)
    (joined-hash c.args.front c.args.back.now c.fold-hash.result c.fold-hash.ensures c.requires) none
