-- The hash is that of the word.
use Rattle.std.proofs.Common.{◌%◌, subst}
use Rattle.entry_table.specs.EntryTable.{HasHalf}
use Rattle.entry_table.proofs.EntryLemmas.{joined-hash}
use Rattle.entry_table.proofs.table.EntryTable.places_of.Goals as goal

pub places_of-requires-clause-hash : goal.places_of-requires-clause-hash
places_of-requires-clause-hash c =
    joined-hash c.args.front c.args.back.now c.fold-hash.result c.fold-hash.ensures c.requires.front

pub places_of-requires-clause-entries : goal.places_of-requires-clause-entries
places_of-requires-clause-entries c =
    subst (λ hash. HasHalf (hash % 2) c.args.entries.now c.half_of.result.now)
    (joined-hash c.args.front c.args.back.now c.fold-hash.result c.fold-hash.ensures
    c.requires.front)
    (c.half_of.ensures c.args.entries.now c.requires.entries)
