-- What the key's bit says.
use Rattle.std.proofs.Common.{rules}
use Rattle.key_filter.proofs.FilterLemmas.{word-at, read-bit}
use Rattle.key_filter.proofs.KeyFilter.may_have.Goals as goal

pub returns-else-place-len : goal.returns-else-place-len
returns-else-place-len c =
    read-bit c.args.self.now c.args.key c.index.result.now
    (word-at c.args.self.now c.args.key c.place_of-place.result c.index.result.now
    c.place_of-place.ensures (search rules) c.index.ensures)
