-- The key's bit is set, or the key has no word.
use Rattle.std.proofs.Common.{rules, refl, ap, bit_or, set, ◌*◌, ◌%◌, ◌^◌}
use Rattle.std.specs.Vec.{with_item}
use Rattle.key_filter.specs.declared.KeyFilter.{KeyFilter}
use Rattle.key_filter.proofs.FilterLemmas.{PutsIn, word-at, put-in, put-nowhere, put-keeps, put-has}
use Rattle.key_filter.proofs.KeyFilter.insert.Goals as goal

-- the filter with the key's bit
abbrev after : goal.After-self-1 → KeyFilter
after c = record {
  words = with_item c.args.self.now.words c.place_of-place.result
      (bit_or c.index_mut.result.now (1 * 2 ^ (c.args.key % 64) % 2 ^ 64));
  shift = c.args.self.now.shift;
}

within : (c : goal.After-self-1) → PutsIn c.args.self.now (after c) c.args.key
within c = λ other.
    let filter = c.args.self.now in
    let word = c.index_mut.result.now in
    put-in filter (after c) c.args.key word other refl (search rules)
    (word-at filter c.args.key c.place_of-place.result word c.place_of-place.ensures (search rules)
    c.index_mut.ensures.value)
    (ap (λ place. set filter.words.items place (bit_or word (1 * 2 ^ (c.args.key % 64) % 2 ^ 64)))
    c.place_of-place.ensures)

pub returns-then-place-len-clause-others : goal.returns-then-place-len-clause-others
returns-then-place-len-clause-others c = within c

pub returns-then-place-len-clause-there : goal.returns-then-place-len-clause-there
returns-then-place-len-clause-there c = put-has c.args.self.now (after c) c.args.key (within c)

pub returns-then-place-len-clause-kept : goal.returns-then-place-len-clause-kept
returns-then-place-len-clause-kept c =
    λ other there. put-keeps c.args.self.now (after c) c.args.key other (within c) there

pub returns-else-place-len-clause-others : goal.returns-else-place-len-clause-others
returns-else-place-len-clause-others c =
    λ other. put-nowhere c.args.self.now c.args.key other (search rules)

pub returns-else-place-len-clause-there : goal.returns-else-place-len-clause-there
returns-else-place-len-clause-there c =
    put-has c.args.self.now c.args.self.now c.args.key
    (λ other. put-nowhere c.args.self.now c.args.key other (search rules))
