-- What a filter says of a key.
use Rattle.std.specs.Prelude.{ℕ, ◌/◌, ◌%◌, ◌^◌, Bool, true, ◌&&◌, ◌==◌, nat_eq, slice_get}
use Rattle.std.specs.Int.{bit_at}
use Rattle.std.specs.Option.{option_map_or}
use Rattle.key_filter.specs.declared.KeyFilter.{KeyFilter}

-- the place of a key's word: its upper bits
abbrev pub word_place_of : KeyFilter → ℕ → ℕ
word_place_of filter key = key / 2 ^ (filter.shift % 64)

-- the number of a key's bit in its word: its lowest six bits
abbrev pub bit_of : ℕ → ℕ
bit_of key = key % 64

-- whether the key may be there: its bit is set, or there is no word with its place
unfoldable pub may_have : KeyFilter → ℕ → Bool
may_have filter key =
    option_map_or (λ word. bit_at word (bit_of key) == 1)
    (slice_get filter.words.items (word_place_of filter key)) true

-- whether two keys have one bit
abbrev pub share_a_bit : KeyFilter → ℕ → ℕ → Bool
share_a_bit filter key other =
    nat_eq (word_place_of filter key) (word_place_of filter other) && nat_eq (bit_of key) (bit_of other)
