-- What the fields of a text are, and which texts are decimals.
use Rattle.std.specs.Prelude.{ℕ, ◌^◌, ◌==◌, ◌||◌, ◌&&◌, Bool, not, List, length, filter, nat_lt}
use Rattle.std.specs.Prelude.{Option, Some, None, if◌then◌else◌}
use Rattle.std.specs.List.{slice_split}
use Rattle.std.specs.Str.{all_ascii_digits}
use Rattle.std.specs.Str.Parse.{digits_value}

-- whether a byte is a space or a tab
abbrev pub is_blank : ℕ → Bool
is_blank byte = byte == 32 || byte == 9

-- whether a piece has a byte
abbrev pub has_bytes : List ℕ → Bool
has_bytes piece = not (length piece == 0)

-- the longest runs of characters that are neither space nor tab, in their order
unfoldable pub fields : List ℕ → List (List ℕ)
fields text = filter has_bytes (slice_split is_blank text)

-- whether a text is one ASCII digit or more and nothing else
abbrev pub is_decimal : List ℕ → Bool
is_decimal text = has_bytes text && all_ascii_digits text

-- the number that a text writes with decimal digits, if it does and the number is below 2^64
unfoldable pub decimal_of : List ℕ → Option ℕ
decimal_of text = if is_decimal text && nat_lt (digits_value 10 text) (2 ^ 64)
    then Some (digits_value 10 text) else None
