-- The offsets of bytes of a line, and a walk that counts them.
use Rattle.std.specs.Prelude.{◌≡◌, ℕ, ◌+◌, ◌-◌, ◌≤◌, List, [], ◌∷◌, nat_lt, if◌then◌else◌}
use Rattle.std.specs.Char.{len_utf8}
use Rattle.std.specs.Str.{chars}
use Rattle.positions.specs.declared.Encoding.{Encoding}
use Rattle.positions.specs.declared.Encoding.TheVariants.{Utf8, Utf16, Utf32}
use Rattle.positions.specs.declared.walk.Reached.{Reached}
use Rattle.positions.specs.Places.{units}

-- how many units the characters have that end so many bytes from the beginning, or before
abbrev pub units_to : Encoding → List ℕ → ℕ → ℕ
units_to encoding [] byte = 0
units_to encoding (c ∷ line) byte =
    if nat_lt byte (len_utf8 c) then 0 else units encoding c + units_to encoding line (byte - len_utf8 c)

-- the offset of a byte of a line
abbrev pub offset_at : Encoding → List ℕ → ℕ → ℕ
offset_at Utf8 line byte = byte
offset_at Utf16 line byte = units_to Utf16 line byte
offset_at Utf32 line byte = units_to Utf32 line byte

-- what a walk goes along, and in which units it counts
pub record Walked : Type 0 where
  pub encoding : Encoding
  pub line : List ℕ

-- a walk along the line has come so far: from there on it counts what is left
pub record IsOnWay (encoding : Encoding) (line : List ℕ) (reached : Reached) : Type 0 where
  pub few : reached.offset ≤ reached.byte
  pub goes_on : (byte : ℕ) → reached.byte ≤ byte → units_to encoding line byte
      ≡ reached.offset + units_to encoding (chars reached.left.now) (byte - reached.byte)

-- it has come to a byte, or to the last place before it
pub record IsArrived (encoding : Encoding) (line : List ℕ) (byte : ℕ) (reached : Reached)
    : Type 0 where
  pub on_way : IsOnWay encoding line reached
  pub offset : reached.offset ≡ units_to encoding line byte
