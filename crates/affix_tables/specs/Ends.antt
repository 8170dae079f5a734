-- The ends of texts, seen from a side, by keys.
use Rattle.std.specs.Prelude.{◌≡◌, ℕ, zero, suc, ◌+◌, ◌-◌, ◌*◌, ◌%◌, ◌^◌, ◌<◌, ◌≤◌, true, List}
use Rattle.std.specs.Prelude.{length, get_or}
use Rattle.key_filter.specs.declared.KeyFilter.{KeyFilter}
use Rattle.key_filter.specs.Filter.{may_have}
use Rattle.spell_types.specs.declared.rules.Side.{Side}
use Rattle.spell_types.specs.declared.rules.Side.TheVariants.{Prefix, Suffix}
use Rattle.affix_tables.specs.declared.TheConstants.{START, FACTOR}

-- the character with a number, from 0, seen from the side's end of a text
abbrev pub char_at : Side → List ℕ → ℕ → ℕ
char_at Prefix text number = get_or text number 0
char_at Suffix text number = get_or text (length text - (number + 1)) 0

-- a key with one character more
abbrev pub key_with : ℕ → ℕ → ℕ
key_with key c = ((key * FACTOR) % 2 ^ 64 + c) % 2 ^ 64

-- the key of so many characters at the side's end of a text
unfoldable pub key_at : Side → List ℕ → ℕ → ℕ
key_at side text zero = START
key_at side text (suc count) = key_with (key_at side text count) (char_at side text count)

-- the keys of all ends of a text may be there
abbrev pub HasEnds : Side → List ℕ → KeyFilter → Type 0
HasEnds side text ends =
    (count : ℕ) → 0 < count → count ≤ length text → may_have ends (key_at side text count) ≡ true

-- the key of a text may be there
abbrev pub HasText : Side → List ℕ → KeyFilter → Type 0
HasText side text texts = may_have texts (key_at side text (length text)) ≡ true

-- the keys that might be there still may
abbrev pub KeepsKeys : KeyFilter → KeyFilter → Type 0
KeepsKeys before now = (key : ℕ) → may_have before key ≡ true → may_have now key ≡ true
