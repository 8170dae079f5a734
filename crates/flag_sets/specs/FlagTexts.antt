-- Which flags a text lists, what a flag field is, and which text is one flag.
use Rattle.std.specs.Prelude.{◌≡◌, ℕ, zero, suc, ◌+◌, ◌*◌, ◌^◌, ◌<◌, ◌==◌, ◌&&◌, nat_le, Bool, List}
use Rattle.std.specs.Prelude.{[], ◌∷◌, map, length, slice_get, Option, None, Some, option_and_then}
use Rattle.std.specs.Prelude.{Result, Ok, if◌then◌else◌}
use Rattle.std.specs.Borrow.{Bor}
use Rattle.std.specs.List.{slice_split}
use Rattle.std.specs.Option.{option_map, ok_or}
use Rattle.std.specs.Str.{chars}
use Rattle.text_lines.specs.Fields.{decimal_of}
use Rattle.spell_types.specs.declared.flags.Flag.{Flag}
use Rattle.spell_types.specs.declared.flags.FlagKind.{FlagKind}
use Rattle.spell_types.specs.declared.flags.FlagKind.TheVariants.{Single, Utf8, Long, Num}
use Rattle.spell_types.specs.Flags.{put_all}
use Rattle.flag_sets.specs.declared.FlagFault.{FlagFault}
use Rattle.flag_sets.specs.declared.FlagFault.TheVariants.{BadFlag, BadAlias}

-- the flag with a number
abbrev pub flag_of : ℕ → Flag
flag_of number = record { 0 = number }

-- a flag before those that are listed, if any are
abbrev pub with_first : Flag → Option (List Flag) → Option (List Flag)
with_first flag listed = option_map (λ flags. flag ∷ flags) listed

-- the flags of characters that stand two by two; there are none if one is left over
abbrev pub paired_flags : List ℕ → Option (List Flag)
paired_flags [] = Some []
paired_flags (first ∷ []) = None
paired_flags (first ∷ second ∷ more) =
    with_first (flag_of (first * 2 ^ 32 + second)) (paired_flags more)

-- the flag of an item, which is a decimal from 1 to 65000
abbrev pub flag_of_item : List ℕ → Option Flag
flag_of_item item =
    option_and_then
    (λ number. if nat_le 1 number && nat_le number 65000 then Some (flag_of number) else None)
    (decimal_of item)

-- the flags of all items; there are none if an item has none
abbrev pub flags_of_items : List (List ℕ) → Option (List Flag)
flags_of_items [] = Some []
flags_of_items (item ∷ more) =
    option_and_then (λ flag. with_first flag (flags_of_items more)) (flag_of_item item)

abbrev pub is_comma : ℕ → Bool
is_comma byte = byte == 44

-- Each character is a flag.
abbrev pub character_flags : List ℕ → Option (List Flag)
character_flags text = Some (map flag_of (chars text))

-- Each two characters are a flag.
abbrev pub long_flags : List ℕ → Option (List Flag)
long_flags text = paired_flags (chars text)

-- Each item between commas is a flag; the empty text has no item.
abbrev pub number_flags : List ℕ → Option (List Flag)
number_flags text = if length text == 0 then Some [] else flags_of_items (slice_split is_comma text)

-- the flags that a text lists, if it lists flags of this type and nothing else
abbrev pub listed_flags : FlagKind → List ℕ → Option (List Flag)
listed_flags Single text = character_flags text
listed_flags Utf8 text = character_flags text
listed_flags Long text = long_flags text
listed_flags Num text = number_flags text

-- the alias with an ordinal; the first alias has 1
abbrev pub alias_at : List (List Flag) → ℕ → Option (List Flag)
alias_at aliases zero = None
alias_at aliases (suc place) = slice_get aliases place

-- the alias whose ordinal a text writes, if there is one
abbrev pub alias_of : List (List Flag) → List ℕ → Option (List Flag)
alias_of aliases text = option_and_then (alias_at aliases) (decimal_of text)

-- what a flag field is in a file with these aliases: nothing, or the ordinal of one
abbrev pub alias_field : List (List Flag) → List ℕ → Result (List Flag) FlagFault
alias_field aliases text =
    if length text == 0 then Ok [] else ok_or (alias_of aliases text) BadAlias

-- what a flag field is: the set of the flags that it lists, if the file has no aliases
abbrev pub flag_field : FlagKind → Option (List (List Flag)) → List ℕ → Result (List Flag) FlagFault
flag_field kind None text = ok_or (option_map (put_all []) (listed_flags kind text)) BadFlag
flag_field kind (Some aliases) text = alias_field aliases text

-- the only flag of a list
abbrev pub only_of : List Flag → Option Flag
only_of [] = None
only_of (flag ∷ []) = Some flag
only_of (flag ∷ next ∷ more) = None

-- the flag that a text is, if it lists exactly one
abbrev pub one_flag : FlagKind → List ℕ → Option Flag
one_flag kind text = option_and_then only_of (listed_flags kind text)

-- how a reader of flags goes on in a text: it lists none, or this flag and then what a shorter rest
-- lists
abbrev pub FlagTextGoesOn : (List ℕ → Option (List Flag)) → List ℕ → Option (Flag × Bor (List ℕ))
    → Type 0
FlagTextGoesOn listed text None = listed text ≡ None
FlagTextGoesOn listed text (Some (flag, rest)) =
    (listed text ≡ with_first flag (listed rest.now)) × (length rest.now < length text)
