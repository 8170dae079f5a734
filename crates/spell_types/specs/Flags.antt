-- What a set of flags is: a list of flags that rises.
use Rattle.std.specs.Prelude.{◌<◌, ◌^◌, ◌-◌, ◌==◌, nat_lt, Bool, false, List, [], ◌∷◌, All}
use Rattle.std.specs.Prelude.{AllPairs, Option, None, Some, if◌then◌else◌}
use Rattle.std.specs.List.{list_any}
use Rattle.spell_types.specs.declared.flags.Flag.{Flag}

-- each flag has a lower number than all after it, so that none stands in the list twice
abbrev pub IsRising : List Flag → Type 0
IsRising flags = AllPairs (λ flag later. flag.0 < later.0) flags

-- a set of flags, and this one
abbrev pub put : Flag → List Flag → List Flag
put flag [] = flag ∷ []
put flag (first ∷ more) =
    if nat_lt flag.0 first.0 then flag ∷ first ∷ more
    else (if flag.0 == first.0 then first ∷ more else first ∷ put flag more)

-- a set of flags, and all of these
abbrev pub put_all : List Flag → List Flag → List Flag
put_all set [] = set
put_all set (flag ∷ more) = put_all (put flag set) more

-- whether a flag is given, and it is one of these
abbrev pub has : List Flag → Option Flag → Bool
has flags None = false
has flags (Some flag) = list_any (λ held. held.0 == flag.0) flags

-- whether the set has one of these flags
abbrev pub has_flag_of : List Flag → List Flag → Bool
has_flag_of set flags = list_any (λ flag. has set (Some flag)) flags

-- A flag that a file can give. The highest number of 64 bits is left over, so that a flag of no
-- file can be made.
abbrev pub IsOrdinary : Flag → Type 0
IsOrdinary flag = flag.0 < 2 ^ 64 - 1

abbrev pub AreOrdinary : List Flag → Type 0
AreOrdinary flags = All IsOrdinary flags
