-- The stems of the made dictionary, the affixes that go with them, and the words made of both.
use Rattle.std.specs.Prelude.{ℕ, ◌-◌, ◌/◌, ◌%◌, List, [], ◌∷◌, ◌++◌, length, take, codes}
use Rattle.std.specs.Prelude.{slice_index, nat_eq, ◌==◌, if◌then◌else◌}
use Rattle.std.specs.List.{ends_with}
use Rattle.work_maker.specs.declared.words.Kind.{Kind}
use Rattle.work_maker.specs.declared.words.Kind.TheVariants.{Bare, Prefixed, Suffixed, Both}

-- the syllable with a number below 50: each of the ten consonants stands with each of the five
-- vowels
abbrev pub syllable : ℕ → List ℕ
syllable number =
    slice_index (codes "bdfgklmnrt") (number / 5) ∷ slice_index (codes "aeiou") (number % 5) ∷ []

-- the stem with a number: a syllable for each of its three lowest digits in base 50, the lowest
-- first
abbrev pub made_stem : ℕ → List ℕ
made_stem number =
    syllable (number % 50) ++ (syllable (number / 50 % 50) ++ syllable (number / 2500 % 50))

-- the kind with a number below 4
abbrev pub kind_with_number : ℕ → Kind
kind_with_number number =
    if number == 0 then Bare
    else (if number == 1 then Prefixed else (if number == 2 then Suffixed else Both))

-- the flags of the affixes that an entry of a kind may take
abbrev pub made_flags : Kind → List ℕ
made_flags Bare = []
made_flags Prefixed = codes "/A"
made_flags Suffixed = codes "/B"
made_flags Both = codes "/AB"

-- a stem with the suffix: it ends in `n`, or, where the stem ends in `a`, in `en` instead of that
abbrev pub suffixed : List ℕ → List ℕ
suffixed stem =
    if ends_with nat_eq stem (codes "a") then take (length stem - 1) stem ++ codes "en"
    else stem ++ codes "n"

-- the word of a kind from a stem
abbrev pub made_word : Kind → List ℕ → List ℕ
made_word Bare stem = stem
made_word Prefixed stem = codes "re" ++ stem
made_word Suffixed stem = suffixed stem
made_word Both stem = codes "re" ++ suffixed stem
