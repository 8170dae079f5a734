-- Upper and lower case, and the spellings of a dictionary that a written word stands for.
use Rattle.std.specs.Prelude.{◌≡◌, ℕ, zero, suc, ◌==◌, ◌&&◌, Bool, false, not, List, [], ◌∷◌, ◌++◌}
use Rattle.std.specs.Prelude.{map, filter, nat_eq, IsTrue, ◌⊎◌, if◌then◌else◌}
use Rattle.std.specs.List.{list_any}
use Rattle.std.specs.Cmp.Lexicographic.{pointwise}
use Rattle.unicode.specs.Binary.{is_uppercase, is_lowercase}
use Rattle.unicode.specs.CaseFolding.{simple_fold}
use Rattle.spell_types.specs.declared.limits.TheConstants.{MOST_PAIRS}

-- an upper-case character: one with Unicode's property Uppercase
unfoldable pub is_upper : ℕ → Bool
is_upper c = is_uppercase c

-- a lower-case character: one with Unicode's property Lowercase
unfoldable pub is_lower : ℕ → Bool
is_lower c = is_lowercase c

-- an upper-case character lowered is its simple case folding; any other character stays
unfoldable pub low : ℕ → ℕ
low c = if is_upper c then simple_fold c else c

-- whether the word's first character is upper case
abbrev pub begins_upper : List ℕ → Bool
begins_upper [] = false
begins_upper (c ∷ rest) = is_upper c

-- whether the word holds a lower-case character
abbrev pub has_lower : List ℕ → Bool
has_lower word = list_any is_lower word

-- the word with its first character lowered
abbrev pub first_lowered : List ℕ → List ℕ
first_lowered [] = []
first_lowered (c ∷ rest) = low c ∷ rest

-- the word with all its characters lowered
abbrev pub all_lowered : List ℕ → List ℕ
all_lowered word = map low word

-- the word with its first character kept and the rest lowered
abbrev pub rest_lowered : List ℕ → List ℕ
rest_lowered [] = []
rest_lowered (c ∷ rest) = c ∷ map low rest

-- what a word that begins in upper case stands for, as at the start of a sentence
abbrev pub spellings_of_capital : List ℕ → List (List ℕ)
spellings_of_capital word = if begins_upper word then first_lowered word ∷ [] else []

-- what a word without lower-case characters stands for, as in a heading
abbrev pub spellings_of_capitals : List ℕ → List (List ℕ)
spellings_of_capitals word =
    if has_lower word then [] else all_lowered word ∷ rest_lowered word ∷ []

-- whether two words are the same, character by character
abbrev pub is_same_word : List ℕ → List ℕ → Bool
is_same_word word other = pointwise nat_eq word other

-- whether one of the words is this word
abbrev pub is_among : List (List ℕ) → List ℕ → Bool
is_among words word = list_any (λ other. is_same_word other word) words

-- each word of the list where it first comes, and not again
abbrev pub without_repeats : List (List ℕ) → List (List ℕ)
without_repeats [] = []
without_repeats (word ∷ more) =
    word ∷ filter (λ other. not (is_same_word word other)) (without_repeats more)

-- whether two characters are a pair SS, which may stand for one ß
abbrev pub is_pair : ℕ → ℕ → Bool
is_pair c d = (c == 83) && (d == 83)

-- All ways to lower a word where each of its first so many pairs SS is written as ß or as ss. Pairs
-- are found from left to right and do not overlap.
abbrev pub sharp_lowered : ℕ → List ℕ → List (List ℕ)
sharp_lowered pairs [] = [] ∷ []
sharp_lowered pairs (c ∷ []) = (low c ∷ []) ∷ []
sharp_lowered zero (c ∷ d ∷ rest) = all_lowered (c ∷ d ∷ rest) ∷ []
sharp_lowered (suc pairs) (c ∷ d ∷ rest) =
    if is_pair c d
    then map (λ more. 223 ∷ more) (sharp_lowered pairs rest) ++ map (λ more. low c ∷ low d ∷ more)
    (sharp_lowered pairs rest)
    else map (λ more. low c ∷ more) (sharp_lowered (suc pairs) (d ∷ rest))

-- the same with the first character kept, which is then in no pair that is written as ß
abbrev pub sharp_kept : ℕ → List ℕ → List (List ℕ)
sharp_kept pairs [] = []
sharp_kept pairs (c ∷ []) = (c ∷ []) ∷ []
sharp_kept zero (c ∷ d ∷ rest) = rest_lowered (c ∷ d ∷ rest) ∷ []
sharp_kept (suc pairs) (c ∷ d ∷ rest) =
    if is_pair c d then map (λ more. c ∷ low d ∷ more) (sharp_lowered pairs rest)
    else map (λ more. c ∷ more) (sharp_lowered (suc pairs) (d ∷ rest))

-- what a word without lower-case characters stands for where SS may stand for ß
abbrev pub spellings_of_sharps : Bool → List ℕ → List (List ℕ)
spellings_of_sharps sharps word =
    if has_lower word then []
    else if sharps then sharp_lowered MOST_PAIRS word ++ sharp_kept MOST_PAIRS word else []

-- The words that a written word covers, in order and without repeats: itself; where its first
-- character is upper case, the word with that character lowered; where it holds no lower-case
-- character, the word with all lowered, and the word with its first kept and the rest lowered; and,
-- where SS may stand for ß, these two with some of its first `MOST_PAIRS` pairs SS written so.
unfoldable pub covered_by : Bool → List ℕ → List (List ℕ)
covered_by sharps written =
    without_repeats
    (written ∷ (spellings_of_capital written
    ++ (spellings_of_capitals written ++ spellings_of_sharps sharps written)))

-- the word is one of these
abbrev pub IsOne : List (List ℕ) → List ℕ → Type 0
IsOne words word = IsTrue (is_among words word)

-- the written word covers the word
abbrev pub Covers : Bool → List ℕ → List ℕ → Type 0
Covers sharps written word =
    (word ≡ written)
    ⊎ ((IsTrue (begins_upper written) × (word ≡ first_lowered written))
    ⊎ ((IsTrue (not (has_lower written))
    × ((word ≡ all_lowered written) ⊎ (word ≡ rest_lowered written)))
    ⊎ (IsTrue sharps × (IsTrue (not (has_lower written))
    × (IsOne (sharp_lowered MOST_PAIRS written) word
    ⊎ IsOne (sharp_kept MOST_PAIRS written) word)))))
