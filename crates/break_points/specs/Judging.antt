-- What a judge says of words.
use Rattle.std.specs.Prelude.{◌≡◌, Bool, true, false, List, ℕ, Result, Ok}
use Rattle.spell_types.specs.lists.declared.NoMemory.{NoMemory}
use Rattle.break_points.specs.declared.Judged.{Judged}
use Rattle.break_points.specs.declared.Judged.TheVariants.{Base, Other, Barred}

abbrev pub is_judged_base : Judged → Bool
is_judged_base Base = true
is_judged_base Other = false
is_judged_base Barred = false

abbrev pub is_judged_barred : Judged → Bool
is_judged_barred Base = false
is_judged_barred Other = false
is_judged_barred Barred = true

-- the words that are accepted as they stand
abbrev pub is_base_by : (List ℕ → Judged) → List ℕ → Bool
is_base_by judged word = is_judged_base (judged word)

-- the words that may not be broken
abbrev pub is_barred_by : (List ℕ → Judged) → List ℕ → Bool
is_barred_by judged word = is_judged_barred (judged word)

-- what is answered for a word, if memory was to be had, is one function of the word
abbrev pub AnswersAs : (List ℕ → Result Judged NoMemory → Type 0) → (List ℕ → Judged) → Type 0
AnswersAs answers judged =
    (word : List ℕ) (verdict : Judged) → answers word (Ok verdict) → verdict ≡ judged word
