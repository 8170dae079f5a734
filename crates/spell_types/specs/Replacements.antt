-- Words that are common misspellings of others.
use Rattle.std.specs.Prelude.{◌≡◌, ℕ, ◌+◌, ◌==◌, Bool, true, not, ◌&&◌, ◌||◌, List, ◌++◌, length}
use Rattle.std.specs.Prelude.{map, take, drop, nat_eq, Contains}
use Rattle.std.specs.List.{filter, flat_map, list_any, range_with_len, starts_with}
use Rattle.spell_types.specs.declared.Lexicon.{Lexicon}
use Rattle.spell_types.specs.declared.breaks.Anchored.{Anchored}
use Rattle.spell_types.specs.declared.conversions.Rep.{Rep}
use Rattle.spell_types.specs.Licences.{is_alone, is_derived}

-- whether the text stands at this place of the word, and there is its front or its end, where it is
-- anchored so
abbrev pub stands_anchored : Anchored → List ℕ → ℕ → Bool
stands_anchored from word place =
    starts_with nat_eq (drop place word) from.text
    && ((not from.front || place == 0)
    && (not from.back || place + length from.text == length word))

-- the word with the replacement for what stands at the place
abbrev pub replaced_at : Rep → List ℕ → ℕ → List ℕ
replaced_at rep word place = take place word ++ (rep.to ++ drop (place + length rep.from.text) word)

-- the words that a pair makes of the word, by place
abbrev pub variants_by : List ℕ → Rep → List (List ℕ)
variants_by word rep =
    map (replaced_at rep word)
    (filter (stands_anchored rep.from word) (range_with_len 0 (length word)))

-- the word with one pair applied at one place, by pair, then by place
unfoldable pub rep_variants : List Rep → List ℕ → List (List ℕ)
rep_variants reps word = flat_map (variants_by word) reps

-- whether one of these words is a word that stands alone
unfoldable pub has_rep_fault : Lexicon → List ℕ → Bool
has_rep_fault lexicon word =
    list_any (is_derived is_alone lexicon) (rep_variants lexicon.affixes.reps word)

-- The same as a relation: one pair, applied at one place, gives a word that stands alone.
pub record HasRepFault (lexicon : Lexicon) (word : List ℕ) : Type 0 where
  pub rep : Rep
  pub front : List ℕ
  pub rest : List ℕ
  pub among : Contains lexicon.affixes.reps rep
  pub whole : word ≡ front ++ (rep.from.text ++ rest)
  pub at_front : rep.from.front ≡ true → length front ≡ 0
  pub at_end : rep.from.back ≡ true → length rest ≡ 0
  pub alone : is_derived is_alone lexicon (front ++ (rep.to ++ rest)) ≡ true
