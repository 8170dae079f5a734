-- The made files: the .aff file, the .dic file of as many stems as are asked for, and the text of
-- as many words.
use Rattle.std.specs.Prelude.{ℕ, zero, suc, ◌+◌, ◌*◌, ◌/◌, ◌%◌, ◌^◌, List, [], ◌∷◌, ◌++◌, length}
use Rattle.std.specs.Prelude.{map, codes}
use Rattle.std.specs.Fmt.{decimal}
use Rattle.std.specs.Fork.{slice_chunk}
use Rattle.std.specs.List.{flat_map, range_with_len, join_with_byte}
use Rattle.work_maker.specs.Words.{made_stem, kind_with_number, made_flags, made_word}

-- lines, each with the line feed that ends it
abbrev pub ended : List (List ℕ) → List ℕ
ended lines = flat_map (λ line. line ++ codes "\n") lines

-- one prefix, and one suffix in two forms, for stems that end in `a` and for the others
unfoldable pub aff_bytes : List ℕ
aff_bytes = ended
    (codes "SET UTF-8"
    ∷ codes "PFX A Y 1"
    ∷ codes "PFX A 0 re ."
    ∷ codes "SFX B Y 2"
    ∷ codes "SFX B 0 n [^a]"
    ∷ codes "SFX B a en a"
    ∷ [])

-- the entry with a number from 0: the stem with that number, and flags of each kind in turn
abbrev pub made_entry : ℕ → List ℕ
made_entry number = made_stem number ++ made_flags (kind_with_number (number % 4))

-- the size as the first line, and then so many entries
unfoldable pub dic_bytes : ℕ → List ℕ
dic_bytes size = ended (decimal size ∷ map made_entry (range_with_len 0 size))

-- what is drawn next after a number
abbrev pub drawn_after : ℕ → ℕ
drawn_after number = (number * 1229 + 351) % 2 ^ 20

-- what is drawn for each word, numbered from 1; before the first stands what is left of the start
unfoldable pub drawn : ℕ → ℕ → ℕ
drawn start zero = start % 2 ^ 20
drawn start (suc before) = drawn_after (drawn start before)

-- the word that a drawn number stands for: its highest two bits tell the kind, and what is left
-- without its lowest four the stem
abbrev pub drawn_word : ℕ → ℕ → List ℕ
drawn_word size number = made_word (kind_with_number (number / 2 ^ 18)) (made_stem (number / 16 % size))

-- the words of the text, numbered from 1
abbrev pub made_words : ℕ → ℕ → List (List ℕ)
made_words start size = map (λ place. drawn_word size (drawn start place)) (range_with_len 1 size)

-- lists in tens, of which the last may be shorter
abbrev pub in_tens : List (List ℕ) → List (List (List ℕ))
in_tens words =
    map (λ number. slice_chunk words 10 number) (range_with_len 0 ((length words + 9) / 10))

-- the words, ten in a line, with a space between each two
unfoldable pub text_bytes : ℕ → ℕ → List ℕ
text_bytes start size = ended (map (join_with_byte 32) (in_tens (made_words start size)))
