-- The words of a text are those of its paragraphs, one by one: no run goes past a line feed.
use Rattle.std.proofs.Common.{◌≡◌, ℕ, ◌+◌, ◌-◌, ◌≤◌, true, false, not, cond, nat_le, List, [], ◌∷◌}
use Rattle.std.proofs.Common.{◌++◌, map, filter, Option, Some, None, refl, sym, ap, ◌∙◌, arith}
use Rattle.std.specs.List.{list_any, filter_map, cons_option, slice_split, flat_map, enumerate_from}
use Rattle.std.specs.List.{AllByRecursion}
use Rattle.std.specs.Option.{option_map}
use Rattle.std.specs.Char.{len_utf8}
use Rattle.std.proofs.lemmas.Bool.{le-leb, lt-leb}
use Rattle.std.proofs.lemmas.List.{map-append, append-nil}
use Rattle.std.proofs.lemmas.List.Elements.{filter_map-append, filter-append}
use Rattle.spell_types.specs.declared.Lexicon.{Lexicon}
use Rattle.mark_types.specs.Characters.{is_word_character, line_feed, is_letter_or_digit}
use Rattle.mark_types.specs.Words.{Word, Placed, placed, belongs, first_of, characters_of}
use Rattle.mark_types.specs.Words.{byte_count, word_of, is_outside, words_of, StandsIn}
use Rattle.mark_types.specs.Marks.{LocatedWord, located_at, located_in, located_words, in_paragraph}
use Rattle.mark_types.specs.Marks.{one_by_one, joined, marks_of, is_unknown}
use Rattle.mark_types.proofs.Cutting.{slice_split-append, slice_split-map}
use Rattle.text_lines.specs.lists.Laws.{byte_length-cons, byte_length-append}
use Rattle.mark_types.proofs.Standing.{words_of-stand}

-- the characters of a text that holds a line feed

belongs-line_feed : (wordchars : List ℕ) (before after : ℕ)
    → belongs wordchars before line_feed after ≡ false
unfolding belongs is_word_character
belongs-line_feed wordchars before after = refl

first_of-append : (text rest : List ℕ) → first_of (text ++ line_feed ∷ rest) ≡ first_of text
first_of-append [] rest = refl
first_of-append (c ∷ text) rest = refl

-- the character c, before the text
abbrev placed_at : List ℕ → ℕ → ℕ → ℕ → ℕ → Placed
placed_at wordchars byte before c after =
    record { byte = byte; character = c; in_word = belongs wordchars before c after }

placed-append : (wordchars : List ℕ) (byte before next : ℕ) (text rest : List ℕ)
    → next ≡ byte + byte_count text + 1
    → (end : Placed) × (end.in_word ≡ false)
    × (placed wordchars byte before (text ++ line_feed ∷ rest) ≡ placed wordchars byte before text
    ++ end ∷ placed wordchars next line_feed rest)
placed-append wordchars byte before next [] rest at =
    let here : byte + 1 ≡ next = omega (arith, at) in (
      placed_at wordchars byte before line_feed (first_of rest),
      belongs-line_feed wordchars before (first_of rest),
      ap (λ b. placed_at wordchars byte before line_feed (first_of rest)
          ∷ placed wordchars b line_feed rest) here,
    )
placed-append wordchars byte before next (c ∷ text) rest at =
    let more = placed-append wordchars (byte + len_utf8 c) c next text rest
    (omega (arith, at, byte_length-cons c text)) in (
      more.0,
      more.1,
      ap (λ after. placed_at wordchars byte before c after ∷ placed wordchars (byte + len_utf8 c) c
          (text ++ line_feed ∷ rest)) (first_of-append text rest)
          ∙ ap (λ ps. placed_at wordchars byte before c (first_of text) ∷ ps) more.2,
    )

-- the same characters, so many bytes further on
shifted : ℕ → Placed → Placed
shifted by p = record p { byte = by + p.byte }

placed-shift : (wordchars : List ℕ) (by byte moved before : ℕ) (text : List ℕ) → moved ≡ by + byte
    → placed wordchars moved before text ≡ map (shifted by) (placed wordchars byte before text)
unfolding shifted
placed-shift wordchars by byte moved before [] at = refl
placed-shift wordchars by byte moved before (c ∷ text) at =
    ap (λ b. placed_at wordchars b before c (first_of text) ∷ placed wordchars (moved + len_utf8 c)
    c text) at
    ∙ ap (λ ps. placed_at wordchars (by + byte) before c (first_of text) ∷ ps)
    (placed-shift wordchars by (byte + len_utf8 c) (moved + len_utf8 c) c text (omega (arith, at)))

-- the words of a text that holds a line feed

-- the same word, so many bytes further on
moved : ℕ → Word → Word
moved by word = record word { from = by + word.from; to = by + word.to }

characters_of-shifted : (by : ℕ) (run : List Placed) → characters_of (map (shifted by) run)
    ≡ characters_of run
unfolding shifted
characters_of-shifted by [] = refl
characters_of-shifted by (p ∷ run) = ap (λ cs. p.character ∷ cs) (characters_of-shifted by run)

-- the word of these characters, which begins at this byte
abbrev word_at : ℕ → ℕ → List ℕ → Word
word_at from to characters = record { from = from; to = to; characters = characters }

word_of-shifted : (by : ℕ) (run : List Placed)
    → word_of (map (shifted by) run) ≡ option_map (moved by) (word_of run)
unfolding shifted moved
word_of-shifted by [] = refl
word_of-shifted by (first ∷ more) =
    let characters = characters_of (first ∷ more) in
    let same : characters_of (map (shifted by) (first ∷ more)) ≡ characters =
    characters_of-shifted by (first ∷ more) in
    let size = byte_count characters in
    let end : by + first.byte + size ≡ by + (first.byte + size) = omega arith in
    ap (λ cs. cond (list_any is_letter_or_digit cs)
    (Some (word_at (by + first.byte) (by + first.byte + byte_count cs) cs)) None) same
    ∙ ap (λ to. cond (list_any is_letter_or_digit characters)
    (Some (word_at (by + first.byte) to characters)) None) end
    ∙ elim (list_any is_letter_or_digit characters) as
    (λ b. cond b (Some (word_at (by + first.byte) (by + (first.byte + size)) characters)) None
    ≡ option_map (moved by)
    (cond b (Some (word_at first.byte (first.byte + size) characters)) None))
    [ true ↦ refl | false ↦ refl ]

cons_option-map : {X Y : Type 0} (f : X → Y) (found : Option X) (xs : List X)
    → cons_option (option_map f found) (map f xs) ≡ map f (cons_option found xs)
cons_option-map f None xs = refl
cons_option-map f (Some x) xs = refl

filter_map-shifted : (by : ℕ) (parts : List (List Placed))
    → filter_map word_of (map (map (shifted by)) parts) ≡ map (moved by) (filter_map word_of parts)
filter_map-shifted by [] = refl
filter_map-shifted by (part ∷ parts) =
    rw (word_of-shifted by part, filter_map-shifted by parts)
    (cons_option-map (moved by) (word_of part) (filter_map word_of parts))

words_of-append : (wordchars text rest : List ℕ) → words_of wordchars (text ++ line_feed ∷ rest)
    ≡ words_of wordchars text ++ map (moved (byte_count text + 1)) (words_of wordchars rest)
unfolding words_of
words_of-append wordchars text rest =
    let by = byte_count text + 1 in
    let front = placed wordchars 0 line_feed text in
    let back = placed wordchars 0 line_feed rest in
    let cut = placed-append wordchars 0 line_feed by text rest (omega arith) in
    ap (λ ps. filter_map word_of (slice_split is_outside ps))
    (cut.2 ∙ ap (λ ps. front ++ cut.0 ∷ ps)
    (placed-shift wordchars by 0 by line_feed rest (omega arith)))
    ∙ ap (filter_map word_of)
    (slice_split-append is_outside front cut.0 (map (shifted by) back) (ap not cut.1))
    ∙ filter_map-append word_of (slice_split is_outside front)
    (slice_split is_outside (map (shifted by) back))
    ∙ ap (λ words. filter_map word_of (slice_split is_outside front) ++ words)
    (ap (filter_map word_of)
    (slice_split-map (shifted by) is_outside is_outside (λ p. unfold shifted in refl) back)
    ∙ filter_map-shifted by (slice_split is_outside back))

-- where the words stand

-- a word of the first paragraph
abbrev pub in_first : ℕ → Word → LocatedWord
in_first number word = located_at number word.from word

abbrev locate : ℕ → List (List ℕ) → Word → LocatedWord
locate number paragraphs word = located_in number paragraphs word.from word

stands-early : (text : List ℕ) (word : Word) → StandsIn text word → word.from ≤ byte_count text
stands-early text word stands =
    let whole = ap byte_count stands.whole
    ∙ byte_length-append stands.front (word.characters ++ stands.back) in
    omega (arith, whole, stands.from)

locate-early : (number : ℕ) (text : List ℕ) (more : List (List ℕ)) (words : List Word)
    → AllByRecursion (StandsIn text) words
    → map (locate number (text ∷ more)) words ≡ map (in_first number) words
locate-early number text more [] each = refl
locate-early number text more (word ∷ words) each =
    ap (λ b. cond b (located_at number word.from word)
    (located_in (number + 1) more (word.from - (byte_count text + 1)) word)
    ∷ map (locate number (text ∷ more)) words)
    (le-leb word.from (byte_count text) (stands-early text word each.0))
    ∙ ap (λ found. in_first number word ∷ found) (locate-early number text more words each.1)

located_at-moved : (number byte by : ℕ) (word : Word) → located_at number byte (moved by word)
    ≡ located_at number byte word
unfolding moved
located_at-moved number byte by word =
    let size : (by + word.to) - (by + word.from) ≡ word.to - word.from = omega arith in
    ap (λ n. record {
      paragraph = number;
      from = byte;
      to = byte + n;
      characters = word.characters;
    }) size

located_in-moved : (number : ℕ) (paragraphs : List (List ℕ)) (byte by : ℕ) (word : Word)
    → located_in number paragraphs byte (moved by word) ≡ located_in number paragraphs byte word
located_in-moved number [] byte by word = located_at-moved number byte by word
located_in-moved number (paragraph ∷ more) byte by word =
    ap (λ found. cond (nat_le byte (byte_count paragraph)) found
    (located_in (number + 1) more (byte - (byte_count paragraph + 1)) (moved by word)))
    (located_at-moved number byte by word)
    ∙ ap (λ found. cond (nat_le byte (byte_count paragraph)) (located_at number byte word) found)
    (located_in-moved (number + 1) more (byte - (byte_count paragraph + 1)) by word)

locate-late : (number by : ℕ) (text : List ℕ) (more : List (List ℕ)) (words : List Word)
    → by ≡ byte_count text + 1
    → map (locate number (text ∷ more)) (map (moved by) words) ≡ map (locate (number + 1) more)
    words
unfolding moved
locate-late number by text more [] at = refl
locate-late number by text more (word ∷ words) at =
    let byte = by + word.from in
    let past : nat_le byte (byte_count text) ≡ false =
    lt-leb byte (byte_count text) (omega (arith, at)) in
    let rest : byte - (byte_count text + 1) ≡ word.from = omega (arith, at) in
    ap (λ b. cond b (located_at number byte (moved by word))
    (located_in (number + 1) more (byte - (byte_count text + 1)) (moved by word))
    ∷ map (locate number (text ∷ more)) (map (moved by) words)) past
    ∙ ap (λ found. found ∷ map (locate number (text ∷ more)) (map (moved by) words))
    (ap (λ b. located_in (number + 1) more b (moved by word)) rest
    ∙ located_in-moved (number + 1) more word.from by word)
    ∙ ap (λ found. locate (number + 1) more word ∷ found) (locate-late number by text more words at)

map-in_paragraph : (number : ℕ) (words : List Word)
    → map (in_paragraph number) (map (in_first 1) words) ≡ map (in_first number) words
map-in_paragraph number [] = refl
map-in_paragraph number (word ∷ words) =
    ap (λ found. in_first number word ∷ found) (map-in_paragraph number words)

-- one paragraph after another, the first with this number

abbrev each_from : (List ℕ → List LocatedWord) → ℕ → List (List ℕ) → List LocatedWord
each_from found number paragraphs =
    flat_map (λ numbered. map (in_paragraph numbered.0) (found numbered.1))
    (enumerate_from number paragraphs)

pub located_words-alone : (wordchars text : List ℕ) → located_words wordchars (text ∷ [])
    ≡ map (in_first 1) (words_of wordchars text)
located_words-alone wordchars text =
    locate-early 1 text [] (words_of wordchars text) (words_of-stand wordchars text)

-- the words of the first paragraph, found in it alone
first-paragraph : (wordchars : List ℕ) (number : ℕ) (text : List ℕ) (more : List (List ℕ))
    → map (locate number (text ∷ more)) (words_of wordchars text) ≡ map (in_paragraph number)
    (located_words wordchars (text ∷ []))
first-paragraph wordchars number text more =
    locate-early number text more (words_of wordchars text) (words_of-stand wordchars text)
    ∙ sym (ap (map (in_paragraph number)) (located_words-alone wordchars text)
    ∙ map-in_paragraph number (words_of wordchars text))

words_of-nil : (wordchars : List ℕ) → words_of wordchars [] ≡ []
unfolding words_of
words_of-nil wordchars = refl

located-from : (wordchars : List ℕ) (number : ℕ) (paragraphs : List (List ℕ))
    → map (locate number paragraphs) (words_of wordchars (joined paragraphs)) ≡ each_from
    (λ text. located_words wordchars (text ∷ [])) number paragraphs
located-from wordchars number [] = ap (map (locate number [])) (words_of-nil wordchars)
located-from wordchars number (text ∷ []) =
    first-paragraph wordchars number text []
    ∙ sym (append-nil (map (in_paragraph number) (located_words wordchars (text ∷ []))))
located-from wordchars number (text ∷ next ∷ more) =
    let by = byte_count text + 1 in
    let later = words_of wordchars (joined (next ∷ more)) in
    ap (map (locate number (text ∷ next ∷ more)))
    (words_of-append wordchars text (joined (next ∷ more)))
    ∙ map-append (locate number (text ∷ next ∷ more)) (words_of wordchars text)
    (map (moved by) later)
    ∙ ap (λ found. found ++ map (locate number (text ∷ next ∷ more)) (map (moved by) later))
    (first-paragraph wordchars number text (next ∷ more))
    ∙ ap (λ found. map (in_paragraph number) (located_words wordchars (text ∷ [])) ++ found)
    (locate-late number by text (next ∷ more) later refl
    ∙ located-from wordchars (number + 1) (next ∷ more))

pub words-local : (wordchars : List ℕ) (paragraphs : List (List ℕ))
    → located_words wordchars paragraphs ≡ one_by_one (λ text. located_words wordchars (text ∷ []))
    paragraphs
words-local wordchars paragraphs = located-from wordchars 1 paragraphs

filter-in_paragraph : (lexicon : Lexicon) (number : ℕ) (words : List LocatedWord)
    → filter (is_unknown lexicon) (map (in_paragraph number) words) ≡ map (in_paragraph number)
    (filter (is_unknown lexicon) words)
filter-in_paragraph lexicon number [] = refl
filter-in_paragraph lexicon number (word ∷ words) =
    let rest = filter-in_paragraph lexicon number words in
    elim (is_unknown lexicon word) as
    (λ b. cond b
    (in_paragraph number word ∷ filter (is_unknown lexicon) (map (in_paragraph number) words))
    (filter (is_unknown lexicon) (map (in_paragraph number) words))
    ≡ map (in_paragraph number)
    (cond b (word ∷ filter (is_unknown lexicon) words) (filter (is_unknown lexicon) words)))
    [ true ↦ ap (λ found. in_paragraph number word ∷ found) rest | false ↦ rest ]

filter-each_from : (lexicon : Lexicon) (found : List ℕ → List LocatedWord) (number : ℕ)
    (paragraphs : List (List ℕ))
    → filter (is_unknown lexicon) (each_from found number paragraphs) ≡ each_from
    (λ text. filter (is_unknown lexicon) (found text)) number paragraphs
filter-each_from lexicon found number [] = refl
filter-each_from lexicon found number (text ∷ paragraphs) =
    filter-append (is_unknown lexicon) (map (in_paragraph number) (found text))
    (each_from found (number + 1) paragraphs)
    ∙ ap (λ words. words ++ filter (is_unknown lexicon) (each_from found (number + 1) paragraphs))
    (filter-in_paragraph lexicon number (found text))
    ∙ ap (λ words. map (in_paragraph number) (filter (is_unknown lexicon) (found text)) ++ words)
    (filter-each_from lexicon found (number + 1) paragraphs)

pub marks-local : (lexicon : Lexicon) (paragraphs : List (List ℕ))
    → marks_of lexicon paragraphs ≡ one_by_one (λ text. marks_of lexicon (text ∷ [])) paragraphs
unfolding marks_of
marks-local lexicon paragraphs =
    ap (filter (is_unknown lexicon)) (words-local lexicon.affixes.wordchars paragraphs)
    ∙ filter-each_from lexicon (λ text. located_words lexicon.affixes.wordchars (text ∷ [])) 1
    paragraphs
