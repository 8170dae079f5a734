-- The marks of a paragraph, word by word.
use Rattle.std.proofs.Common.{◌≡◌, ℕ, zero, suc, ◌+◌, ◌-◌, ◌<◌, ◌≤◌, Bool, true, false, not, cond}
use Rattle.std.proofs.Common.{append_assoc, not-suc-le-zero, List, [], ◌∷◌, ◌++◌, map, filter, drop}
use Rattle.std.proofs.Common.{take, length, length-drop, ⊎_elim, refl, sym, ap, ◌∙◌, arith}
use Rattle.std.proofs.Common.{encode_utf8_all}
use Rattle.std.specs.List.{AllByRecursion}
use Rattle.std.specs.List.{filter_map, slice_split}
use Rattle.std.specs.Str.{chars}
use Rattle.std.proofs.lemmas.Bool.{cases_lt}
use Rattle.std.proofs.lemmas.List.{map-append, drop-drop, length-map, length-take-le}
use Rattle.std.proofs.lemmas.List.{nil_from_length, take_all}
use Rattle.std.proofs.lemmas.List.Filters.{length-filter_both}
use Rattle.std.proofs.lemmas.Str.{chars-nil}
use Rattle.std.proofs.lemmas.List.Elements.{filter-append}
use Rattle.mark_types.specs.spell_types.declared.Lexicon.{Lexicon}
use Rattle.mark_types.specs.spell_types.Yields.{yields}
use Rattle.mark_types.specs.Handed.{mark_of}
use Rattle.mark_types.specs.Words.{Word, words_of, StandsIn, placed, word_of, is_outside}
use Rattle.mark_types.specs.Marks.{LocatedWord, located_at, located_words, is_unknown, marks_of}
use Rattle.mark_types.specs.declared.Mark.{Mark}
use Rattle.word_cutter.specs.Runs.{IsBehind, words_after, words_from}
use Rattle.word_cutter.specs.declared.Rest.{Rest}
use Rattle.paragraph_marks.specs.Paragraphs.{is_marked, mark_at, marks_among, marks_in}

-- a word of a paragraph that stands alone
abbrev alone : Word → LocatedWord
alone word = located_at 1 word.from word

mark-alone : (paragraph : List ℕ) (word : Word) → StandsIn paragraph word
    → mark_at word ≡ mark_of (alone word)
mark-alone paragraph word stands =
    let end : word.to ≡ word.from + (word.to - word.from) = omega (arith, stands.to) in
    ap (λ to. record { from = word.from; to = to; word = encode_utf8_all word.characters }) end

among-alone : (lexicon : Lexicon) (paragraph : List ℕ) (words : List Word)
    → AllByRecursion (StandsIn paragraph) words
    → marks_among lexicon words ≡ map mark_of (filter (is_unknown lexicon) (map alone words))
among-alone lexicon paragraph [] each = refl
among-alone lexicon paragraph (word ∷ words) each =
    let rest = among-alone lexicon paragraph words each.1 in
    elim (yields lexicon word.characters) as
    (λ b. map mark_at
    (cond (not b) (word ∷ filter (is_marked lexicon) words) (filter (is_marked lexicon) words))
    ≡ map mark_of
    (cond (not b) (alone word ∷ filter (is_unknown lexicon) (map alone words))
    (filter (is_unknown lexicon) (map alone words)))) [
      | true ↦ rest
      | false ↦ ap (λ mark. mark ∷ marks_among lexicon words) (mark-alone paragraph word each.0)
          ∙ ap (λ marks. mark_of (alone word) ∷ marks) rest
    ]

-- the marks among the words of a paragraph are the paragraph's
pub marks-among-words : (lexicon : Lexicon) (paragraph : List ℕ)
    → AllByRecursion (StandsIn paragraph) (words_of lexicon.affixes.wordchars paragraph)
    → located_words lexicon.affixes.wordchars (paragraph ∷ [])
    ≡ map alone (words_of lexicon.affixes.wordchars paragraph)
    → marks_among lexicon (words_of lexicon.affixes.wordchars paragraph)
    ≡ marks_in lexicon paragraph
unfolding marks_of marks_in
marks-among-words lexicon paragraph each where_they_are =
    among-alone lexicon paragraph (words_of lexicon.affixes.wordchars paragraph) each
    ∙ ap (λ located. map mark_of (filter (is_unknown lexicon) located)) (sym where_they_are)

-- the marks among a word and others
pub among-next : (lexicon : Lexicon) (word : Word) (words : List Word)
    → marks_among lexicon (word ∷ words) ≡ cond (yields lexicon word.characters) []
    (mark_at word ∷ []) ++ marks_among lexicon words
among-next lexicon word words =
    elim (yields lexicon word.characters) as
    (λ b. map mark_at
    (cond (not b) (word ∷ filter (is_marked lexicon) words) (filter (is_marked lexicon) words))
    ≡ cond b [] (mark_at word ∷ []) ++ marks_among lexicon words) [ true ↦ refl | false ↦ refl ]

-- the marks among the words of two lists are those of each
pub among-append : (lexicon : Lexicon) (front back : List Word)
    → marks_among lexicon (front ++ back) ≡ marks_among lexicon front ++ marks_among lexicon back
among-append lexicon front back = ap (map mark_at) (filter-append (is_marked lexicon) front back)
    ∙ map-append mark_at (filter (is_marked lexicon) front) (filter (is_marked lexicon) back)

drop-next : (count : ℕ) (word : Word) (words : List Word) → 0 < count
    → drop (count - 1) words ≡ drop count (word ∷ words)
drop-next zero word words some = absurd (not-suc-le-zero some)
drop-next (suc n) word words some = let e : suc n - 1 ≡ n = omega arith in rw e refl

take-next : (count : ℕ) (word : Word) (words : List Word) → 0 < count
    → word ∷ take (count - 1) words ≡ take count (word ∷ words)
take-next zero word words some = absurd (not-suc-le-zero some)
take-next (suc n) word words some = let e : suc n - 1 ≡ n = omega arith in rw e refl

-- of so many words one is passed
pub left-step : (count : ℕ) (word : Word) (rest all asked : List Word) → 0 < count
    → all ≡ word ∷ rest → drop count all ≡ asked → drop (count - 1) rest ≡ asked
left-step count word rest all asked some first is =
    drop-next count word rest some ∙ ap (drop count) (sym first) ∙ is

-- and its mark, if it has one, stands before those among the others
pub marks-step : (lexicon : Lexicon) (count : ℕ) (word : Word) (rest all : List Word)
    (is_known : Bool) (before now whole : List Mark)
    → 0 < count → all ≡ word ∷ rest → is_known ≡ yields lexicon word.characters
    → now ≡ before ++ cond is_known [] (mark_at word ∷ [])
    → before ++ marks_among lexicon (take count all) ≡ whole
    → now ++ marks_among lexicon (take (count - 1) rest) ≡ whole
marks-step lexicon count word rest all is_known before now whole some first known added is =
    let later = marks_among lexicon (take (count - 1) rest) in
    ap (λ marks. marks ++ later) added
    ∙ append_assoc before (cond is_known [] (mark_at word ∷ [])) later
    ∙ ap (λ b. before ++ (cond b [] (mark_at word ∷ []) ++ later)) known
    ∙ ap (λ marks. before ++ marks)
    (sym (among-next lexicon word (take (count - 1) rest))
    ∙ ap (marks_among lexicon) (take-next count word rest some ∙ ap (take count) (sym first)))
    ∙ is

-- and it is counted
pub count-step : (words count : ℕ) (word : Word) (rest all : List Word) (whole : ℕ) → 0 < count
    → count ≤ words → all ≡ word ∷ rest
    → (words - count) + length (take count all) ≡ whole
    → (words - (count - 1)) + length (take (count - 1) rest) ≡ whole
count-step words count word rest all whole some within first is =
    let one : length (take count all) ≡ suc (length (take (count - 1) rest)) =
    ap length (ap (take count) first ∙ sym (take-next count word rest some)) in
    omega arith

none-left : (wordchars : List ℕ) (left : Rest) → length left.text.now ≡ 0
    → words_after wordchars left ≡ []
unfolding words_after words_from
none-left wordchars left none =
    let empty : left.text.now ≡ [] = nil_from_length left.text.now none in
    ap (λ text.
    filter_map word_of (slice_split is_outside (placed wordchars left.at left.before text)))
    (ap chars empty ∙ chars-nil)

all-judged : (wordchars : List ℕ) (words count size : ℕ) (all : List Word) (left : Rest)
    → words_after wordchars left ≡ drop words all → count ≡ length (take words all)
    → count ≤ left.at → left.at + length left.text.now ≡ size → size ≤ words → length all ≤ words
all-judged wordchars words count size all left behind counted few whole small =
    ⊎_elim (λ many. by many) (λ within. within) (cases_lt words (length all))
  where
    by : words < length all → length all ≤ words
    by many =
        let taken : length (take words all) ≡ words =
        length-take-le words all (omega (arith, many)) in
        let none : length left.text.now ≡ 0 = omega arith in
        let nothing : length (drop words all) ≡ 0 =
        ap length (sym behind ∙ none-left wordchars left none) in
        let dropped = length-drop words all in
        omega arith

-- a paragraph has no more marks than words
marks-few : (lexicon : Lexicon) (words : List Word)
    → length (marks_among lexicon words) ≤ length words
marks-few lexicon words =
    let marked = length-map (filter (is_marked lexicon) words) mark_at in
    let fewer = length-filter_both (is_marked lexicon) (λ word. not (is_marked lexicon word))
    (λ word. refl) words in
    omega arith

-- the words of a text are as many as were counted, and these are its marks
pub record AreAllOf (lexicon : Lexicon) (text : List ℕ) (count : ℕ) (given : List Mark) : Type
    0 where
  pub marks : given ≡ marks_in lexicon (chars text)
  pub words : count ≡ length (words_of lexicon.affixes.wordchars (chars text))
  pub fewer : length given ≤ count

-- where no more words may be judged than the bytes of a paragraph, all of them are
pub all-of : (lexicon : Lexicon) (text : List ℕ) (words count : ℕ) (rest left : Rest)
    (none given marks : List Mark)
    → words_after lexicon.affixes.wordchars rest ≡ words_of lexicon.affixes.wordchars (chars text)
    → rest.text.now ≡ text → rest.at ≡ 0 → length text < words + 1
    → words_after lexicon.affixes.wordchars left
    ≡ drop words (words_after lexicon.affixes.wordchars rest)
    → count ≡ length (take words (words_after lexicon.affixes.wordchars rest))
    → rest.at + count ≤ left.at → IsBehind rest left
    → none ≡ []
    → given ≡ none ++ marks_among lexicon (take words (words_after lexicon.affixes.wordchars rest))
    → marks ≡ given
    → AllByRecursion (StandsIn (chars text)) (words_of lexicon.affixes.wordchars (chars text))
    → located_words lexicon.affixes.wordchars (chars text ∷ [])
    ≡ map alone (words_of lexicon.affixes.wordchars (chars text))
    → AreAllOf lexicon text count marks
all-of lexicon text words count rest left none given marks is whole at small behind counted few
    is_behind nothing judged same each where_they_are =
    let all = words_of lexicon.affixes.wordchars (chars text) in
    let same_end = is_behind.same_end in
    let size = ap length whole in
    let within =
    all-judged lexicon.affixes.wordchars words count (length text)
    (words_after lexicon.affixes.wordchars rest) left behind counted (omega arith) (omega arith)
    (omega arith) in
    let taken : take words (words_after lexicon.affixes.wordchars rest) ≡ all =
    take_all words (words_after lexicon.affixes.wordchars rest) within ∙ is in
    let found : marks ≡ marks_among lexicon all =
    same ∙ judged
    ∙ ap (λ before. before
    ++ marks_among lexicon (take words (words_after lexicon.affixes.wordchars rest))) nothing
    ∙ ap (marks_among lexicon) taken in
    let number : count ≡ length all = counted ∙ ap length taken in
    let length_found = ap length found in
    let most = marks-few lexicon all in
    record {
      marks = found ∙ marks-among-words lexicon (chars text) each where_they_are;
      words = number;
      fewer = omega (arith, length_found, most, number);
    }

-- what is left behind what was left
pub behind-both : (rest left last : Rest) → IsBehind rest left → IsBehind left last
    → IsBehind rest last
behind-both rest left last first second =
    let first_later = first.later in
    let second_later = second.later in
    let first_end = first.same_end in
    let second_end = second.same_end in
    let place : (left.at - rest.at) + (last.at - left.at) ≡ last.at - rest.at = omega arith in
    record {
      later = omega arith;
      same_end = omega arith;
      behind = second.behind ∙ ap (drop (last.at - left.at)) first.behind
          ∙ drop-drop (last.at - left.at) (left.at - rest.at) rest.text.now
          ∙ ap (λ n. drop n rest.text.now) place;
      utf8 = λ is_text. second.utf8 (first.utf8 is_text);
    }

pub behind-none : (rest : Rest) → IsBehind rest rest
behind-none rest =
    let place : rest.at - rest.at ≡ 0 = omega arith in
    record {
      later = omega arith;
      same_end = refl;
      behind = rw place refl;
      utf8 = λ is_text. is_text;
    }
