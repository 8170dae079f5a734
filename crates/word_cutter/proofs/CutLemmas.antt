-- Cutting word by word finds the words: it is their definition.
use Rattle.std.proofs.Common.{◌≡◌, ℕ, ◌+◌, ◌-◌, ◌≤◌, Bool, true, false, cond, ◌&&◌, ◌||◌, subst}
use Rattle.std.proofs.Common.{List, [], ◌∷◌, ◌++◌, length, Option, Some, None, refl, sym, ap, ◌∙◌}
use Rattle.std.proofs.Common.{arith, append_assoc, length-append, encode_utf8, drop}
use Rattle.std.specs.List.{list_any, filter_map, cons_option, slice_split, AllByRecursion}
use Rattle.std.specs.Char.{len_utf8}
use Rattle.std.specs.Str.{IsUtf8, chars}
use Rattle.std.proofs.lemmas.List.{map-append, append-nil, drop-drop}
use Rattle.std.proofs.lemmas.List.Splits.{slice_split_at, slice_split_none}
use Rattle.std.proofs.lemmas.List.Elements.{All-from_recursion}
use Rattle.std.proofs.lemmas.Str.{len_utf8_bounds, length-encode, IsUtf8-past_char}
use Rattle.std.proofs.Math.Seq.{drop-append_seam}
use Rattle.mark_types.specs.lists.Laws.{each-append, byte_length-cons, byte_length-append}
use Rattle.mark_types.specs.Characters.{is_letter_or_digit}
use Rattle.mark_types.specs.Words.{Word, Placed, placed, belongs, first_of, characters_of}
use Rattle.mark_types.specs.Words.{byte_count, word_of, is_outside}
use Rattle.word_cutter.specs.Runs.{LeavesLess, has_some, words_from, words_after, words_from_found}
use Rattle.word_cutter.specs.declared.Rest.{Rest}
use Rattle.word_cutter.specs.declared.FoundWord.{FoundWord}

abbrev BeginsAt : ℕ → List Placed → Type 0
BeginsAt from [] = Unit {0}
BeginsAt from (first ∷ more) = first.byte ≡ from

-- the run of characters of words that begins at this byte and has these characters
pub record IsRun (from : ℕ) (characters : List ℕ) (run : List Placed) : Type 0 where
  pub begins : BeginsAt from run
  pub characters_are : characters ≡ characters_of run
  pub inside : AllByRecursion (λ p. is_outside p ≡ false) run

-- the word that these characters are from this byte on, if one of them is a letter or a digit
abbrev word_at : ℕ → List ℕ → Option Word
word_at from characters =
    cond (list_any is_letter_or_digit characters)
    (Some (record { from = from; to = from + byte_count characters; characters = characters }))
    None

word-of-run : (from : ℕ) (characters : List ℕ) (run : List Placed) → IsRun from characters run
    → word_of run ≡ word_at from characters
word-of-run from characters [] is = rw (is.characters_are) refl
word-of-run from characters (first ∷ more) is = rw (is.characters_are, is.begins) refl

-- a run with a character more
longer-run : (from at c : ℕ) (characters : List ℕ) (run : List Placed) → IsRun from characters run
    → at ≡ from + byte_count characters
    → IsRun from (characters ++ c ∷ [])
    (run ++ record { byte = at; character = c; in_word = true } ∷ [])
longer-run from at c characters run is ends =
    let last : Placed = record { byte = at; character = c; in_word = true } in
    record {
      begins = longer-begins run is.begins is.characters_are;
      characters_are = ap (λ cs. cs ++ c ∷ []) is.characters_are
          ∙ sym (map-append (λ p. p.character) run (last ∷ []));
      inside = each-append (λ p. is_outside p ≡ false) run (last ∷ []) is.inside (refl, tt);
    }
  where
    longer-begins : (run : List Placed) → BeginsAt from run → characters ≡ characters_of run
        → BeginsAt from (run ++ record { byte = at; character = c; in_word = true } ∷ [])
    longer-begins [] begins none = let empty = ap byte_count none in omega arith
    longer-begins (first ∷ more) begins none = begins

-- the words of a run and of the text behind it
abbrev pub words_behind : List ℕ → List Placed → ℕ → ℕ → List ℕ → List Word
words_behind wordchars run at before text =
    filter_map word_of (slice_split is_outside (run ++ placed wordchars at before text))

words-on : (wordchars : List ℕ) (run : List Placed) (at before c : ℕ) (text : List ℕ)
    → belongs wordchars before c (first_of text) ≡ true
    → words_behind wordchars (run ++ record { byte = at; character = c; in_word = true } ∷ [])
    (at + len_utf8 c) c text ≡ words_behind wordchars run at before (c ∷ text)
words-on wordchars run at before c text inside =
    ap (λ ps. filter_map word_of (slice_split is_outside ps))
    (append_assoc run (record { byte = at; character = c; in_word = true } ∷ [])
    (placed wordchars (at + len_utf8 c) c text)
    ∙ ap (λ b. run ++ record { byte = at; character = c; in_word = b }
    ∷ placed wordchars (at + len_utf8 c) c text) (sym inside))

-- where a run ends, its word comes first, if it is one
words-over : (wordchars : List ℕ) (from : ℕ) (characters : List ℕ) (run : List Placed)
    (at before c : ℕ) (text : List ℕ) → IsRun from characters run
    → belongs wordchars before c (first_of text) ≡ false
    → cons_option (word_at from characters) (words_behind wordchars [] (at + len_utf8 c) c text)
    ≡ words_behind wordchars run at before (c ∷ text)
words-over wordchars from characters run at before c text is outside =
    let rest = placed wordchars (at + len_utf8 c) c text in
    ap (λ word. cons_option word (words_behind wordchars [] (at + len_utf8 c) c text))
    (sym (word-of-run from characters run is))
    ∙ sym (ap (filter_map word_of)
    (slice_split_at is_outside run (record { byte = at; character = c; in_word = false }) rest
    (All-from_recursion (λ p. is_outside p ≡ false) run is.inside) refl))
    ∙ ap (λ b. filter_map word_of
    (slice_split is_outside (run ++ record { byte = at; character = c; in_word = b } ∷ rest)))
    (sym outside)

words-end : (wordchars : List ℕ) (from : ℕ) (characters : List ℕ) (run : List Placed)
    (at before : ℕ) → IsRun from characters run
    → cons_option (word_at from characters) [] ≡ words_behind wordchars run at before []
words-end wordchars from characters run at before is =
    ap (λ word. cons_option word []) (sym (word-of-run from characters run is))
    ∙ sym (ap (filter_map word_of) (ap (slice_split is_outside) (append-nil run)
    ∙ slice_split_none is_outside run
    (All-from_recursion (λ p. is_outside p ≡ false) run is.inside)))

-- the first character of a text, and what is behind it
pub record IsFirst (text : List ℕ) (c : ℕ) (behind : List ℕ) : Type 0 where
  pub characters : chars text ≡ c ∷ chars behind
  pub whole : text ≡ encode_utf8 c ++ behind

pub first-size : (text behind : List ℕ) (c : ℕ) → IsFirst text c behind
    → length text ≡ len_utf8 c + length behind
first-size text behind c first =
    ap length first.whole ∙ length-append (encode_utf8 c) behind
    ∙ ap (λ n. n + length behind) (length-encode c)

pub first-back : (text behind : List ℕ) (c : ℕ) → IsFirst text c behind
    → behind ≡ drop (len_utf8 c) text
first-back text behind c first =
    sym (drop-append_seam (encode_utf8 c) behind)
    ∙ ap (λ n. drop n (encode_utf8 c ++ behind)) (length-encode c)
    ∙ ap (drop (len_utf8 c)) (sym first.whole)

-- What the walk over what is left keeps: the words from here on, behind the run, are all. The run
-- begins at the byte `from`.
pub record Walks (wordchars : List ℕ) (rest : Rest) (text : List ℕ) (at before from : ℕ)
    (is_word : Bool) (characters : List ℕ) : Type 0 where
  pub run : List Placed
  pub is_run : IsRun from characters run
  pub words : words_behind wordchars run at before (chars text) ≡ words_after wordchars rest
  pub some : is_word ≡ list_any is_letter_or_digit characters
  pub ends : at ≡ from + byte_count characters
  pub later : rest.at ≤ from
  pub size : at + length text ≡ rest.at + length rest.text.now
  pub back : text ≡ drop (at - rest.at) rest.text.now
  pub utf8 : IsUtf8 rest.text.now → IsUtf8 text

pub walk-begins : (wordchars : List ℕ) (rest : Rest) (characters : List ℕ) → characters ≡ []
    → Walks wordchars rest rest.text.now rest.at rest.before rest.at false characters
unfolding words_after words_from
walk-begins wordchars rest characters none =
    let empty = ap byte_count none in
    record {
      run = [];
      is_run = record { begins = tt; characters_are = none; inside = tt };
      words = refl;
      some = sym (ap (list_any is_letter_or_digit) none);
      ends = omega arith;
      later = omega arith;
      size = refl;
      back = let here : rest.at - rest.at ≡ 0 = omega arith in rw here refl;
      utf8 = λ is_text. is_text;
    }

-- what is left behind a character is what is left of the paragraph there
pub back-on : (rest : Rest) (text behind : List ℕ) (at c : ℕ) → rest.at ≤ at
    → text ≡ drop (at - rest.at) rest.text.now → behind ≡ drop (len_utf8 c) text
    → behind ≡ drop (at + len_utf8 c - rest.at) rest.text.now
back-on rest text behind at c later here first =
    let place : (at - rest.at) + len_utf8 c ≡ at + len_utf8 c - rest.at = omega arith in
    first ∙ ap (drop (len_utf8 c)) here ∙ drop-drop (len_utf8 c) (at - rest.at) rest.text.now
    ∙ ap (λ n. drop n rest.text.now) place

and-true : (b : Bool) → (b && true) ≡ b
and-true true = refl
and-true false = refl

and-both : (a b : Bool) → (a && b) ≡ true → (a ≡ true) × (b ≡ true)
and-both true b both = (refl, both)
and-both false b both = absurd cc

list_any-push : (xs : List ℕ) (x : ℕ) → list_any is_letter_or_digit (xs ++ x ∷ [])
    ≡ (list_any is_letter_or_digit xs || is_letter_or_digit x)
list_any-push [] x =
    elim (is_letter_or_digit x) as (λ b. (b || false) ≡ b) [ true ↦ refl | false ↦ refl ]
list_any-push (y ∷ xs) x =
    elim (is_letter_or_digit y) as
    (λ b. (b || list_any is_letter_or_digit (xs ++ x ∷ []))
    ≡ ((b || list_any is_letter_or_digit xs) || is_letter_or_digit x)) [
      | true ↦ refl
      | false ↦ list_any-push xs x
    ]

-- a character that belongs to the run
pub walk-on : (wordchars : List ℕ) (rest : Rest) (text behind : List ℕ) (at before from c : ℕ)
    (is_word now_word : Bool) (characters longer : List ℕ)
    → Walks wordchars rest text at before from is_word characters → IsFirst text c behind
    → belongs wordchars before c (first_of (chars behind)) ≡ true
    → now_word ≡ (is_word || is_letter_or_digit c) → longer ≡ characters ++ c ∷ []
    → Walks wordchars rest behind (at + len_utf8 c) c from now_word longer
walk-on wordchars rest text behind at before from c is_word now_word characters longer walks first
    inside one_more pushed =
    let bytes = ap byte_count pushed in
    let sum = byte_length-append characters (c ∷ []) in
    let one = byte_length-cons c [] in
    let ends = walks.ends in
    let size = walks.size in
    let width = first-size text behind c first in
    record {
      run = walks.run ++ record { byte = at; character = c; in_word = true } ∷ [];
      is_run = subst
          (λ cs. IsRun from cs
          (walks.run ++ record { byte = at; character = c; in_word = true } ∷ [])) (sym pushed)
          (longer-run from at c characters walks.run walks.is_run walks.ends);
      words = words-on wordchars walks.run at before c (chars behind) inside
          ∙ ap (words_behind wordchars walks.run at before) (sym first.characters) ∙ walks.words;
      some = one_more ∙ ap (λ b. b || is_letter_or_digit c) walks.some
          ∙ sym (list_any-push characters c) ∙ ap (list_any is_letter_or_digit) (sym pushed);
      ends = omega arith;
      later = walks.later;
      size = omega arith;
      back = back-on rest text behind at c (omega arith) walks.back
          (first-back text behind c first);
      utf8 = λ is_text. IsUtf8-past_char text behind c (walks.utf8 is_text) first.whole;
    }

-- a character outside ends the run
abbrev AreEnded : List ℕ → Rest → List ℕ → ℕ → ℕ → ℕ → List ℕ → Type 0
AreEnded wordchars rest behind at c from characters =
    cons_option (word_at from characters)
    (words_behind wordchars [] (at + len_utf8 c) c (chars behind)) ≡ words_after wordchars rest

run-ends : (wordchars : List ℕ) (rest : Rest) (text behind : List ℕ) (at before from c : ℕ)
    (is_word : Bool) (characters : List ℕ)
    → Walks wordchars rest text at before from is_word characters → IsFirst text c behind
    → belongs wordchars before c (first_of (chars behind)) ≡ false
    → AreEnded wordchars rest behind at c from characters
run-ends wordchars rest text behind at before from c is_word characters walks first outside =
    words-over wordchars from characters walks.run at before c (chars behind) walks.is_run outside
    ∙ ap (words_behind wordchars walks.run at before) (sym first.characters)
    ∙ walks.words

no-word : (from : ℕ) (characters : List ℕ) → false ≡ list_any is_letter_or_digit characters
    → word_at from characters ≡ None
no-word from characters none = rw (← none) refl

one-word : (from : ℕ) (characters : List ℕ) → true ≡ list_any is_letter_or_digit characters
    → word_at from characters
    ≡ Some (record { from = from; to = from + byte_count characters; characters = characters })
one-word from characters some = rw (← some) refl

-- a character outside, behind no word
pub walk-over : (wordchars : List ℕ) (rest : Rest) (text behind : List ℕ) (at before from c : ℕ)
    (is_word : Bool) (characters none : List ℕ)
    → Walks wordchars rest text at before from is_word characters → IsFirst text c behind
    → belongs wordchars before c (first_of (chars behind)) ≡ false
    → is_word ≡ false → none ≡ []
    → Walks wordchars rest behind (at + len_utf8 c) c (at + len_utf8 c) is_word none
walk-over wordchars rest text behind at before from c is_word characters none walks first outside
    none_yet empty =
    let bytes = ap byte_count empty in
    let ends = walks.ends in
    let later = walks.later in
    let size = walks.size in
    let width = first-size text behind c first in
    record {
      run = [];
      is_run = record { begins = tt; characters_are = empty; inside = tt };
      words = ap (λ word.
          cons_option word (words_behind wordchars [] (at + len_utf8 c) c (chars behind)))
          (sym (no-word from characters (sym none_yet ∙ walks.some)))
          ∙ run-ends wordchars rest text behind at before from c is_word characters walks first
          outside;
      some = none_yet ∙ sym (ap (list_any is_letter_or_digit) empty);
      ends = omega arith;
      later = omega arith;
      size = omega arith;
      back = back-on rest text behind at c (omega arith) walks.back
          (first-back text behind c first);
      utf8 = λ is_text. IsUtf8-past_char text behind c (walks.utf8 is_text) first.whole;
    }

-- what was found: the run, and this is left behind it
pub record IsFound (from to : ℕ) (behind : List ℕ) (at before : ℕ) (found : FoundWord) : Type 0 where
  pub from_is : found.from ≡ from
  pub to_is : found.to ≡ to
  pub text_is : found.rest.text.now ≡ behind
  pub at_is : found.rest.at ≡ at
  pub before_is : found.rest.before ≡ before

words-found : (wordchars : List ℕ) (from to : ℕ) (characters behind : List ℕ) (at before : ℕ)
    (found : FoundWord) → IsFound from to behind at before found
    → to ≡ from + byte_count characters → true ≡ list_any is_letter_or_digit characters
    → words_from_found wordchars characters (Some found) ≡ cons_option (word_at from characters)
    (words_behind wordchars [] at before (chars behind))
unfolding words_after words_from
words-found wordchars from to characters behind at before found is ends some =
    rw (
      is.from_is,
      is.to_is,
      is.text_is,
      is.at_is,
      is.before_is,
      ends,
      one-word from characters some,
    ) refl

-- a word behind which a character stands that is outside
pub walk-found : (wordchars : List ℕ) (rest : Rest) (text behind : List ℕ) (at before from c : ℕ)
    (is_word : Bool) (characters : List ℕ) (found : FoundWord)
    → Walks wordchars rest text at before from is_word characters → IsFirst text c behind
    → belongs wordchars before c (first_of (chars behind)) ≡ false
    → is_word ≡ true → IsFound from at behind (at + len_utf8 c) c found
    → words_from_found wordchars characters (Some found) ≡ words_after wordchars rest
walk-found wordchars rest text behind at before from c is_word characters found walks first outside
    is_one is =
    words-found wordchars from at characters behind (at + len_utf8 c) c found is walks.ends
    (sym is_one ∙ walks.some)
    ∙ run-ends wordchars rest text behind at before from c is_word characters walks first outside

-- a word at the end
pub walk-ends : (wordchars : List ℕ) (rest : Rest) (text : List ℕ) (at before from : ℕ)
    (is_word : Bool) (characters : List ℕ) (found : FoundWord)
    → Walks wordchars rest text at before from is_word characters → chars text ≡ [] → is_word ≡ true
    → IsFound from at text at before found
    → words_from_found wordchars characters (Some found) ≡ words_after wordchars rest
walk-ends wordchars rest text at before from is_word characters found walks nothing is_one is =
    words-found wordchars from at characters text at before found is walks.ends
    (sym is_one ∙ walks.some)
    ∙ ap (λ left. cons_option (word_at from characters) (words_behind wordchars [] at before left))
    nothing
    ∙ words-end wordchars from characters walks.run at before walks.is_run
    ∙ ap (words_behind wordchars walks.run at before) (sym nothing)
    ∙ walks.words

-- no word at the end
pub walk-stops : (wordchars : List ℕ) (rest : Rest) (text : List ℕ) (at before from : ℕ)
    (is_word : Bool) (characters : List ℕ)
    → Walks wordchars rest text at before from is_word characters → chars text ≡ []
    → is_word ≡ false
    → [] ≡ words_after wordchars rest
walk-stops wordchars rest text at before from is_word characters walks nothing none_yet =
    ap (λ word. cons_option word []) (sym (no-word from characters (sym none_yet ∙ walks.some)))
    ∙ words-end wordchars from characters walks.run at before walks.is_run
    ∙ ap (words_behind wordchars walks.run at before) (sym nothing)
    ∙ walks.words

-- a word has a byte
some-bytes : (characters : List ℕ) → true ≡ list_any is_letter_or_digit characters
    → 1 ≤ byte_count characters
some-bytes [] some = absurd cc
some-bytes (c ∷ characters) some =
    let bytes = byte_length-cons c characters in
    let width = (len_utf8_bounds c).0 in
    omega arith

-- a word that is found lies behind the start of what was left, and what is left behind it is the
-- rest of that
pub walk-leaves-less : (wordchars : List ℕ) (rest : Rest) (text behind : List ℕ)
    (at before from now after : ℕ) (is_word : Bool) (characters : List ℕ) (found : FoundWord)
    → Walks wordchars rest text at before from is_word characters → is_word ≡ true
    → IsFound from at behind now after found
    → at ≤ now → now + length behind ≡ at + length text
    → behind ≡ drop (now - rest.at) rest.text.now → (IsUtf8 rest.text.now → IsUtf8 behind)
    → LeavesLess rest found
walk-leaves-less wordchars rest text behind at before from now after is_word characters found walks
    is_one is further same left utf8 =
    let from_is = is.from_is in
    let to_is = is.to_is in
    let at_is = is.at_is in
    let some = some-bytes characters (sym is_one ∙ walks.some) in
    let ends = walks.ends in
    let later = walks.later in
    let size = walks.size in
    let far = ap length is.text_is in
    record {
      ordered = omega arith;
      later = omega arith;
      behind = record {
        later = omega arith;
        same_end = omega arith;
        behind = is.text_is ∙ left ∙ ap (λ place. drop (place - rest.at) rest.text.now) (sym at_is);
        utf8 = λ is_text. subst IsUtf8 (sym is.text_is) (utf8 is_text);
      };
    }

-- a run that holds a letter or a digit is a word, or the front of one
some-words : (wordchars : List ℕ) (from : ℕ) (characters : List ℕ) (run : List Placed)
    (at before : ℕ) (text : List ℕ) → IsRun from characters run
    → at ≡ from + byte_count characters → true ≡ list_any is_letter_or_digit characters
    → has_some (words_behind wordchars run at before text) ≡ true
some-words wordchars from characters run at before [] is ends some =
    sym (ap has_some (words-end wordchars from characters run at before is))
    ∙ ap (λ word. has_some (cons_option word [])) (one-word from characters some)
some-words wordchars from characters run at before (c ∷ text) is ends some =
    (elim (belongs wordchars before c (first_of text)) as
    (λ b. belongs wordchars before c (first_of text) ≡ b
    → has_some (words_behind wordchars run at before (c ∷ text)) ≡ true) [
      | true ↦ λ inside.
          let sum = byte_length-append characters (c ∷ []) in
          let one = byte_length-cons c [] in
          sym (ap has_some (words-on wordchars run at before c text inside))
          ∙ some-words wordchars from (characters ++ c ∷ [])
          (run ++ record { byte = at; character = c; in_word = true } ∷ []) (at + len_utf8 c) c
          text
          (longer-run from at c characters run is ends) (omega arith)
          (sym (list_any-push characters c ∙ ap (λ b. b || is_letter_or_digit c) (sym some)))
      | false ↦ λ outside.
          sym (ap has_some (words-over wordchars from characters run at before c text is outside))
          ∙ ap (λ word.
          has_some (cons_option word (words_behind wordchars [] (at + len_utf8 c) c text)))
          (one-word from characters some)
    ]) refl

-- What the search for a word keeps: no word is found yet, and no letter or digit in the run.
pub record Seeks (wordchars : List ℕ) (rest : Rest) (text : List ℕ) (before : ℕ) : Type 0 where
  pub at : ℕ
  pub from : ℕ
  pub characters : List ℕ
  pub walks : Walks wordchars rest text at before from false characters

pub seek-begins : (wordchars : List ℕ) (rest : Rest)
    → Seeks wordchars rest rest.text.now rest.before
seek-begins wordchars rest =
    record {
      at = rest.at;
      from = rest.at;
      characters = [];
      walks = walk-begins wordchars rest [] refl;
    }

-- a character that is no letter or digit of a word
pub seek-on : (wordchars : List ℕ) (rest : Rest) (text behind : List ℕ) (before c : ℕ)
    → Seeks wordchars rest text before → IsFirst text c behind
    → (is_letter_or_digit c && belongs wordchars before c (first_of (chars behind))) ≡ false
    → Seeks wordchars rest behind c
seek-on wordchars rest text behind before c seeks first none =
    by_place (belongs wordchars before c (first_of (chars behind))) refl
  where
    by_place : (inside : Bool) → belongs wordchars before c (first_of (chars behind)) ≡ inside
        → Seeks wordchars rest behind c
    by_place true inside =
        let other : is_letter_or_digit c ≡ false = sym (and-true (is_letter_or_digit c))
        ∙ ap (λ b. is_letter_or_digit c && b) (sym inside) ∙ none in
        record {
          at = seeks.at + len_utf8 c;
          from = seeks.from;
          characters = seeks.characters ++ c ∷ [];
          walks = walk-on wordchars rest text behind seeks.at before seeks.from c false false
              seeks.characters (seeks.characters ++ c ∷ [])
              seeks.walks first inside (sym other) refl;
        }
    by_place false outside = record {
      at = seeks.at + len_utf8 c;
      from = seeks.at + len_utf8 c;
      characters = [];
      walks = walk-over wordchars rest text behind seeks.at before seeks.from c false
          seeks.characters [] seeks.walks first outside refl refl;
    }

-- a letter or a digit of a word
pub seek-found : (wordchars : List ℕ) (rest : Rest) (text behind : List ℕ) (before c : ℕ)
    → Seeks wordchars rest text before → IsFirst text c behind
    → (is_letter_or_digit c && belongs wordchars before c (first_of (chars behind))) ≡ true
    → has_some (words_after wordchars rest) ≡ true
seek-found wordchars rest text behind before c seeks first found =
    let both = and-both (is_letter_or_digit c)
    (belongs wordchars before c (first_of (chars behind))) found in
    let walks =
    walk-on wordchars rest text behind seeks.at before seeks.from c false true
    seeks.characters (seeks.characters ++ c ∷ [])
    seeks.walks first both.1 (sym both.0) refl in
    sym (ap has_some walks.words)
    ∙ some-words wordchars seeks.from (seeks.characters ++ c ∷ []) walks.run (seeks.at + len_utf8 c)
    c (chars behind) walks.is_run walks.ends walks.some

-- no word at the end
pub seek-ends : (wordchars : List ℕ) (rest : Rest) (text : List ℕ) (before : ℕ)
    → Seeks wordchars rest text before → chars text ≡ []
    → has_some (words_after wordchars rest) ≡ false
seek-ends wordchars rest text before seeks nothing =
    sym (ap has_some
    (walk-stops wordchars rest text seeks.at before seeks.from false seeks.characters
    seeks.walks nothing refl))
