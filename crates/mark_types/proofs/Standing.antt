-- Each word of a text stands where it says.
use Rattle.std.proofs.Common.{◌≡◌, ℕ, ◌+◌, true, false, cond, List, [], ◌∷◌, ◌++◌, length, Some}
use Rattle.std.proofs.Common.{None, refl, sym, ap, ◌∙◌, arith, length-append, encode_utf8_all}
use Rattle.std.proofs.Common.{zero-add}
use Rattle.std.specs.List.{list_any, filter_map, cons_option, slice_split, AllByRecursion}
use Rattle.std.specs.Char.{len_utf8}
use Rattle.std.proofs.lemmas.List.{map-append}
use Rattle.std.proofs.lemmas.Str.{encodes-append, length-encode}
use Rattle.mark_types.specs.Characters.{line_feed, is_letter_or_digit}
use Rattle.mark_types.specs.Words.{Placed, placed, characters_of, byte_count, word_of, is_outside}
use Rattle.mark_types.specs.Words.{words_of, StandsIn}
use lib.Utf8.{encode}
use Rattle.text_lines.specs.lists.Laws.{byte_length-cons, byte_length-append}
use Rattle.mark_types.proofs.Cutting.{IsPart, slice_split-parts}

characters_of-placed : (wordchars : List ℕ) (byte before : ℕ) (text : List ℕ)
    → characters_of (placed wordchars byte before text) ≡ text
characters_of-placed wordchars byte before [] = refl
characters_of-placed wordchars byte before (c ∷ text) =
    ap (λ cs. c ∷ cs) (characters_of-placed wordchars (byte + len_utf8 c) c text)

first_byte : List Placed → ℕ
first_byte [] = 0
first_byte (p ∷ more) = p.byte

first_character : List Placed → ℕ
first_character [] = 0
first_character (p ∷ more) = p.character

rest_of : List Placed → List Placed
rest_of [] = []
rest_of (p ∷ more) = more

-- a character stands as many bytes behind the text's beginning as the characters before it take
placed-byte : (wordchars : List ℕ) (byte before : ℕ) (text : List ℕ) (front : List Placed)
    (p : Placed) (back : List Placed)
    → placed wordchars byte before text ≡ front ++ p ∷ back
    → p.byte ≡ byte + byte_count (characters_of front)
unfolding first_byte first_character rest_of
placed-byte wordchars byte before [] [] p back whole = absurd cc
placed-byte wordchars byte before [] (q ∷ front) p back whole = absurd cc
placed-byte wordchars byte before (c ∷ text) [] p back whole =
    let here : byte ≡ p.byte = ap first_byte whole in omega arith
placed-byte wordchars byte before (c ∷ text) (q ∷ front) p back whole =
    let later = placed-byte wordchars (byte + len_utf8 c) c text front p back (ap rest_of whole) in
    let same : c ≡ q.character = ap first_character whole in
    let more = byte_length-cons c (characters_of front) in
    rw (← same) (omega (arith, later, more))

characters_of-append : (front back : List Placed)
    → characters_of (front ++ back) ≡ characters_of front ++ characters_of back
characters_of-append front back = map-append (λ p. p.character) front back

-- a run of characters stands in the text where its first character does
run-stands : (wordchars text : List ℕ) (first : Placed) (more : List Placed)
    → IsPart (placed wordchars 0 line_feed text) (first ∷ more)
    → StandsIn text
    (record {
      from = first.byte;
      to = first.byte + byte_count (characters_of (first ∷ more));
      characters = characters_of (first ∷ more);
    })
run-stands wordchars text first more part =
    let run = first ∷ more in
    record {
      front = characters_of part.front;
      back = characters_of part.back;
      whole = sym (characters_of-placed wordchars 0 line_feed text) ∙ ap characters_of part.whole
          ∙ characters_of-append part.front (run ++ part.back)
          ∙ ap (λ cs. characters_of part.front ++ cs) (characters_of-append run part.back);
      from = placed-byte wordchars 0 line_feed text part.front first (more ++ part.back) part.whole
          ∙ zero-add _;
      to = refl;
    }

words-stand : (wordchars text : List ℕ) (parts : List (List Placed))
    → AllByRecursion (IsPart (placed wordchars 0 line_feed text)) parts
    → AllByRecursion (StandsIn text) (filter_map word_of parts)
words-stand wordchars text [] each = tt
words-stand wordchars text ([] ∷ parts) each = words-stand wordchars text parts each.1
words-stand wordchars text ((first ∷ more) ∷ parts) each =
    let characters = characters_of (first ∷ more) in
    let rest = words-stand wordchars text parts each.1 in
    elim (list_any is_letter_or_digit characters) as (λ b. AllByRecursion (StandsIn text)
    (cons_option
    (cond b (Some
    (record {
      from = first.byte;
      to = first.byte + byte_count characters;
      characters = characters;
    })) None) (filter_map word_of parts)))
    [ true ↦ (run-stands wordchars text first more each.0, rest) | false ↦ rest ]

pub words_of-stand : (wordchars text : List ℕ)
    → AllByRecursion (StandsIn text) (words_of wordchars text)
unfolding words_of
words_of-stand wordchars text =
    words-stand wordchars text (slice_split is_outside (placed wordchars 0 line_feed text))
    (slice_split-parts is_outside (placed wordchars 0 line_feed text))
