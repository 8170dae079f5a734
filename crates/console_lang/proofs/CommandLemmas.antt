-- A line is a command exactly where it is one of the command's lines.
use Rattle.std.proofs.Common.{◌≡◌, ◌∙◌, ◌⊎◌, inl, inr, refl, sym, ap, subst, ℕ, ◌&&◌, ◌||◌, Bool}
use Rattle.std.proofs.Common.{true, false, List, [], ◌∷◌, ◌++◌, length, Option, Some, None, arith}
use Rattle.std.proofs.Common.{if◌then◌else◌}
use Rattle.std.specs.Prelude.{nat_le, codes}
use Rattle.std.specs.List.{AllByRecursion, onto_first, list_any}
use Rattle.std.specs.Option.{option_map}
use Rattle.std.specs.Str.{bytes_eq, all_ascii_digits}
use Rattle.std.specs.Str.Parse.{digits_value}
use Rattle.std.specs.Char.{is_ascii_digit}
use Rattle.std.proofs.lemmas.Bool.{le-leb, leb-true, and_parts, or_parts}
use Rattle.std.proofs.lemmas.Bool.Decides.{nat_tests}
use Rattle.std.proofs.lemmas.List.{append-nil}
use Rattle.std.proofs.lemmas.List.Elements.{All-from_recursion}
use Rattle.std.proofs.lemmas.List.Splits.{slice_split_at, slice_split_none}
use Rattle.std.proofs.lemmas.List.Splits.{join_with_byte-slice_split}
use Rattle.std.proofs.lemmas.Slice.Eq.{bytes_eq-Decides}
use Rattle.mark_types.specs.text_lines.Fields.{has_bytes, is_decimal}
use Rattle.std.proofs.lemmas.Option.{same_Some}
use Rattle.console_lang.specs.declared.command.Command.{Command}
use Rattle.console_lang.specs.declared.command.Command.TheVariants.{Ins, Put, Sub, Del, Load, Stop}
use Rattle.console_lang.specs.declared.command.Command.TheVariants.{Ask, Own, Show, Settle, Quit}
use Rattle.console_lang.specs.Words.{is_space, is_blank_line, words_between_spaces, text_of_words}
use Rattle.console_lang.specs.Words.{number_of}
use Rattle.console_lang.specs.Commands.{placed_text, of_numbers, placed_span, lone_place, two_names}
use Rattle.console_lang.specs.Commands.{alone, command_named, command_in, command_of}
use Rattle.console_lang.specs.CommandLines.{Writes, IsTail, IsName, IsNameAndPlace, IsPlacedText}
use Rattle.console_lang.specs.CommandLines.{IsPlacedSpan, IsLineOf}
use Rattle.console_lang.proofs.WordLemmas.{digits_of, value_of}

-- ---- words without a space
abbrev pub LacksSpace : List ℕ → Type 0
LacksSpace word = AllByRecursion (λ b. is_space b ≡ false) word

digit_no_space : (b : ℕ) → is_ascii_digit b ≡ true → is_space b ≡ false
digit_no_space b is = grind (arith, nat_tests)

digits_lack : (bs : List ℕ) → all_ascii_digits bs ≡ true → LacksSpace bs
digits_lack [] is = tt
digits_lack (b ∷ bs) is =
    let parts = and_parts (is_ascii_digit b) (all_ascii_digits bs) is in
    (digit_no_space b parts.0, digits_lack bs parts.1)

name_lacks : (bs : List ℕ) → list_any is_space bs ≡ false → LacksSpace bs
name_lacks [] is = tt
name_lacks (b ∷ bs) is =
    let parts = or_parts (is_space b) (list_any is_space bs) is in
    (parts.0, name_lacks bs parts.1)

lacks_name : (bs : List ℕ) → LacksSpace bs → list_any is_space bs ≡ false
lacks_name [] lacks = refl
lacks_name (b ∷ bs) lacks =
    ap (λ first. first || list_any is_space bs) lacks.0 ∙ lacks_name bs lacks.1

abbrev pub AllLackSpace : List (List ℕ) → Type 0
AllLackSpace words = AllByRecursion LacksSpace words

onto : (b : ℕ) (words : List (List ℕ)) → is_space b ≡ false → AllLackSpace words
    → AllLackSpace (onto_first b words)
onto b [] is lack = ((is, tt), tt)
onto b (word ∷ words) is lack = ((is, lack.0), lack.1)

first_lacks : (b : ℕ) (words : List (List ℕ)) (test : Bool) → is_space b ≡ test → AllLackSpace words
    → AllLackSpace (if test then [] ∷ words else onto_first b words)
first_lacks b words true is lack = (tt, lack)
first_lacks b words false is lack = onto b words is lack

-- no word of a text holds a space
words_lack : (bs : List ℕ) → AllLackSpace (words_between_spaces bs)
words_lack [] = (tt, tt)
words_lack (b ∷ bs) = first_lacks b (words_between_spaces bs) (is_space b) refl (words_lack bs)

-- ---- from a line of a command to the command
behind : (word rest : List ℕ) → LacksSpace word → words_between_spaces (word ++ 32 ∷ rest) ≡ word
    ∷ words_between_spaces rest
behind word rest lacks = slice_split_at is_space word 32 rest (All-from_recursion _ word lacks) refl

only : (word : List ℕ) → LacksSpace word → words_between_spaces word ≡ word ∷ []
only word lacks = slice_split_none is_space word (All-from_recursion _ word lacks)

chosen : (decimal short : Bool) (n : ℕ) → decimal ≡ true → short ≡ true
    → (if decimal && short then Some n else None) ≡ Some n
chosen true true n is few = refl
chosen false short n is few = absurd (cc)
chosen true false n is few = absurd (cc)

pub number_is : (digits : List ℕ) (number : ℕ) → Writes digits number
    → number_of digits ≡ Some number
unfolding number_of
number_is digits number writes =
    chosen (is_decimal digits) (nat_le (length digits) 9) (digits_value 10 digits) writes.decimal
    (le-leb _ _ writes.short) ∙ ap Some writes.value

pub written_lacks : (digits : List ℕ) (number : ℕ) → Writes digits number → LacksSpace digits
written_lacks digits number writes = digits_lack digits (digits_of digits writes.decimal)

-- the words of a text behind a number
pub tail_words : (digits text tail : List ℕ) → LacksSpace digits → IsTail text tail
    → (words : List (List ℕ)) × (words_between_spaces (digits ++ tail) ≡ digits ∷ words)
    × (text_of_words words ≡ text)
tail_words digits text tail lacks (inl spaced) = (
  words_between_spaces text,
  ap (λ t. words_between_spaces (digits ++ t)) spaced ∙ behind digits text lacks,
  join_with_byte-slice_split 32 text,
)
tail_words digits text tail lacks (inr none) = (
  [],
  ap (λ t. words_between_spaces (digits ++ t)) none.1 ∙ ap words_between_spaces (append-nil digits)
      ∙ only digits lacks,
  sym none.0,
)

text_is : (digits text tail : List ℕ) (place : ℕ) → Writes digits place → IsTail text tail
    → placed_text (words_between_spaces (digits ++ tail)) ≡ Some (place, text)
text_is digits text tail place writes ends =
    let found = tail_words digits text tail (written_lacks digits place writes) ends in
    ap placed_text found.1
    ∙ ap (option_map (λ number. (number, text_of_words found.0))) (number_is digits place writes)
    ∙ ap (λ t. Some (place, t)) found.2

span_is : (line : List ℕ) (place from to : ℕ) (text : List ℕ)
    (is : IsPlacedSpan (codes "sub") place from to text line)
    → placed_span
    (words_between_spaces (is.place_digits ++ 32 ∷ (is.from_digits ++ 32 ∷ (is.to_digits ++ is.tail))))
    ≡ Some (place, from, to, text)
span_is line place from to text is =
    let found =
    tail_words is.to_digits text is.tail (written_lacks is.to_digits to is.writes_to)
    is.ends in
    ap placed_span (behind is.place_digits _ (written_lacks is.place_digits place is.writes_place)
    ∙ ap (λ w. is.place_digits ∷ w)
    (behind is.from_digits _ (written_lacks is.from_digits from is.writes_from)
    ∙ ap (λ w. is.from_digits ∷ w) found.1))
    ∙ (λ i. of_numbers (number_is is.place_digits place is.writes_place i)
    (number_is is.from_digits from is.writes_from i) (number_is is.to_digits to is.writes_to i)
    (found.2 i))

place_is : (digits : List ℕ) (place : ℕ) → Writes digits place
    → lone_place (words_between_spaces digits) ≡ Some place
place_is digits place writes =
    ap lone_place (only digits (written_lacks digits place writes)) ∙ number_is digits place writes

named_both : {A : Type 0} (first other : Bool) (names : A) → first ≡ true → other ≡ true
    → (if first && other then Some names else None) ≡ Some names
named_both true true names is was = refl
named_both false other names is was = absurd (cc)
named_both true false names is was = absurd (cc)

names_are : (aff dic : List ℕ) → IsName aff → IsName dic
    → two_names (words_between_spaces (aff ++ 32 ∷ dic))
    ≡ Some (aff, dic)
names_are aff dic is was =
    ap two_names
    (behind aff dic (name_lacks aff is.whole)
    ∙ ap (λ w. aff ∷ w) (only dic (name_lacks dic was.whole)))
    ∙ named_both (has_bytes aff) (has_bytes dic) _ is.some was.some

pub command_is : (command : Command) (line : List ℕ) → IsLineOf command line
    → command_of line ≡ Some command
unfolding command_of command_named
command_is (Ins place text) line is = ap command_of is.line_is
    ∙ ap (option_map (λ (said : ℕ × List ℕ). Ins said.0 said.1))
    (text_is is.digits text is.tail place is.writes is.ends)
command_is (Put place text) line is = ap command_of is.line_is
    ∙ ap (option_map (λ (said : ℕ × List ℕ). Put said.0 said.1))
    (text_is is.digits text is.tail place is.writes is.ends)
command_is (Sub place from to text) line is = ap command_of is.line_is
    ∙ ap (option_map (λ (said : ℕ × ℕ × ℕ × List ℕ). Sub said.0 said.1 said.2 said.3))
    (span_is line place from to text is)
command_is (Del place) line is =
    ap command_of is.line_is ∙ ap (option_map Del) (place_is is.digits place is.writes)
command_is (Load aff dic) line is = ap command_of is.line_is
    ∙ ap (option_map (λ (said : List ℕ × List ℕ). Load said.0 said.1))
    (names_are aff dic is.aff_name is.dic_name)
command_is (Own text) line is =
    let found =
    tail_words (codes "own") text is.tail (name_lacks (codes "own") refl) is.ends in
    ap command_of is.line_is ∙ ap command_in found.1 ∙ ap (λ t. Some (Own t)) found.2
command_is (Stop place) line is =
    ap command_of is.line_is ∙ ap (option_map Stop) (place_is is.digits place is.writes)
command_is (Ask place) line is =
    ap command_of is.line_is ∙ ap (option_map Ask) (place_is is.digits place is.writes)
command_is Show line is = ap command_of is
command_is Settle line is = ap command_of is
command_is Quit line is = ap command_of is

-- ---- from a command to its line
pub writes_of : (digits : List ℕ) (number : ℕ) → number_of digits ≡ Some number
    → Writes digits number
unfolding number_of
writes_of digits number is =
    let parts =
    value_of (is_decimal digits) (nat_le (length digits) 9) (digits_value 10 digits) number
    is in
    record { decimal = parts.0; short = leb-true _ _ parts.1; value = parts.2 }

-- what stands behind a number for these words
abbrev pub tail_of : List (List ℕ) → List ℕ
tail_of [] = []
tail_of (word ∷ words) = 32 ∷ text_of_words (word ∷ words)

pub tail_ends : (words : List (List ℕ)) → IsTail (text_of_words words) (tail_of words)
tail_ends [] = inr (refl, refl)
tail_ends (word ∷ words) = inl refl

pub tail_behind : (digits : List ℕ) (words : List (List ℕ))
    → text_of_words (digits ∷ words) ≡ digits
    ++ tail_of words
tail_behind digits [] = sym (append-nil digits)
tail_behind digits (word ∷ words) = refl

placed_line : (name : List ℕ) (make : ℕ → List ℕ → Command) (words : List (List ℕ))
    (command : Command)
    → ((place : ℕ) (text line : List ℕ) → IsPlacedText name place text line
    → IsLineOf (make place text) line)
    → option_map (λ (said : ℕ × List ℕ). make said.0 said.1) (placed_text words) ≡ Some command
    → IsLineOf command (text_of_words (name ∷ words))
placed_line name make [] command line_of is = absurd (cc)
placed_line name make (digits ∷ text) command line_of is = by (number_of digits) refl is
  where
    by : (number : Option ℕ) → number_of digits ≡ number
        → option_map (λ (said : ℕ × List ℕ). make said.0 said.1)
        (option_map (λ n. (n, text_of_words text)) number) ≡ Some command
        → IsLineOf command (text_of_words (name ∷ digits ∷ text))
    by None at found = absurd (cc)
    by (Some place) at found =
        subst (λ k. IsLineOf k (text_of_words (name ∷ digits ∷ text))) (same_Some _ _ found)
        (line_of place (text_of_words text) _
        (record {
          digits = digits;
          tail = tail_of text;
          writes = writes_of digits place at;
          ends = tail_ends text;
          line_is = ap (λ t. name ++ 32 ∷ t) (tail_behind digits text);
        }))

span_line : (words : List (List ℕ)) (command : Command)
    → option_map (λ (said : ℕ × ℕ × ℕ × List ℕ). Sub said.0 said.1 said.2 said.3)
    (placed_span words) ≡ Some command → IsLineOf command (text_of_words (codes "sub" ∷ words))
span_line [] command is = absurd (cc)
span_line (a ∷ []) command is = absurd (cc)
span_line (a ∷ b ∷ []) command is = absurd (cc)
span_line (a ∷ b ∷ c ∷ text) command is =
    by (number_of a) (number_of b) (number_of c) refl refl refl is
  where
    whole : List ℕ
    whole = text_of_words (codes "sub" ∷ a ∷ b ∷ c ∷ text)

    by : (place from to : Option ℕ) → number_of a ≡ place → number_of b ≡ from → number_of c ≡ to
        → option_map (λ (said : ℕ × ℕ × ℕ × List ℕ). Sub said.0 said.1 said.2 said.3)
        (of_numbers place from to (text_of_words text)) ≡ Some command → IsLineOf command whole
    by None from to at at' at'' found = absurd (cc)
    by (Some place) None to at at' at'' found = absurd (cc)
    by (Some place) (Some from) None at at' at'' found = absurd (cc)
    by (Some place) (Some from) (Some to) at at' at'' found =
        subst (λ k. IsLineOf k whole) (same_Some _ _ found) (record {
          place_digits = a;
          from_digits = b;
          to_digits = c;
          tail = tail_of text;
          writes_place = writes_of a place at;
          writes_from = writes_of b from at';
          writes_to = writes_of c to at'';
          ends = tail_ends text;
          line_is = ap (λ t. codes "sub" ++ 32 ∷ (a ++ 32 ∷ (b ++ 32 ∷ t))) (tail_behind c text);
        })

place_line : (name : List ℕ) (make : ℕ → Command) (words : List (List ℕ)) (command : Command)
    → ((place : ℕ) (line : List ℕ) → IsNameAndPlace name place line → IsLineOf (make place) line)
    → option_map make (lone_place words) ≡ Some command
    → IsLineOf command (text_of_words (name ∷ words))
place_line name make [] command line_of is = absurd (cc)
place_line name make (digits ∷ next ∷ more) command line_of is = absurd (cc)
place_line name make (digits ∷ []) command line_of is = by (number_of digits) refl is
  where
    by : (number : Option ℕ) → number_of digits ≡ number → option_map make number ≡ Some command
        → IsLineOf command (text_of_words (name ∷ digits ∷ []))
    by None at found = absurd (cc)
    by (Some place) at found =
        subst (λ k. IsLineOf k (text_of_words (name ∷ digits ∷ []))) (same_Some _ _ found)
        (line_of place _
        (record { digits = digits; writes = writes_of digits place at; line_is = refl }))

pair_line : (words : List (List ℕ)) (command : Command) → AllLackSpace words
    → option_map (λ (said : List ℕ × List ℕ). Load said.0 said.1) (two_names words) ≡ Some command
    → IsLineOf command (text_of_words (codes "load" ∷ words))
pair_line [] command lack is = absurd (cc)
pair_line (aff ∷ []) command lack is = absurd (cc)
pair_line (aff ∷ dic ∷ next ∷ more) command lack is = absurd (cc)
pair_line (aff ∷ dic ∷ []) command lack is = by (has_bytes aff) (has_bytes dic) refl refl is
  where
    by : (first other : Bool) → has_bytes aff ≡ first → has_bytes dic ≡ other
        → option_map (λ (said : List ℕ × List ℕ). Load said.0 said.1)
        (if first && other then Some (aff, dic) else None) ≡ Some command
        → IsLineOf command (text_of_words (codes "load" ∷ aff ∷ dic ∷ []))
    by true true some some' found =
        subst (λ k. IsLineOf k (text_of_words (codes "load" ∷ aff ∷ dic ∷ []))) (same_Some _ _ found)
        (record {
          aff_name = record { some = some; whole = lacks_name aff lack.0 };
          dic_name = record { some = some'; whole = lacks_name dic lack.1.0 };
          line_is = refl;
        })
    by false other some some' found = absurd (cc)
    by true false some some' found = absurd (cc)

text_line : (words : List (List ℕ)) (command : Command)
    → Some (Own (text_of_words words)) ≡ Some command
    → IsLineOf command (text_of_words (codes "own" ∷ words))
text_line words command is =
    subst (λ k. IsLineOf k (text_of_words (codes "own" ∷ words))) (same_Some _ _ is)
    (record {
      tail = tail_of words;
      ends = tail_ends words;
      line_is = tail_behind (codes "own") words;
    })

alone_line : (name : List ℕ) (made : Command) (words : List (List ℕ)) (command : Command)
    → IsLineOf made name
    → alone made words ≡ Some command → IsLineOf command (text_of_words (name ∷ words))
alone_line name made [] command line_of is = subst (λ k. IsLineOf k name) (same_Some _ _ is) line_of
alone_line name made (word ∷ words) command line_of is = absurd (cc)

-- the name that is asked for first, or the others
abbrev Either : List ℕ → List ℕ → Option Command → Option Command → Command → Type 0
Either name wanted then_is else_is command =
    ((name ≡ wanted) × (then_is ≡ Some command)) ⊎ (else_is ≡ Some command)

either : (name wanted : List ℕ) (then_is else_is : Option Command) (command : Command)
    → (if bytes_eq name wanted then then_is else else_is) ≡ Some command
    → Either name wanted then_is else_is command
either name wanted then_is else_is command is = by (bytes_eq name wanted) refl is
  where
    by : (test : Bool) → bytes_eq name wanted ≡ test → (if test then then_is else else_is)
        ≡ Some command → Either name wanted then_is else_is command
    by true at found = inl ((bytes_eq-Decides name wanted).0 at, found)
    by false at found = inr found

renamed : (name wanted : List ℕ) (words : List (List ℕ)) (command : Command) → name ≡ wanted
    → IsLineOf command (text_of_words (wanted ∷ words))
    → IsLineOf command (text_of_words (name ∷ words))
renamed name wanted words command is line_of =
    subst (λ n. IsLineOf command (text_of_words (n ∷ words))) (sym is) line_of

-- the commands that are asked for behind others
abbrev from_quit : List ℕ → List (List ℕ) → Option Command
from_quit name words = if bytes_eq name (codes "quit") then alone Quit words else None

abbrev from_settle : List ℕ → List (List ℕ) → Option Command
from_settle name words =
    if bytes_eq name (codes "settle") then alone Settle words else from_quit name words

abbrev from_show : List ℕ → List (List ℕ) → Option Command
from_show name words =
    if bytes_eq name (codes "show") then alone Show words else from_settle name words

abbrev from_ask : List ℕ → List (List ℕ) → Option Command
from_ask name words =
    if bytes_eq name (codes "ask") then option_map Ask (lone_place words) else from_show name words

abbrev from_stop : List ℕ → List (List ℕ) → Option Command
from_stop name words =
    if bytes_eq name (codes "stop") then option_map Stop (lone_place words) else from_ask name words

abbrev from_own : List ℕ → List (List ℕ) → Option Command
from_own name words =
    if bytes_eq name (codes "own") then Some (Own (text_of_words words)) else from_stop name words

abbrev from_load : List ℕ → List (List ℕ) → Option Command
from_load name words =
    if bytes_eq name (codes "load") then option_map (λ (said : List ℕ × List ℕ). Load said.0 said.1)
    (two_names words) else from_own name words

abbrev from_del : List ℕ → List (List ℕ) → Option Command
from_del name words =
    if bytes_eq name (codes "del") then option_map Del (lone_place words) else from_load name words

abbrev from_sub : List ℕ → List (List ℕ) → Option Command
from_sub name words =
    if bytes_eq name (codes "sub")
    then option_map (λ (said : ℕ × ℕ × ℕ × List ℕ). Sub said.0 said.1 said.2 said.3)
    (placed_span words) else from_del name words

abbrev from_put : List ℕ → List (List ℕ) → Option Command
from_put name words =
    if bytes_eq name (codes "put") then option_map (λ (said : ℕ × List ℕ). Put said.0 said.1)
    (placed_text words) else from_sub name words

named_line : (name : List ℕ) (words : List (List ℕ)) (command : Command) → AllLackSpace words
    → command_named name words ≡ Some command → IsLineOf command (text_of_words (name ∷ words))
unfolding command_named
named_line name words command lack is = ins (either name (codes "ins") _ _ command is)
  where
    Named : Type 0
    Named = IsLineOf command (text_of_words (name ∷ words))

    quit : Either name (codes "quit") (alone Quit words) None command → Named
    quit (inl k) =
        renamed name _ words command k.0 (alone_line (codes "quit") Quit words command refl k.1)
    quit (inr k) = absurd (cc)

    settle : Either name (codes "settle") (alone Settle words) (from_quit name words) command
        → Named
    settle (inl k) =
        renamed name _ words command k.0 (alone_line (codes "settle") Settle words command refl k.1)
    settle (inr k) = quit (either name (codes "quit") _ _ command k)

    show : Either name (codes "show") (alone Show words) (from_settle name words) command → Named
    show (inl k) =
        renamed name _ words command k.0 (alone_line (codes "show") Show words command refl k.1)
    show (inr k) = settle (either name (codes "settle") _ _ command k)

    ask : Either name (codes "ask") (option_map Ask (lone_place words)) (from_show name words)
        command → Named
    ask (inl k) =
        renamed name _ words command k.0
        (place_line (codes "ask") Ask words command (λ place line h. h) k.1)
    ask (inr k) = show (either name (codes "show") _ _ command k)

    stop : Either name (codes "stop") (option_map Stop (lone_place words)) (from_ask name words)
        command → Named
    stop (inl k) =
        renamed name _ words command k.0
        (place_line (codes "stop") Stop words command (λ place line h. h) k.1)
    stop (inr k) = ask (either name (codes "ask") _ _ command k)

    own : Either name (codes "own") (Some (Own (text_of_words words))) (from_stop name words) command
        → Named
    own (inl k) = renamed name _ words command k.0 (text_line words command k.1)
    own (inr k) = stop (either name (codes "stop") _ _ command k)

    load : Either name (codes "load")
        (option_map (λ (said : List ℕ × List ℕ). Load said.0 said.1) (two_names words))
        (from_own name words) command → Named
    load (inl k) = renamed name _ words command k.0 (pair_line words command lack k.1)
    load (inr k) = own (either name (codes "own") _ _ command k)

    del : Either name (codes "del") (option_map Del (lone_place words)) (from_load name words)
        command → Named
    del (inl k) =
        renamed name _ words command k.0
        (place_line (codes "del") Del words command (λ place line h. h) k.1)
    del (inr k) = load (either name (codes "load") _ _ command k)

    sub : Either name (codes "sub")
        (option_map (λ (said : ℕ × ℕ × ℕ × List ℕ). Sub said.0 said.1 said.2 said.3)
        (placed_span words)) (from_del name words) command → Named
    sub (inl k) = renamed name _ words command k.0 (span_line words command k.1)
    sub (inr k) = del (either name (codes "del") _ _ command k)

    put : Either name (codes "put")
        (option_map (λ (said : ℕ × List ℕ). Put said.0 said.1) (placed_text words))
        (from_sub name words) command → Named
    put (inl k) =
        renamed name _ words command k.0
        (placed_line (codes "put") Put words command (λ place text line h. h) k.1)
    put (inr k) = sub (either name (codes "sub") _ _ command k)

    ins : Either name (codes "ins")
        (option_map (λ (said : ℕ × List ℕ). Ins said.0 said.1) (placed_text words))
        (from_put name words) command → Named
    ins (inl k) =
        renamed name _ words command k.0
        (placed_line (codes "ins") Ins words command (λ place text line h. h) k.1)
    ins (inr k) = put (either name (codes "put") _ _ command k)

in_line : (words : List (List ℕ)) (command : Command) → AllLackSpace words
    → command_in words ≡ Some command → IsLineOf command (text_of_words words)
in_line [] command lack is = absurd (cc)
in_line (name ∷ words) command lack is = named_line name words command lack.1 is

pub line_is : (command : Command) (line : List ℕ) → command_of line ≡ Some command
    → IsLineOf command line
unfolding command_of
line_is command line is =
    subst (IsLineOf command) (join_with_byte-slice_split 32 line)
    (in_line (words_between_spaces line) command (words_lack line) is)

-- ---- different commands
pub commands_differ : (command other : Command) (line : List ℕ) → IsLineOf command line
    → IsLineOf other line → command ≡ other
commands_differ command other line is was =
    same_Some command other (sym (command_is command line is) ∙ command_is other line was)

pub no_blank : (command : Command) (line : List ℕ) → IsLineOf command line
    → is_blank_line line ≡ false
no_blank Show line is = ap is_blank_line is
no_blank Settle line is = ap is_blank_line is
no_blank Quit line is = ap is_blank_line is
no_blank _ line is = ap is_blank_line is.line_is
