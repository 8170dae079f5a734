-- A line of a script is for a session exactly where it is the session's number and a text.
use Rattle.std.proofs.Common.{◌≡◌, ◌∙◌, ◌⊎◌, inl, inr, refl, sym, ap, subst, ℕ, ◌&&◌, ◌≤◌, Bool}
use Rattle.std.proofs.Common.{true, false, List, [], ◌∷◌, ◌++◌, length, Option, Some, None, arith}
use Rattle.std.proofs.Common.{if◌then◌else◌}
use Rattle.std.specs.Prelude.{nat_le, option_and_then}
use Rattle.std.specs.List.{list_all}
use Rattle.std.specs.Option.{option_map}
use Rattle.std.specs.Str.{all_ascii_digits}
use Rattle.std.specs.Char.{is_ascii_digit}
use Rattle.std.proofs.lemmas.Bool.{le-leb, leb-true, and_parts}
use Rattle.std.proofs.lemmas.Bool.Decides.{nat_tests}
use Rattle.std.proofs.lemmas.List.Splits.{join_with_byte-slice_split}
use Rattle.std.proofs.lemmas.Option.{same_Some}
use Rattle.mark_types.specs.text_lines.Fields.{is_blank, has_bytes}
use Rattle.console_lang.specs.Words.{is_blank_line, words_between_spaces, text_of_words, number_of}
use Rattle.console_lang.specs.CommandLines.{Writes, IsTail}
use Rattle.console_lang.specs.Scripts.{if_session, session_of, session_text, ScriptLineSaid}
use Rattle.console_lang.specs.Scripts.{Nothing}
use Rattle.console_lang.specs.Scripts.{ToSession, or_unreadable, script_of, IsFor}
use Rattle.console_lang.proofs.WordLemmas.{digits_of}
use Rattle.console_lang.proofs.CommandLemmas.{written_lacks, number_is, writes_of, tail_words}
use Rattle.console_lang.proofs.CommandLemmas.{tail_of, tail_ends, tail_behind}

-- ---- from a session's line to what it says
chosen : {A : Type 0} (test : Bool) (x y : A) → test ≡ true → (if test then x else y) ≡ x
chosen true x y is = refl
chosen false x y is = absurd (cc)

other : {A : Type 0} (test : Bool) (x y : A) → test ≡ false → (if test then x else y) ≡ y
other false x y is = refl
other true x y is = absurd (cc)

both : (least most : Bool) → least ≡ true → most ≡ true → (least && most) ≡ true
both true true is was = refl
both true false is was = absurd (cc)
both false most is was = absurd (cc)

session_is : (session : ℕ) (text line : List ℕ) (is : IsFor session text line)
    → session_of is.digits ≡ Some session
unfolding session_of
session_is session text line is =
    chosen (nat_le (length is.digits) 2) _ None (le-leb _ _ is.few)
    ∙ ap (option_and_then if_session) (number_is is.digits session is.writes)
    ∙ chosen (nat_le 1 session && nat_le session 16) _ None
    (both _ _ (le-leb _ _ is.least) (le-leb _ _ is.most))

digit_fills : (b : ℕ) → is_ascii_digit b ≡ true → is_blank b ≡ false
digit_fills b is = grind (arith, nat_tests)

first_fills : (digits tail : List ℕ) → has_bytes digits ≡ true → all_ascii_digits digits ≡ true
    → is_blank_line (digits ++ tail) ≡ false
first_fills [] tail some is = absurd (cc)
first_fills (b ∷ digits) tail some is =
    ap (λ first. first && list_all is_blank (digits ++ tail))
    (digit_fills b (and_parts (is_ascii_digit b) (all_ascii_digits digits) is).0)

not_blank : (session : ℕ) (text line : List ℕ) → IsFor session text line
    → is_blank_line line ≡ false
not_blank session text line is =
    ap is_blank_line is.line_is
    ∙ first_fills is.digits is.tail
    (and_parts (has_bytes is.digits) (all_ascii_digits is.digits) is.writes.decimal).0
    (digits_of is.digits is.writes.decimal)

text_is : (session : ℕ) (text line : List ℕ) → IsFor session text line
    → session_text (words_between_spaces line) ≡ Some (session, text)
text_is session text line is =
    let found =
    tail_words is.digits text is.tail (written_lacks is.digits session is.writes) is.ends in
    ap (λ l. session_text (words_between_spaces l)) is.line_is
    ∙ ap session_text found.1
    ∙ ap (option_map (λ n. (n, text_of_words found.0))) (session_is session text line is)
    ∙ ap (λ t. Some (session, t)) found.2

pub for_session : (session : ℕ) (text line : List ℕ) → IsFor session text line
    → script_of line ≡ ToSession session text
unfolding script_of
for_session session text line is =
    other (is_blank_line line) Nothing _ (not_blank session text line is)
    ∙ ap or_unreadable (text_is session text line is)

-- ---- from what a line says to its form
-- the parts of a session that is found
pub record IsNamed (digits : List ℕ) (session : ℕ) : Type 0 where
  pub writes : Writes digits session
  pub few : length digits ≤ 2
  pub least : 1 ≤ session
  pub most : session ≤ 16

named : (digits : List ℕ) (session : ℕ) → session_of digits ≡ Some session
    → IsNamed digits session
unfolding session_of
named digits session is = by (nat_le (length digits) 2) (number_of digits) refl refl is
  where
    within : (number : ℕ) (least most : Bool) → number_of digits ≡ Some number
        → length digits ≤ 2 → nat_le 1 number ≡ least → nat_le number 16 ≡ most
        → (if least && most then Some number else None) ≡ Some session
        → IsNamed digits session
    within number true true at few from to found =
        subst (IsNamed digits) (same_Some _ _ found) (record {
          writes = writes_of digits number at;
          few = few;
          least = leb-true _ _ from;
          most = leb-true _ _ to;
        })
    within number true false at few from to found = absurd (cc)
    within number false most at few from to found = absurd (cc)

    by : (short : Bool) (number : Option ℕ) → nat_le (length digits) 2 ≡ short
        → number_of digits ≡ number
        → (if short then option_and_then if_session number else None) ≡ Some session
        → IsNamed digits session
    by true (Some number) few at found =
        within number (nat_le 1 number) (nat_le number 16) at (leb-true _ _ few) refl refl found
    by true None few at found = absurd (cc)
    by false number few at found = absurd (cc)

words_for : (words : List (List ℕ)) (session : ℕ) (text : List ℕ)
    → or_unreadable (session_text words) ≡ ToSession session text
    → IsFor session text (text_of_words words)
words_for [] session text is = absurd (cc)
words_for (digits ∷ words) session text is = by (session_of digits) refl is
  where
    by : (found : Option ℕ) → session_of digits ≡ found
        → or_unreadable (option_map (λ n. (n, text_of_words words)) found) ≡ ToSession session text
        → IsFor session text (text_of_words (digits ∷ words))
    by None at said = absurd (cc)
    by (Some other) at said =
        let same : other ≡ session = cc in
        let texts : text_of_words words ≡ text = cc in
        let parts = named digits session (at ∙ ap Some same) in
        record {
          digits = digits;
          tail = tail_of words;
          writes = parts.writes;
          few = parts.few;
          least = parts.least;
          most = parts.most;
          ends = subst (λ t. IsTail t (tail_of words)) texts (tail_ends words);
          line_is = tail_behind digits words;
        }

unless_blank : (blank : Bool) (line : List ℕ) (said : ScriptLineSaid)
    → (if blank then Nothing else or_unreadable (session_text (words_between_spaces line))) ≡ said
    → (blank ≡ true) × (said ≡ Nothing)
    ⊎ (or_unreadable (session_text (words_between_spaces line)) ≡ said)
unless_blank true line said is = inl (refl, sym is)
unless_blank false line said is = inr is

pub is_for : (session : ℕ) (text line : List ℕ) → script_of line ≡ ToSession session text
    → IsFor session text line
unfolding script_of
is_for session text line is = by (unless_blank (is_blank_line line) line _ is)
  where
    by : (is_blank_line line ≡ true) × (ToSession session text ≡ Nothing)
        ⊎ (or_unreadable (session_text (words_between_spaces line)) ≡ ToSession session text)
        → IsFor session text line
    by (inl none) = absurd (cc (none.1))
    by (inr said) =
        subst (IsFor session text) (join_with_byte-slice_split 32 line)
        (words_for (words_between_spaces line) session text said)

-- ---- blank lines
no_more : (found : Option (ℕ × List ℕ)) → or_unreadable found ≡ Nothing → ⊥
no_more (Some said) is = cc
no_more None is = cc

pub nothing_blank : (line : List ℕ) → script_of line ≡ Nothing → is_blank_line line ≡ true
unfolding script_of
nothing_blank line is = by (unless_blank (is_blank_line line) line Nothing is)
  where
    by : (is_blank_line line ≡ true) × (Nothing ≡ Nothing)
        ⊎ (or_unreadable (session_text (words_between_spaces line)) ≡ Nothing) → is_blank_line line ≡ true
    by (inl blank) = blank.0
    by (inr said) = absurd (no_more (session_text (words_between_spaces line)) said)

pub blank_nothing : (line : List ℕ) → is_blank_line line ≡ true → script_of line ≡ Nothing
unfolding script_of
blank_nothing line is = chosen (is_blank_line line) Nothing _ is
