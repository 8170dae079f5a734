-- Which cause each fault has.
use Rattle.std.proofs.Common.{◌≡◌, ◌↔◌, ◌∙◌, ℕ, ◌+◌, ◌<◌, Bool, true, false, cond, ◌||◌, List, []}
use Rattle.std.proofs.Common.{◌∷◌, ◌++◌, length, Option, Some, None, Result, Ok, Err, refl, sym, ap}
use Rattle.std.proofs.Common.{arith, add-zero, if◌then◌else◌}
use Rattle.std.specs.Prelude.{nat_lt}
use Rattle.std.specs.List.{list_any, position_from}
use Rattle.std.specs.Option.{option_map}
use Rattle.std.proofs.lemmas.Bool.Decides.{nat_tests}
use Rattle.std.proofs.lemmas.Iterator.Adapters.{position_from-zero}
use Rattle.std.proofs.lemmas.Option.{same_Some}
use Rattle.text_lines.specs.lists.Answers.{◌>>=◌}
use Rattle.text_lines.specs.Lines.{line_texts}
use Rattle.team_script.specs.declared.fault.ScriptFault.{ScriptFault}
use Rattle.team_script.specs.declared.fault.ScriptFault.TheVariants.{Bad, LongLine, ManyPairs}
use Rattle.team_script.specs.declared.line.SessionLine.{SessionLine}
use Rattle.team_script.specs.declared.pairs.Pair.{Pair}
use Rattle.team_script.specs.Lines.{told_in, is_bad, first_bad, is_long}
use Rattle.team_script.specs.Pairs.{pairs_in, pair_limit}
use Rattle.team_script.specs.Told.{ScriptTold, told}
use Rattle.team_script.specs.Causes.{IsFirstBad, HasLong, HasMany}
use Rattle.team_script.specs.Due.{unless_bad, unless_long, pairs_due, script_due}

-- ---- the first line that passes a test

-- a text that passes a test, with none before it
record IsFirst (test : List ℕ → Bool) (texts : List (List ℕ)) (from place : ℕ) : Type 0 where
  front : List (List ℕ)
  text : List ℕ
  back : List (List ℕ)
  texts_are : texts ≡ front ++ text ∷ back
  place_is : place ≡ from + length front
  passes : test text ≡ true
  first : list_any test front ≡ false

first-at : (test : List ℕ → Bool) (texts : List (List ℕ)) (from place : ℕ)
    → position_from test from texts ≡ Some place → IsFirst test texts from place
first-at test [] from place at = absurd (cc)
first-at test (text ∷ texts) from place at =
    elim (test text) as
    (λ b. test text ≡ b → cond b (Some from) (position_from test (from + 1) texts) ≡ Some place
    → IsFirst test (text ∷ texts) from place) [
      | true ↦ λ passes here. record {
        front = [];
        text = text;
        back = texts;
        texts_are = refl;
        place_is = sym (same_Some from place here) ∙ sym (add-zero from);
        passes = passes;
        first = refl;
      }
      | false ↦ λ fails later.
          let more = first-at test texts (from + 1) place later in
          record {
            front = text ∷ more.front;
            text = more.text;
            back = more.back;
            texts_are = ap (λ ts. text ∷ ts) more.texts_are;
            place_is = omega (arith, more.place_is);
            passes = more.passes;
            first = ap (λ b. b || list_any test more.front) fails ∙ more.first;
          }
    ] refl at

at-first : (test : List ℕ → Bool) (front : List (List ℕ)) (text : List ℕ) (back : List (List ℕ))
    (from : ℕ)
    → test text ≡ true → list_any test front ≡ false
    → position_from test from (front ++ text ∷ back) ≡ Some (from + length front)
at-first test [] text back from passes first =
    ap (λ b. cond b (Some from) (position_from test (from + 1) back)) passes
    ∙ ap Some (sym (add-zero from))
at-first test (t ∷ front) text back from passes first =
    elim (test t) as
    (λ b. (b || list_any test front) ≡ false
    → cond b (Some from) (position_from test (from + 1) (front ++ text ∷ back))
    ≡ Some (from + length (t ∷ front))) [
      | true ↦ λ never. absurd (cc)
      | false ↦ λ others. at-first test front text back (from + 1) passes others
          ∙ ap Some (omega arith)
    ] first

none-at : (test : List ℕ → Bool) (texts : List (List ℕ)) (from : ℕ)
    → (position_from test from texts ≡ None) ↔ (list_any test texts ≡ false)
none-at test [] from = (λ none. refl, λ none. refl)
none-at test (text ∷ texts) from =
    elim (test text) as
    (λ b. (cond b (Some from) (position_from test (from + 1) texts) ≡ None)
    ↔ ((b || list_any test texts) ≡ false)) [
      | true ↦ (λ never. absurd (cc), λ never. absurd (cc))
      | false ↦ none-at test texts (from + 1)
    ]

-- ---- the first bad line

bad-place : (texts : List (List ℕ))
    → first_bad texts ≡ option_map (λ place. place + 1) (position_from is_bad 0 texts)
bad-place texts = ap (option_map (λ place. place + 1)) (position_from-zero is_bad texts)

map-some : (found : Option ℕ) (line : ℕ) → option_map (λ place. place + 1) found ≡ Some line
    → (place : ℕ) × (found ≡ Some place) × (line ≡ place + 1)
map-some None line is = absurd (cc)
map-some (Some place) line is = (place, refl, cc)

map-none : (found : Option ℕ) → option_map (λ place. place + 1) found ≡ None → found ≡ None
map-none None is = refl
map-none (Some place) is = absurd (cc)

bad-is-first : (texts : List (List ℕ)) (line : ℕ) → first_bad texts ≡ Some line
    → IsFirstBad texts line
bad-is-first texts line is =
    let found = map-some (position_from is_bad 0 texts) line (sym (bad-place texts) ∙ is) in
    let first = first-at is_bad texts 0 found.0 found.1 in
    record {
      front = first.front;
      text = first.text;
      back = first.back;
      texts_are = first.texts_are;
      number = omega (arith, found.2, first.place_is);
      bad = first.passes;
      first = first.first;
    }

first-is-bad : (texts : List (List ℕ)) (line : ℕ) → IsFirstBad texts line
    → first_bad texts ≡ Some line
first-is-bad texts line is =
    bad-place texts
    ∙ ap (λ ts. option_map (λ place. place + 1) (position_from is_bad 0 ts)) is.texts_are
    ∙ ap (option_map (λ place. place + 1)) (at-first is_bad is.front is.text is.back 0 is.bad is.first)
    ∙ ap Some (omega (arith, is.number))

none-bad : (texts : List (List ℕ)) → first_bad texts ≡ None → list_any is_bad texts ≡ false
none-bad texts none =
    (none-at is_bad texts 0).0
    (map-none (position_from is_bad 0 texts) (sym (bad-place texts) ∙ none))

bad-none : (texts : List (List ℕ)) → list_any is_bad texts ≡ false → first_bad texts ≡ None
bad-none texts none =
    bad-place texts ∙ ap (option_map (λ place. place + 1)) ((none-at is_bad texts 0).1 none)

-- ---- what is due, by the three questions

abbrev decided : Option ℕ → Bool → Bool → List SessionLine → List Pair
    → Result ScriptTold ScriptFault
decided None false false lines pairs = Ok (told lines pairs)
decided None false true lines pairs = Err ManyPairs
decided None true many lines pairs = Err LongLine
decided (Some line) long many lines pairs = Err (Bad line)

abbrev is_many : List SessionLine → Bool
is_many lines = nat_lt pair_limit (length (pairs_in lines))

long-due : (lines : List SessionLine) (long : Bool) → list_any is_long lines ≡ long
    → unless_long lines ≡ (if long then Err LongLine else Ok lines)
unfolding unless_long
long-due lines long is = ap (λ b. if b then Err LongLine else Ok lines) is

many-due : (lines : List SessionLine) (many : Bool) → is_many lines ≡ many
    → pairs_due lines ≡ (if many then Err ManyPairs else Ok (pairs_in lines))
unfolding pairs_due
many-due lines many is = ap (λ b. if b then Err ManyPairs else Ok (pairs_in lines)) is

abbrev with_pairs : List SessionLine → Result (List Pair) ScriptFault
    → Result ScriptTold ScriptFault
with_pairs lines due = due >>= λ pairs. Ok (told lines pairs)

abbrev of_lines : Result (List SessionLine) ScriptFault → Result ScriptTold ScriptFault
of_lines due = due >>= λ short. with_pairs short (pairs_due short)

by-questions : (found : Option ℕ) (long many : Bool) (lines : List SessionLine)
    → list_any is_long lines ≡ long → is_many lines ≡ many
    → (unless_bad found lines >>= λ all. of_lines (unless_long all))
    ≡ decided found long many lines (pairs_in lines)
by-questions (Some line) long many lines has_long has_many = refl
by-questions None true many lines has_long has_many = ap of_lines (long-due lines true has_long)
by-questions None false true lines has_long has_many =
    ap of_lines (long-due lines false has_long) ∙ ap (with_pairs lines) (many-due lines true has_many)
by-questions None false false lines has_long has_many =
    ap of_lines (long-due lines false has_long) ∙ ap (with_pairs lines) (many-due lines false has_many)

due-is : (bytes : List ℕ)
    → script_due bytes
    ≡ decided (first_bad (line_texts bytes)) (list_any is_long (told_in (line_texts bytes)))
    (is_many (told_in (line_texts bytes))) (told_in (line_texts bytes))
    (pairs_in (told_in (line_texts bytes)))
unfolding script_due
due-is bytes =
    by-questions (first_bad (line_texts bytes)) _ _ (told_in (line_texts bytes)) refl refl

bad-told : (found : Option ℕ) (long many : Bool) (lines : List SessionLine) (pairs : List Pair)
    (line : ℕ)
    → (decided found long many lines pairs ≡ Err (Bad line)) ↔ (found ≡ Some line)
bad-told (Some other) long many lines pairs line = (λ is. cc, λ is. cc)
bad-told None true many lines pairs line = (λ is. absurd (cc), λ is. absurd (cc))
bad-told None false true lines pairs line = (λ is. absurd (cc), λ is. absurd (cc))
bad-told None false false lines pairs line = (λ is. absurd (cc), λ is. absurd (cc))

long-told : (found : Option ℕ) (long many : Bool) (lines : List SessionLine) (pairs : List Pair)
    → (decided found long many lines pairs ≡ Err LongLine) ↔ ((found ≡ None) × (long ≡ true))
long-told (Some other) long many lines pairs = (λ is. absurd (cc), λ (none, is). absurd (cc))
long-told None true many lines pairs = (λ is. (refl, refl), λ is. refl)
long-told None false true lines pairs = (λ is. absurd (cc), λ (none, is). absurd (cc))
long-told None false false lines pairs = (λ is. absurd (cc), λ (none, is). absurd (cc))

many-told : (found : Option ℕ) (long many : Bool) (lines : List SessionLine) (pairs : List Pair)
    → (decided found long many lines pairs ≡ Err ManyPairs)
    ↔ ((found ≡ None) × (long ≡ false) × (many ≡ true))
many-told (Some other) long many lines pairs = (λ is. absurd (cc), λ (none, was, is). absurd (cc))
many-told None true many lines pairs = (λ is. absurd (cc), λ (none, was, is). absurd (cc))
many-told None false true lines pairs = (λ is. (refl, refl, refl), λ is. refl)
many-told None false false lines pairs = (λ is. absurd (cc), λ (none, was, is). absurd (cc))

pub bad-cause : (bytes : List ℕ) (line : ℕ) → (script_due bytes ≡ Err (Bad line))
    ↔ IsFirstBad (line_texts bytes) line
bad-cause bytes line =
    let texts = line_texts bytes in
    let tells = bad-told (first_bad texts) (list_any is_long (told_in texts))
    (is_many (told_in texts)) (told_in texts) (pairs_in (told_in texts)) line in (
      λ due. bad-is-first texts line (tells.0 (sym (due-is bytes) ∙ due)),
      λ is. due-is bytes ∙ tells.1 (first-is-bad texts line is),
    )

pub long-cause : (bytes : List ℕ) → (script_due bytes ≡ Err LongLine) ↔ HasLong (line_texts bytes)
long-cause bytes =
    let texts = line_texts bytes in
    let tells = long-told (first_bad texts) (list_any is_long (told_in texts))
    (is_many (told_in texts)) (told_in texts) (pairs_in (told_in texts)) in (
      λ due.
          let is = tells.0 (sym (due-is bytes) ∙ due) in
          record { good = none-bad texts is.0; long = is.1 },
      λ has. due-is bytes ∙ tells.1 (bad-none texts has.good, has.long),
    )

many-is : (lines : List SessionLine) → is_many lines ≡ true
    → pair_limit < length (pairs_in lines)
many-is lines many = grind (arith, nat_tests, many)

is-many : (lines : List SessionLine) → pair_limit < length (pairs_in lines)
    → is_many lines ≡ true
is-many lines many = grind (arith, nat_tests, many)

pub many-cause : (bytes : List ℕ) → (script_due bytes ≡ Err ManyPairs) ↔ HasMany (line_texts bytes)
many-cause bytes =
    let texts = line_texts bytes in
    let tells = many-told (first_bad texts) (list_any is_long (told_in texts))
    (is_many (told_in texts)) (told_in texts) (pairs_in (told_in texts)) in (
      λ due.
          let is = tells.0 (sym (due-is bytes) ∙ due) in
          record { good = none-bad texts is.0; short = is.1; many = many-is (told_in texts) is.2 },
      λ has. due-is bytes
          ∙ tells.1 (bad-none texts has.good, has.short, is-many (told_in texts) has.many),
    )
