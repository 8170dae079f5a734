-- How the text before a slash goes on after its first character.
use Rattle.std.proofs.Common.{◌≡◌, ◌≢◌, ◌∙◌, refl, sym, ap, ℕ, ◌<◌, ◌==◌, ◌&&◌, Bool, true, false}
use Rattle.std.proofs.Common.{cond, List, [], ◌∷◌, ◌++◌, length, get_or, Option, Some, None, Bor}
use Rattle.std.proofs.Common.{MatchOption, arith, suc, lit<, ◌+◌, ◌≤◌, take, drop, subst}
use mathlib.Core.Logic.{⊎_elim}
use Rattle.std.specs.List.{prefix_len, slice_range}
use Rattle.std.specs.Option.{option_copied}
use Rattle.std.specs.Str.{chars, IsCharBoundary, IsUtf8}
use Rattle.std.specs.Char.{IsScalar}
use Rattle.std.specs.Str.Pattern.{FindsTextPrefix, LacksTextAt, StripsPrefix}
use Rattle.std.proofs.lemmas.Bool.{and_parts, cases_lt, ne_eqb}
use Rattle.std.proofs.lemmas.Bool.Decides.{nat_tests}
use Rattle.std.proofs.lemmas.List.{append-nil, append_cancel_left}
use Rattle.std.proofs.lemmas.List.Sums.{prefix_len_stops}
use Rattle.std.proofs.lemmas.Str.{chars-append, chars_past_char, scalars-chars, inside_one}
use Rattle.std.proofs.lemmas.Str.{IsUtf8-encode, encode_ascii, chars-nil}
use Rattle.std.proofs.lemmas.Str.{IsCharBoundary-before_ascii, IsCharBoundary-end}
use lib.Utf8.{encode, scalar, scalars}
use Rattle.flag_sets.specs.Slashes.{IsWordPlain, is_slash, is_backslash, is_plain, before_slash}
use Rattle.flag_sets.specs.Slashes.{behind_slash}

-- ---- bytes that are neither slash nor backslash
abbrev IsPlain : ℕ → Type 0
IsPlain b = (is_slash b ≡ false) × (is_backslash b ≡ false)

plain-before : (b : ℕ) (rest : List ℕ) → IsPlain b → before_slash (b ∷ rest) ≡ b ∷ before_slash rest
plain-before b [] plain = ap (λ t. cond t [] (b ∷ [])) plain.0
plain-before b (next ∷ more) plain =
    ap (λ t. cond t []
    (cond (is_backslash b && is_slash next) (next ∷ before_slash more)
    (b ∷ before_slash (next ∷ more)))) plain.0
    ∙ ap (λ t. cond (t && is_slash next) (next ∷ before_slash more)
    (b ∷ before_slash (next ∷ more))) plain.1

plain-behind : (b : ℕ) (rest : List ℕ) → IsPlain b → behind_slash (b ∷ rest) ≡ behind_slash rest
plain-behind b [] plain = ap (λ t. cond t (Some []) None) plain.0
plain-behind b (next ∷ more) plain =
    ap (λ t. cond t (Some (next ∷ more))
    (cond (is_backslash b && is_slash next) (behind_slash more) (behind_slash (next ∷ more))))
    plain.0
    ∙ ap (λ t. cond (t && is_slash next) (behind_slash more) (behind_slash (next ∷ more))) plain.1

abbrev ArePlain : List ℕ → Type 0
ArePlain bytes = (k : ℕ) → k < length bytes → IsPlain (get_or bytes k 0)

all-before : (bytes rest : List ℕ) → ArePlain bytes → before_slash (bytes ++ rest) ≡ bytes
    ++ before_slash rest
all-before [] rest plain = refl
all-before (b ∷ bytes) rest plain =
    plain-before b (bytes ++ rest) (plain 0 (omega arith))
    ∙ ap (λ text. b ∷ text)
    (all-before bytes rest (λ k within. plain (suc k) (omega (arith, within))))

all-behind : (bytes rest : List ℕ) → ArePlain bytes
    → behind_slash (bytes ++ rest) ≡ behind_slash rest
all-behind [] rest plain = refl
all-behind (b ∷ bytes) rest plain =
    plain-behind b (bytes ++ rest) (plain 0 (omega arith))
    ∙ all-behind bytes rest (λ k within. plain (suc k) (omega (arith, within)))

plain-parts : (b : ℕ) → is_plain b ≡ true → IsPlain b
plain-parts b plain = grind (arith, nat_tests)

one-more : (n : ℕ) → 1 + n ≡ suc n
one-more n = omega arith

-- what stands before the first slash or backslash
front-before : (text : List ℕ) → before_slash text ≡ take (prefix_len is_plain text) text
    ++ before_slash (drop (prefix_len is_plain text) text)
front-before [] = refl
front-before (b ∷ rest) =
    elim (is_plain b) as
    (λ t. is_plain b ≡ t
    → before_slash (b ∷ rest) ≡ take (cond t (1 + prefix_len is_plain rest) 0) (b ∷ rest)
    ++ before_slash (drop (cond t (1 + prefix_len is_plain rest) 0) (b ∷ rest))) [
      | true ↦ λ plain. plain-before b rest (plain-parts b plain)
          ∙ ap (λ text. b ∷ text) (front-before rest)
          ∙ ap (λ n. take n (b ∷ rest) ++ before_slash (drop n (b ∷ rest)))
          (sym (one-more (prefix_len is_plain rest)))
      | false ↦ λ _. refl
    ] refl

front-behind : (text : List ℕ)
    → behind_slash text ≡ behind_slash (drop (prefix_len is_plain text) text)
front-behind [] = refl
front-behind (b ∷ rest) =
    elim (is_plain b) as
    (λ t. is_plain b ≡ t
    → behind_slash (b ∷ rest)
    ≡ behind_slash (drop (cond t (1 + prefix_len is_plain rest) 0) (b ∷ rest))) [
      | true ↦ λ plain. plain-behind b rest (plain-parts b plain) ∙ front-behind rest
          ∙ ap (λ n. behind_slash (drop n (b ∷ rest)))
          (sym (one-more (prefix_len is_plain rest)))
      | false ↦ λ _. refl
    ] refl

-- the text is parted there
pub front-is : (text front : List ℕ) (place : ℕ) → place ≡ prefix_len is_plain text
    → front ≡ slice_range text 0 place → front ≡ take (prefix_len is_plain text) text
front-is text front place is front_is =
    front_is ∙ ap (λ n. take n text) (omega (arith, is))

pub parted : (text front back : List ℕ) (place : ℕ) → place ≡ prefix_len is_plain text
    → front ≡ take (prefix_len is_plain text) text → back ≡ drop place text
    → before_slash text ≡ front ++ before_slash back
parted text front back place is front_is back_is =
    front-before text
    ∙ ap (λ t. t ++ before_slash (drop (prefix_len is_plain text) text)) (sym front_is)
    ∙ ap (λ n. front ++ before_slash (drop n text)) (sym is)
    ∙ ap (λ t. front ++ before_slash t) (sym back_is)

pub parted-before : (text front back : List ℕ) → before_slash text ≡ front ++ before_slash back
    → IsUtf8 front → chars (before_slash text) ≡ chars front ++ chars (before_slash back)
parted-before text front back parts utf8 =
    ap chars parts ∙ chars-append front (before_slash back) utf8

-- where more than the text up to its first slash or backslash stands before the slash
pub more-before : (text front back : List ℕ) (c : ℕ) (later : List ℕ)
    → front ≡ take (prefix_len is_plain text) text → before_slash text ≡ front ++ before_slash back
    → chars (before_slash back) ≡ c ∷ later → IsWordPlain text → ⊥
more-before text front back c later front_is parts first plain =
    absurd (cc (sym first ∙ ap chars nothing ∙ chars-nil))
  where
    same : front ++ before_slash back ≡ front ++ []
    same = sym parts ∙ plain ∙ sym front_is ∙ sym (append-nil front)

    nothing : before_slash back ≡ []
    nothing = append_cancel_left front (before_slash back) [] same

pub parted-behind : (text back : List ℕ) (place : ℕ) → place ≡ prefix_len is_plain text
    → back ≡ drop place text → behind_slash text ≡ behind_slash back
parted-behind text back place is back_is =
    front-behind text ∙ ap (λ n. behind_slash (drop n text)) (sym is)
    ∙ ap behind_slash (sym back_is)

-- and may be cut there
pub front-cut : (text bytes : List ℕ) (place : ℕ) → bytes ≡ text → place ≡ prefix_len is_plain bytes
    → place ≤ length bytes → IsCharBoundary text place
front-cut text bytes place same is within =
    ⊎_elim
    (λ (inside : place < length text). IsCharBoundary-before_ascii text place inside
    (low (get_or text place 0)
    (ap (λ t. is_plain (get_or t place 0)) (sym same)
    ∙ ap (λ n. is_plain (get_or bytes n 0)) is
    ∙ prefix_len_stops is_plain bytes 0 (omega (arith, inside, is, ap length same)))))
    (λ (past : length text ≤ place). subst (IsCharBoundary text)
    (omega (arith, past, within, ap length same)) (IsCharBoundary-end text))
    (cases_lt place (length text))
  where
    low : (c : ℕ) → is_plain c ≡ false → c < 128
    low c marked = grind (arith, nat_tests)

plain-character : (c : ℕ) → c ≢ 47 → c ≢ 92 → ArePlain (encode c)
plain-character c no_slash no_backslash k within =
    let inside : get_or (encode c) k 0 < 128 → c ≡ get_or (encode c) k 0 =
    inside_one c [] (encode c) k (sym (append-nil (encode c))) within in (
      ne_eqb (get_or (encode c) k 0) 47 (λ is. no_slash (inside (omega (arith, is)) ∙ is)),
      ne_eqb (get_or (encode c) k 0) 92 (λ is. no_backslash (inside (omega (arith, is)) ∙ is)),
    )

-- ---- a backslash that no slash follows
lone-before : (rest : List ℕ) → ((more : List ℕ) → rest ≢ 47 ∷ more) → before_slash (92 ∷ rest) ≡ 92
    ∷ before_slash rest
lone-before [] lone = refl
lone-before (next ∷ more) lone =
    ap (λ t. cond t (next ∷ before_slash more) (92 ∷ before_slash (next ∷ more)))
    (ne_eqb next 47 (λ is. lone more (ap (λ n. n ∷ more) is)))

lone-behind : (rest : List ℕ) → ((more : List ℕ) → rest ≢ 47 ∷ more)
    → behind_slash (92 ∷ rest) ≡ behind_slash rest
lone-behind [] lone = refl
lone-behind (next ∷ more) lone =
    ap (λ t. cond t (behind_slash more) (behind_slash (next ∷ more)))
    (ne_eqb next 47 (λ is. lone more (ap (λ n. n ∷ more) is)))

-- ---- the first character of a text
first-scalar : (text rest : List ℕ) (c : ℕ) → IsUtf8 text → text ≡ encode c ++ rest → IsScalar c
first-scalar text rest c utf8 is =
    (and_parts (scalar c) (scalars (chars rest))
    (sym (ap scalars (chars_past_char text rest c utf8 is)) ∙ scalars-chars text utf8)).0

chars-after : (c : ℕ) (rest : List ℕ) → IsScalar c → chars (encode c ++ rest) ≡ c ∷ chars rest
chars-after c rest is =
    chars-append (encode c) rest (IsUtf8-encode c is)
    ∙ ap (λ cs. cs ++ chars rest)
    (chars_past_char (encode c) [] c (IsUtf8-encode c is) (sym (append-nil (encode c)))
    ∙ ap (λ cs. c ∷ cs) chars-nil)

-- the text does not begin with a backslash and a slash
abbrev pub HasNoEscape : List ℕ → Type 0
HasNoEscape text = (more : List ℕ) → text ≢ 92 ∷ 47 ∷ more

pub goes-on : (text rest : List ℕ) (c : ℕ) → text ≡ encode c ++ rest → HasNoEscape text → c ≢ 47
    → (before_slash text ≡ encode c ++ before_slash rest) × (behind_slash text ≡ behind_slash rest)
goes-on text rest c is no_escape no_slash =
    elim (c == 92) as
    (λ b. (c == 92) ≡ b → (before_slash text ≡ encode c ++ before_slash rest)
    × (behind_slash text ≡ behind_slash rest)) [
      | true ↦ λ h. backslash (grind (arith, nat_tests))
      | false ↦ λ h. other (λ same. grind (arith, nat_tests))
    ] refl
  where
    backslash : c ≡ 92 → (before_slash text ≡ encode c ++ before_slash rest)
        × (behind_slash text ≡ behind_slash rest)
    backslash same =
        let begins : text ≡ 92 ∷ rest = is ∙ ap (λ n. encode n ++ rest) same
        ∙ ap (λ front. front ++ rest) (encode_ascii 92 (lit< tt)) in
        let lone : (more : List ℕ) → rest ≢ 47 ∷ more =
        λ more h. no_escape more (begins ∙ ap (λ t. 92 ∷ t) h) in (
          ap before_slash begins ∙ lone-before rest lone
              ∙ sym (ap (λ n. encode n ++ before_slash rest) same
              ∙ ap (λ front. front ++ before_slash rest) (encode_ascii 92 (lit< tt))),
          ap behind_slash begins ∙ lone-behind rest lone,
        )

    other : c ≢ 92 → (before_slash text ≡ encode c ++ before_slash rest)
        × (behind_slash text ≡ behind_slash rest)
    other differs =
        let plain = plain-character c no_slash differs in (
          ap before_slash is ∙ all-before (encode c) rest plain,
          ap behind_slash is
              ∙ all-behind (encode c) rest plain,
        )

pub first-before : (text rest : List ℕ) (c : ℕ) → IsUtf8 text → text ≡ encode c ++ rest
    → HasNoEscape text → c ≢ 47
    → chars (before_slash text) ≡ c ∷ chars (before_slash rest)
first-before text rest c utf8 is no_escape no_slash =
    ap chars (goes-on text rest c is no_escape no_slash).0
    ∙ chars-after c (before_slash rest) (first-scalar text rest c utf8 is)

pub slash-before : (text rest : List ℕ) (c : ℕ) → text ≡ encode c ++ rest → c ≡ 47
    → before_slash text ≡ []
slash-before text rest c is slash =
    ap before_slash
    (is ∙ ap (λ n. encode n ++ rest) slash
    ∙ ap (λ front. front ++ rest) (encode_ascii 47 (lit< tt))) ∙ stops rest
  where
    stops : (rest : List ℕ) → before_slash (47 ∷ rest) ≡ []
    stops [] = refl
    stops (next ∷ more) = refl

-- ---- an escaped slash
pub escape-behind : (text : List ℕ) (r : Option (Bor (List ℕ)))
    → MatchOption r (LacksTextAt (92 ∷ 47 ∷ []) text 0)
    (λ x. StripsPrefix (FindsTextPrefix (92 ∷ 47 ∷ [])) text x.now)
    → MatchOption r (HasNoEscape text) (λ x. text ≡ 92 ∷ 47 ∷ x.now)
escape-behind text None lacks = lacks
escape-behind text (Some x) (n, found, rest, long) =
    found.1 ∙ ap (λ more. 92 ∷ 47 ∷ more) (sym rest)

pub escaped-before : (text rest : List ℕ) → text ≡ 92 ∷ 47 ∷ rest → chars (before_slash text) ≡ 47
    ∷ chars (before_slash rest)
escaped-before text rest is = ap (λ t. chars (before_slash t)) is
    ∙ ap chars (sym (ap (λ front. front ++ before_slash rest) (encode_ascii 47 (lit< tt))))
    ∙ chars-after 47 (before_slash rest) refl

-- ---- the end
pub nothing-before : (text : List ℕ) (r : Option (Bor (List ℕ))) → before_slash text ≡ []
    → MatchOption r ((rest : List ℕ) → text ≢ 47 ∷ rest) (λ x. text ≡ 47 ∷ x.now)
    → option_copied r ≡ behind_slash text
nothing-before text (Some x) none is = sym (ap behind_slash is ∙ stops x.now)
  where
    stops : (rest : List ℕ) → behind_slash (47 ∷ rest) ≡ Some rest
    stops [] = refl
    stops (next ∷ more) = refl
nothing-before [] None none isnt = refl
nothing-before (c ∷ text) None none isnt =
    absurd (begins c text (ne_eqb c 47 (λ is. isnt text (ap (λ n. n ∷ text) is))) none)
  where
    begins : (c : ℕ) (text : List ℕ) → is_slash c ≡ false → before_slash (c ∷ text) ≡ [] → ⊥
    begins c [] no_slash none = cc
    begins c (next ∷ more) no_slash none =
        one (is_backslash c && is_slash next)
        (sym (ap (λ t.
        cond t [] (cond (is_backslash c && is_slash next) (next ∷ before_slash more)
        (c ∷ before_slash (next ∷ more)))) no_slash) ∙ none)
      where
        one : (escaped : Bool)
            → cond escaped (next ∷ before_slash more) (c ∷ before_slash (next ∷ more)) ≡ [] → ⊥
        one true none = cc
        one false none = cc
