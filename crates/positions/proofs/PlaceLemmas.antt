-- The last place before an offset, by recursion over the characters of a line.
use Rattle.std.proofs.Common.{◌≡◌, refl, sym, ap, ◌∙◌, ℕ, ◌+◌, ◌-◌, ◌≤◌, ◌<◌, Bool, true, false, cond, List, [], ◌∷◌, ◌++◌, length, arith}
use Rattle.std.specs.Prelude.{nat_lt, encode_utf8_all}
use Rattle.std.specs.Char.{len_utf8}
use Rattle.std.proofs.Common.{length-append, length-drop, drop, take, take-append-drop}
use Rattle.std.specs.Str.{chars, IsUtf8, IsCharBoundary}
use Rattle.std.proofs.lemmas.List.{nil_from_length, length-take-le}
use Rattle.std.proofs.lemmas.Str.{length-encode, len_utf8_bounds, chars_past_char, chars-nil, chars-append, encodes-chars, IsUtf8-take, IsCharBoundary-from_drop}
use lib.Utf8.{encode}
use Rattle.std.proofs.lemmas.Bool.{ltb-true, ltb-false, lt-ltb, le-ltb}
use Rattle.std.proofs.lemmas.Bool.Decides.{nat_tests}
use Rattle.positions.specs.declared.Encoding.TheVariants.{Utf8, Utf16, Utf32}
use Rattle.positions.specs.declared.Encoding.{Encoding}
use Rattle.positions.specs.Places.{units, unit_count, IsPlace, IsLastPlace}

-- how many bytes stand before the last place whose offset is at most this
abbrev pub byte_at : Encoding → ℕ → List ℕ → ℕ
byte_at e left [] = 0
byte_at e left (c ∷ cs) = cond (nat_lt left (units e c)) 0 (len_utf8 c + byte_at e (left - units e c) cs)

pub byte_length-cons : (c : ℕ) (cs : List ℕ) → length (encode_utf8_all (c ∷ cs)) ≡ len_utf8 c + length (encode_utf8_all cs)
byte_length-cons c cs = length-append (encode c) (encode_utf8_all cs)
    ∙ ap (λ n. n + length (encode_utf8_all cs)) (length-encode c)

-- a character has at least one unit, and no more units than bytes
pub units-some : (e : Encoding) (c : ℕ) → (1 ≤ units e c) × (units e c ≤ len_utf8 c)
units-some Utf8 c = ((len_utf8_bounds c).0, omega arith)
units-some Utf16 c = grind (arith, nat_tests)
units-some Utf32 c = (omega arith, (len_utf8_bounds c).0)

pub units-few : (e : Encoding) (cs : List ℕ) → unit_count e cs ≤ length (encode_utf8_all cs)
units-few e [] = omega arith
units-few e (c ∷ cs) = omega (arith, units-few e cs, (units-some e c).1, byte_length-cons c cs)

none-within : (e : Encoding) (c left : ℕ) (cs before behind : List ℕ) → left < units e c
    → c ∷ cs ≡ before ++ behind → unit_count e before ≤ left
    → length (encode_utf8_all before) ≤ 0
none-within e c left cs [] behind low parts fits = omega arith
none-within e c left cs (d ∷ before) behind low parts fits =
    let same : c ≡ d = cc in
    let higher : left < units e d = rw same at low in
    absurd (omega arith)

all-within : (e : Encoding) (c left byte : ℕ) (cs before behind : List ℕ) → units e c ≤ left
    → c ∷ cs ≡ before ++ behind → unit_count e before ≤ left
    → IsLastPlace e cs (left - units e c) byte
    → length (encode_utf8_all before) ≤ len_utf8 c + byte
all-within e c left byte cs [] behind high parts fits found = omega arith
all-within e c left byte cs (d ∷ before) behind high parts fits found =
    let same : d ≡ c = cc in
    let rest : cs ≡ before ++ behind = cc in
    let wide : units e d ≡ units e c = ap (units e) same in
    let place : IsPlace e cs (length (encode_utf8_all before)) (unit_count e before) =
    record { before = before; behind = behind; parts = rest; bytes = refl; units_are = refl } in
    let within : length (encode_utf8_all before) ≤ byte = found.last _ _ place (omega arith) in
    let longer = byte_length-cons d before in
    let long : len_utf8 d ≡ len_utf8 c = ap len_utf8 same in
    omega arith

pub byte_at-last : (e : Encoding) (left : ℕ) (cs : List ℕ) → IsLastPlace e cs left (byte_at e left cs)
byte_at-last e left [] = record {
  reached = 0;
  place = record { before = []; behind = []; parts = refl; bytes = refl; units_are = refl };
  fits = omega arith;
  last = λ other further place fits. nothing place.before place.behind other place.parts place.bytes;
}
  where
    nothing : (before behind : List ℕ) (other : ℕ) → [] ≡ before ++ behind
        → other ≡ length (encode_utf8_all before) → other ≤ 0
    nothing [] behind other parts bytes = omega arith
    nothing (d ∷ before) behind other parts bytes = absurd cc
byte_at-last e left (c ∷ cs) = by (nat_lt left (units e c)) refl (byte_at-last e (left - units e c) cs)
  where
    by : (b : Bool) → nat_lt left (units e c) ≡ b
        → IsLastPlace e cs (left - units e c) (byte_at e (left - units e c) cs)
        → IsLastPlace e (c ∷ cs) left (cond b 0 (len_utf8 c + byte_at e (left - units e c) cs))
    by true is later = record {
      reached = 0;
      place = record { before = []; behind = c ∷ cs; parts = refl; bytes = refl; units_are = refl };
      fits = omega arith;
      last = λ other further place fits. rw place.bytes (none-within e c left cs place.before place.behind
          (ltb-true _ _ is) place.parts (rw (← place.units_are) fits));
    }
    by false is later =
        let high : units e c ≤ left = ltb-false _ _ is in
        record {
          reached = units e c + later.reached;
          place = record {
            before = c ∷ later.place.before;
            behind = later.place.behind;
            parts = ap (λ ds. c ∷ ds) later.place.parts;
            bytes = ap (λ n. len_utf8 c + n) later.place.bytes ∙ sym (byte_length-cons c later.place.before);
            units_are = ap (λ n. units e c + n) later.place.units_are;
          };
          fits = omega (arith, later.fits);
          last = λ other further place fits. rw place.bytes (all-within e c left _ cs place.before place.behind
              high place.parts (rw (← place.units_are) fits) later);
        }

-- a place has one byte
pub byte_at-place : (e : Encoding) (before behind : List ℕ)
    → byte_at e (unit_count e before) (before ++ behind) ≡ length (encode_utf8_all before)
byte_at-place e [] [] = refl
byte_at-place e [] (c ∷ cs) =
    let test : nat_lt 0 (units e c) ≡ true = lt-ltb _ _ (units-some e c).0 in
    ap (λ b. cond b 0 (len_utf8 c + byte_at e (0 - units e c) cs)) test
byte_at-place e (c ∷ before) behind =
    let test : nat_lt (units e c + unit_count e before) (units e c) ≡ false = le-ltb _ _ (omega arith) in
    let rest : (units e c + unit_count e before) - units e c ≡ unit_count e before = omega arith in
    ap (λ b. cond b 0 (len_utf8 c + byte_at e ((units e c + unit_count e before) - units e c) (before ++ behind))) test
    ∙ ap (λ n. len_utf8 c + byte_at e n (before ++ behind)) rest
    ∙ ap (λ n. len_utf8 c + n) (byte_at-place e before behind)
    ∙ sym (byte_length-cons c before)

-- ---- a walk over the characters of a text

-- a character that fits is passed
pub byte_at-passed : (e : Encoding) (left byte whole c : ℕ) (text behind : List ℕ) → IsUtf8 text
    → text ≡ encode c ++ behind → units e c ≤ left → byte + byte_at e left (chars text) ≡ whole
    → byte + len_utf8 c + byte_at e (left - units e c) (chars behind) ≡ whole
byte_at-passed e left byte whole c text behind utf8 parts fits same =
    let step : byte_at e left (chars text) ≡ len_utf8 c + byte_at e (left - units e c) (chars behind) =
    ap (byte_at e left) (chars_past_char text behind c utf8 parts)
    ∙ ap (λ b. cond b 0 (len_utf8 c + byte_at e (left - units e c) (chars behind))) (le-ltb _ _ fits) in
    omega (arith, same, step)

-- one that does not fit ends the walk
pub byte_at-stays : (e : Encoding) (left byte whole c : ℕ) (text behind : List ℕ) → IsUtf8 text
    → text ≡ encode c ++ behind → left < units e c → byte + byte_at e left (chars text) ≡ whole
    → byte ≡ whole
byte_at-stays e left byte whole c text behind utf8 parts high same =
    let step : byte_at e left (chars text) ≡ 0 =
    ap (byte_at e left) (chars_past_char text behind c utf8 parts)
    ∙ ap (λ b. cond b 0 (len_utf8 c + byte_at e (left - units e c) (chars behind))) (lt-ltb _ _ high) in
    omega (arith, same, step)

-- and so does the end of the text
pub byte_at-ends : (e : Encoding) (left byte whole : ℕ) (text : List ℕ) → length text ≡ 0
    → byte + byte_at e left (chars text) ≡ whole → byte ≡ whole
byte_at-ends e left byte whole text none same =
    let empty = nil_from_length text none in
    let step : byte_at e left (chars text) ≡ 0 = ap (λ t. byte_at e left (chars t)) empty ∙ ap (byte_at e left) chars-nil in
    omega (arith, same, step)

-- a place behind a character is in the text
pub passed-within : (line behind : List ℕ) (byte c : ℕ) → drop byte line ≡ encode c ++ behind
    → byte ≤ length line → byte + len_utf8 c ≤ length line
passed-within line behind byte c parts within =
    let size : length (drop byte line) ≡ length (encode c) + length behind =
    ap length parts ∙ length-append (encode c) behind in
    omega (arith, size, length-drop byte line, length-encode c)

pub last-exact : (e : Encoding) (line : List ℕ) (offset byte other : ℕ)
    → byte ≡ byte_at e offset line → IsPlace e line other offset → byte ≡ other
last-exact e line offset byte other is place =
    is ∙ ap (λ n. byte_at e n line) place.units_are
    ∙ ap (byte_at e (unit_count e place.before)) place.parts
    ∙ byte_at-place e place.before place.behind ∙ sym place.bytes

pub last-found : (e : Encoding) (line : List ℕ) (offset byte : ℕ) → byte ≡ byte_at e offset line
    → IsLastPlace e line offset byte
last-found e line offset byte is = rw is (byte_at-last e offset line)

pub boundary-here : (line rest : List ℕ) (byte : ℕ) → drop byte line ≡ rest → IsUtf8 rest
    → byte ≤ length line → IsCharBoundary line byte
boundary-here line rest byte is utf8 within =
    IsCharBoundary-from_drop line byte within (rw is utf8)

-- ---- the units of a text

pub units-passed : (e : Encoding) (offset whole c : ℕ) (text behind : List ℕ) → IsUtf8 text
    → text ≡ encode c ++ behind → offset + unit_count e (chars text) ≡ whole
    → offset + units e c + unit_count e (chars behind) ≡ whole
units-passed e offset whole c text behind utf8 parts same =
    let step : unit_count e (chars text) ≡ units e c + unit_count e (chars behind) =
    ap (unit_count e) (chars_past_char text behind c utf8 parts) in
    omega (arith, same, step)

pub units-end : (e : Encoding) (offset whole : ℕ) (text : List ℕ) → length text ≡ 0
    → offset + unit_count e (chars text) ≡ whole → offset ≡ whole
units-end e offset whole text none same =
    let empty = nil_from_length text none in
    let step : unit_count e (chars text) ≡ 0 = ap (λ t. unit_count e (chars t)) empty ∙ ap (unit_count e) chars-nil in
    omega (arith, same, step)

pub units-below : (e : Encoding) (text : List ℕ) → IsUtf8 text → unit_count e (chars text) ≤ length text
units-below e text utf8 =
    omega (arith, units-few e (chars text), ap length (encodes-chars text utf8))

-- the units of the characters before a byte are its offset
pub place-of : (e : Encoding) (line : List ℕ) (byte : ℕ) → IsUtf8 line → IsCharBoundary line byte
    → IsPlace e (chars line) byte (unit_count e (chars (take byte line)))
place-of e line byte utf8 at =
    let front = IsUtf8-take line byte utf8 at in
    record {
      before = chars (take byte line);
      behind = chars (drop byte line);
      parts = ap chars (sym (take-append-drop byte line)) ∙ chars-append (take byte line) (drop byte line) front;
      bytes = sym (ap length (encodes-chars (take byte line) front) ∙ length-take-le byte line at.0);
      units_are = refl;
    }
