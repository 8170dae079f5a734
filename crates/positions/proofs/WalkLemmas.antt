-- A walk passes one character more, or ends.
use Rattle.std.proofs.Common.{◌≡◌, ◌∙◌, refl, sym, ap, ℕ, ◌+◌, ◌-◌, ◌≤◌, ◌<◌, cond, List, [], ◌∷◌, ◌++◌}
use Rattle.std.proofs.Common.{length, arith}
use Rattle.std.specs.Prelude.{encode_utf8_all}
use Rattle.std.specs.Char.{len_utf8}
use Rattle.std.specs.Str.{chars}
use Rattle.std.proofs.lemmas.Bool.{lt-ltb, le-ltb}
use Rattle.std.proofs.lemmas.Str.{len_utf8_bounds}
use Rattle.positions.specs.declared.Encoding.{Encoding}
use Rattle.positions.specs.declared.walk.Reached.{Reached}
use Rattle.positions.specs.Places.{units, unit_count, IsPlace}
use Rattle.positions.specs.declared.Encoding.TheVariants.{Utf8, Utf16, Utf32}
use Rattle.positions.specs.Walks.{offset_at, units_to, IsArrived, IsOnWay}
use Rattle.positions.proofs.PlaceLemmas.{byte_length-cons, units-some}

passes : (e : Encoding) (c byte : ℕ) (cs : List ℕ) → len_utf8 c ≤ byte
    → units_to e (c ∷ cs) byte ≡ units e c + units_to e cs (byte - len_utf8 c)
passes e c byte cs fits =
    ap (λ b. cond b 0 (units e c + units_to e cs (byte - len_utf8 c))) (le-ltb _ _ fits)

stays : (e : Encoding) (c byte : ℕ) (cs : List ℕ) → byte < len_utf8 c
    → units_to e (c ∷ cs) byte ≡ 0
stays e c byte cs short =
    ap (λ b. cond b 0 (units e c + units_to e cs (byte - len_utf8 c))) (lt-ltb _ _ short)

-- one character more is passed
pub way-further : (e : Encoding) (line : List ℕ) (c : ℕ) (before now : Reached)
    → IsOnWay e line before → chars before.left.now ≡ c ∷ chars now.left.now
    → now.byte ≡ before.byte + len_utf8 c → now.offset ≡ before.offset + units e c
    → IsOnWay e line now
way-further e line c before now held parts bytes counted = record {
  few = omega (arith, held.few, bytes, counted, (units-some e c).1);
  goes_on = λ byte within.
      let from : before.byte ≤ byte = omega (arith, within, bytes) in
      let fits : len_utf8 c ≤ byte - before.byte = omega (arith, within, bytes) in
      let rest : (byte - before.byte) - len_utf8 c ≡ byte - now.byte = omega (arith, bytes) in
      let step : units_to e (chars before.left.now) (byte - before.byte)
      ≡ units e c + units_to e (chars now.left.now) (byte - now.byte) =
      ap (λ text. units_to e text (byte - before.byte)) parts
      ∙ passes e c (byte - before.byte) (chars now.left.now) fits
      ∙ ap (λ n. units e c + units_to e (chars now.left.now) n) rest in
      omega (arith, held.goes_on byte from, step, counted);
}

-- the next character ends behind the byte
pub way-stays : (e : Encoding) (line cs : List ℕ) (c byte : ℕ) (reached : Reached)
    → IsOnWay e line reached → chars reached.left.now ≡ c ∷ cs → reached.byte ≤ byte
    → byte - reached.byte < len_utf8 c → IsArrived e line byte reached
way-stays e line cs c byte reached held parts within short = record {
  on_way = held;
  offset =
      let none : units_to e (chars reached.left.now) (byte - reached.byte) ≡ 0 =
      ap (λ text. units_to e text (byte - reached.byte)) parts
      ∙ stays e c (byte - reached.byte) cs short in
      omega (arith, held.goes_on byte within, none);
}

-- there is no character left
pub way-ends : (e : Encoding) (line : List ℕ) (byte : ℕ) (reached : Reached)
    → IsOnWay e line reached → chars reached.left.now ≡ [] → reached.byte ≤ byte
    → IsArrived e line byte reached
way-ends e line byte reached held parts within = record {
  on_way = held;
  offset =
      let none : units_to e (chars reached.left.now) (byte - reached.byte) ≡ 0 =
      ap (λ text. units_to e text (byte - reached.byte)) parts in
      omega (arith, held.goes_on byte within, none);
}

-- places are counted in units, unless they are bytes
pub counted : (e : Encoding) (line : List ℕ) (byte : ℕ) → (e ≡ Utf8 → ⊥)
    → units_to e line byte ≡ offset_at e line byte
counted Utf8 line byte other = absurd (other refl)
counted Utf16 line byte other = refl
counted Utf32 line byte other = refl

-- the units of the characters before a place
units_to-place : (e : Encoding) (before behind : List ℕ)
    → units_to e (before ++ behind) (length (encode_utf8_all before)) ≡ unit_count e before
units_to-place e [] [] = refl
units_to-place e [] (c ∷ behind) = stays e c 0 behind (omega (arith, (len_utf8_bounds c).0))
units_to-place e (c ∷ before) behind =
    let longer = byte_length-cons c before in
    let fits : len_utf8 c ≤ length (encode_utf8_all (c ∷ before)) = omega (arith, longer) in
    let rest : length (encode_utf8_all (c ∷ before)) - len_utf8 c ≡ length (encode_utf8_all before) =
    omega (arith, longer) in
    passes e c (length (encode_utf8_all (c ∷ before))) (before ++ behind) fits
    ∙ ap (λ n. units e c + units_to e (before ++ behind) n) rest
    ∙ ap (λ n. units e c + n) (units_to-place e before behind)

bytes-counted : (line : List ℕ) → length (encode_utf8_all line) ≡ unit_count Utf8 line
bytes-counted [] = refl
bytes-counted (c ∷ line) = byte_length-cons c line ∙ ap (λ n. len_utf8 c + n) (bytes-counted line)

pub offset_placed : (e : Encoding) (line : List ℕ) (byte offset : ℕ) → IsPlace e line byte offset
    → offset_at e line byte ≡ offset
offset_placed Utf8 line byte offset place =
    place.bytes ∙ bytes-counted place.before ∙ sym place.units_are
offset_placed Utf16 line byte offset place =
    ap (λ text. units_to Utf16 text byte) place.parts
    ∙ ap (units_to Utf16 (place.before ++ place.behind)) place.bytes
    ∙ units_to-place Utf16 place.before place.behind ∙ sym place.units_are
offset_placed Utf32 line byte offset place =
    ap (λ text. units_to Utf32 text byte) place.parts
    ∙ ap (units_to Utf32 (place.before ++ place.behind)) place.bytes
    ∙ units_to-place Utf32 place.before place.behind ∙ sym place.units_are
