-- Texts beside characters.
use Rattle.std.proofs.Common.{◌≡◌, ◌∙◌, refl, sym, ap, ℕ, ◌+◌, ◌<◌, false, ◌==◌, ne_eqb}
use Rattle.std.proofs.Common.{List, [], ◌∷◌, ◌++◌, length, take, get_or, arith}
use Rattle.std.proofs.Common.{append_assoc}
use Rattle.std.specs.Char.{encode_utf8}
use Rattle.std.specs.Str.{IsUtf8, chars, encode_utf8_all}
use Rattle.std.proofs.lemmas.List.{append-nil, take_more}
use Rattle.std.proofs.lemmas.Str.{chars-nil, chars_past_char, IsUtf8-past_char}
use Rattle.std.proofs.lemmas.Str.{encodes-append}
use Rattle.spell_types.specs.Cases.{is_same_word}

-- a text without bytes has no characters
pub chars-empty : (bytes : List ℕ) → length bytes ≡ 0 → chars bytes ≡ []
chars-empty [] none = chars-nil
chars-empty (byte ∷ bytes) none = absurd (cc)

pub none-left : (left : List ℕ) → is_same_word [] left ≡ (length left == 0)
none-left [] = refl
none-left (c ∷ left) =
    sym (ne_eqb (length (c ∷ left)) 0 (λ is. absurd (omega (arith, is))))

pub no-more : (c : ℕ) (cs left : List ℕ) → length left ≡ 0 → is_same_word (c ∷ cs) left ≡ false
no-more c cs [] none = refl
no-more c cs (d ∷ left) none = absurd (cc)

-- ---- characters that are written behind a text
pub written-more : (text before now cs : List ℕ) (i c : ℕ) → i < length cs → c ≡ get_or cs i c
    → before ≡ text ++ encode_utf8_all (take i cs) → now ≡ before ++ encode_utf8 c
    → now ≡ text ++ encode_utf8_all (take (i + 1) cs)
written-more text before now cs i c within is was added =
    added ∙ ap (λ bytes. bytes ++ encode_utf8 c) was
    ∙ append_assoc text (encode_utf8_all (take i cs)) (encode_utf8 c)
    ∙ sym (ap (λ bytes. text ++ bytes)
    (ap encode_utf8_all
    (take_more cs i c within ∙ ap (λ last. take i cs ++ last ∷ []) (sym is))
    ∙ encodes-append (take i cs) (c ∷ [])
    ∙ ap (λ bytes. encode_utf8_all (take i cs) ++ bytes) (append-nil (encode_utf8 c))))

pub read : (cs : List ℕ) → IsUtf8 (encode_utf8_all cs) → chars (encode_utf8_all cs) ≡ cs
read [] utf8 = chars-nil
read (c ∷ cs) utf8 =
    chars_past_char (encode_utf8_all (c ∷ cs)) (encode_utf8_all cs) c utf8 refl
    ∙ ap (λ later. c ∷ later)
    (read cs (IsUtf8-past_char (encode_utf8_all (c ∷ cs)) (encode_utf8_all cs) c utf8 refl))
