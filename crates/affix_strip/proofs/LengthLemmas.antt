-- How long a form is: no longer than its entry's word and what its affixes add.
use Rattle.std.proofs.Common.{◌≡◌, ◌∙◌, refl, sym, ap, ℕ, zero, suc, ◌+◌, ◌*◌, ◌-◌, ◌<◌, ◌≤◌}
use Rattle.std.proofs.Common.{Bool, true, false, cond, ◌⊎◌, inl, inr, List, [], ◌∷◌, ◌++◌, length}
use Rattle.std.proofs.Common.{take, drop, slice_get, Option, None, Some, IfSome, option_and_then}
use Rattle.std.proofs.Common.{if◌then◌else◌}
use Rattle.std.proofs.Common.{length-append, length-drop, length-take, arith}
use Rattle.std.specs.Option.{option_map}
use Rattle.std.specs.Str.{chars, chars_after, continuation_len, lead_bits}
use Rattle.std.proofs.lemmas.Bool.{cases_lt}
use Rattle.std.proofs.lemmas.Option.{same_Some}
use Rattle.spell_types.specs.declared.Entry.{Entry}
use Rattle.spell_types.specs.declared.Lexicon.{Lexicon}
use Rattle.spell_types.specs.declared.derivations.Derivation.{Derivation}
use Rattle.spell_types.specs.declared.rules.Rule.{Rule}
use Rattle.spell_types.specs.declared.rules.Side.{Side}
use Rattle.spell_types.specs.declared.rules.Side.TheVariants.{Prefix, Suffix}
use Rattle.spell_types.specs.Attaching.{attached, attached_on, takes_prefix, takes_suffix}
use Rattle.spell_types.specs.Derivations.{Named, affix_on, form_of, formed, is_in_order}
use Rattle.spell_types.specs.Derivations.{is_same_side, named_with, with_affix}
use Rattle.affix_strip.specs.Lengths.{AreAddedWithin, AreWordsWithin, IsLongest}

-- ---- one affix
attached-within : (full_strip : Bool) (rule : Rule) (most : ℕ) (word text : List ℕ)
    → length rule.add ≤ most → attached full_strip rule word ≡ Some text
    → length text ≤ length word + most
unfolding attached
attached-within full_strip rule most word text few is = on rule.side is
  where
    behind : (takes : Bool)
        → cond takes (Some (take (length word - length rule.strip) word ++ rule.add)) None
        ≡ Some text → length text ≤ length word + most
    behind true is =
        omega (
          arith,
          few,
          ap length (same_Some (take (length word - length rule.strip) word ++ rule.add) text is),
          length-append (take (length word - length rule.strip) word) rule.add,
          length-take (length word - length rule.strip) word,
        )
    behind false is = absurd cc

    before : (takes : Bool) → cond takes (Some (rule.add ++ drop (length rule.strip) word)) None
        ≡ Some text → length text ≤ length word + most
    before true is =
        omega (
          arith,
          few,
          ap length (same_Some (rule.add ++ drop (length rule.strip) word) text is),
          length-append rule.add (drop (length rule.strip) word),
          length-drop (length rule.strip) word,
        )
    before false is = absurd cc

    on : (side : Side) → attached_on side full_strip rule word ≡ Some text
        → length text ≤ length word + most
    on Prefix is = before (takes_prefix full_strip rule word) is
    on Suffix is = behind (takes_suffix full_strip rule word) is

affix-within : (full_strip : Bool) (affix : Option Rule) (most : ℕ) (word text : List ℕ)
    → IfSome affix (λ rule. length rule.add ≤ most)
    → with_affix full_strip affix word ≡ Some text → length text ≤ length word + most
affix-within full_strip None most word text few is =
    omega (arith, ap length (same_Some word text is))
affix-within full_strip (Some rule) most word text few is =
    attached-within full_strip rule most word text few is

-- ---- an affix that is named
named-within : (rules : List Rule) (most : ℕ) (side : Side) (place : Option ℕ)
    → AreAddedWithin rules most
    → IfSome (affix_on rules side place) (λ rule. length rule.add ≤ most)
named-within rules most side None within = tt
named-within rules most side (Some place) within = at (slice_get rules place) refl
  where
    by : (rule : Rule) → length rule.add ≤ most → (same : Bool)
        → IfSome (cond same (Some rule) None) (λ rule. length rule.add ≤ most)
    by rule few true = few
    by rule few false = tt

    at : (found : Option Rule) → slice_get rules place ≡ found
        → IfSome (option_and_then (λ rule. if is_same_side side rule.side then Some rule else None)
        found) (λ rule. length rule.add ≤ most)
    at None is = tt
    at (Some rule) is = by rule (within place rule is) (is_same_side side rule.side)

-- ---- a form
formed-within : (full_strip : Bool) (n : Named) (most : ℕ) {text : List ℕ}
    → IfSome n.first (λ rule. length rule.add ≤ most)
    → IfSome n.second (λ rule. length rule.add ≤ most)
    → IfSome n.prefix (λ rule. length rule.add ≤ most)
    → formed full_strip n ≡ Some text → length text ≤ length n.entry.word + 3 * most
formed-within full_strip n most {text} first second prefix is =
    one (with_affix full_strip n.first n.entry.word) refl is
  where
    two : (stem : List ℕ) → length stem ≤ length n.entry.word + most → (found : Option (List ℕ))
        → with_affix full_strip n.second stem ≡ found
        → option_and_then (with_affix full_strip n.prefix) found ≡ Some text
        → length text ≤ length n.entry.word + 3 * most
    two stem short None at is = absurd cc
    two stem short (Some longer) at is =
        omega (
          arith,
          short,
          affix-within full_strip n.second most stem longer second at,
          affix-within full_strip n.prefix most longer text prefix is,
        )

    one : (found : Option (List ℕ)) → with_affix full_strip n.first n.entry.word ≡ found
        → option_and_then (with_affix full_strip n.prefix)
        (option_and_then (with_affix full_strip n.second) found) ≡ Some text
        → length text ≤ length n.entry.word + 3 * most
    one None at is = absurd cc
    one (Some stem) at is =
        two stem (omega
        (arith, affix-within full_strip n.first most n.entry.word stem first at))
        (with_affix full_strip n.second stem) refl is

form-within : (lexicon : Lexicon) (word most : ℕ) → AreWordsWithin lexicon.entries word
    → AreAddedWithin lexicon.affixes.rules most
    → (d : Derivation) (text : List ℕ) → form_of lexicon d ≡ Some text
    → length text ≤ word + 3 * most
unfolding form_of
form-within lexicon word most words added d text is =
    at (is_in_order lexicon.affixes.rules d) (slice_get lexicon.entries d.entry) refl is
  where
    rules : List Rule
    rules = lexicon.affixes.rules

    at : (ordered : Bool) (found : Option Entry) → slice_get lexicon.entries d.entry ≡ found
        → option_and_then (formed lexicon.affixes.options.full_strip)
        (if ordered then option_map (named_with rules d) found else None) ≡ Some text
        → length text ≤ word + 3 * most
    at true (Some entry) there is =
        omega (
          arith,
          words d.entry entry there,
          formed-within lexicon.affixes.options.full_strip (named_with rules d entry) most
              (named-within rules most Suffix d.first added)
              (named-within rules most Suffix d.second added)
              (named-within rules most Prefix d.prefix added) is,
        )
    at true None there is = absurd cc
    at false found there is = absurd cc

pub longest-is : (lexicon : Lexicon) (word most : ℕ) (told : Option ℕ)
    → AreWordsWithin lexicon.entries word → AreAddedWithin lexicon.affixes.rules most
    → IfSome told (λ longest. longest ≡ word + 3 * most) → IsLongest lexicon told
longest-is lexicon word most None words added is = tt
longest-is lexicon word most (Some longest) words added is =
    λ d text form. omega (arith, is, form-within lexicon word most words added d text form)

-- ---- a text has no more characters than bytes
few-after : (left lead : ℕ) (bytes : List ℕ)
    → length (chars_after left lead bytes) ≤ length bytes + 1
few-after zero lead [] = omega arith
few-after zero lead (byte ∷ bytes) =
    omega (arith, few-after (continuation_len byte) (lead_bits byte) bytes)
few-after (suc left) lead [] = omega arith
few-after (suc left) lead (byte ∷ bytes) =
    omega (arith, few-after left (lead * 64 + (byte - 128)) bytes)

pub few_chars : (bytes : List ℕ) → length (chars bytes) ≤ length bytes
unfolding chars
few_chars [] = omega arith
few_chars (byte ∷ bytes) =
    omega (arith, few-after (continuation_len byte) (lead_bits byte) bytes)

-- ---- the longest so far
-- one item more is looked at
pub one-longer : {X : Type 0} (size : X → ℕ) (xs : List X) (index : ℕ) (x : X) (found longer : ℕ)
    → slice_get xs index ≡ Some x → found ≤ longer → size x ≤ longer
    → ((place : ℕ) (y : X) → place < index → slice_get xs place ≡ Some y → size y ≤ found)
    → (place : ℕ) (y : X) → place < index + 1 → slice_get xs place ≡ Some y → size y ≤ longer
one-longer size xs index x found longer here more within so_far place y below at =
    by (cases_lt place index)
  where
    by : (place < index) ⊎ (index ≤ place) → size y ≤ longer
    by (inl before) = omega (arith, more, so_far place y before at)
    by (inr past) =
        let same : place ≡ index = omega (arith, past, below) in
        let item : x ≡ y = same_Some x y (sym here ∙ ap (slice_get xs) (sym same) ∙ at) in
        omega (arith, within, ap size item)
