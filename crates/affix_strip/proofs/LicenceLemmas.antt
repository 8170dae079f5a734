-- What follows from a licence: the derivation is in order, its form is made step by step, and a
-- second suffix stands behind a first one that carries its flag.
use Rattle.std.proofs.Common.{◌≡◌, ◌∙◌, refl, ap, ℕ, Bool, true, false, cond, ◌&&◌, ◌||◌, List}
use Rattle.std.proofs.Common.{slice_get, Option, None, Some, is_none, is_some, option_and_then}
use Rattle.std.proofs.Common.{if◌then◌else◌}
use Rattle.std.specs.Option.{option_map}
use Rattle.std.proofs.lemmas.Bool.{and_parts}
use Rattle.spell_types.specs.declared.Entry.{Entry}
use Rattle.spell_types.specs.declared.Lexicon.{Lexicon}
use Rattle.spell_types.specs.declared.derivations.Derivation.{Derivation}
use Rattle.spell_types.specs.declared.rules.Rule.{Rule}
use Rattle.spell_types.specs.declared.rules.Side.TheVariants.{Prefix, Suffix}
use Rattle.spell_types.specs.Derivations.{Named, is_in_order, is_right, named, named_with, affix_on}
use Rattle.spell_types.specs.Derivations.{rule_on, formed, form_of}
use Rattle.spell_types.specs.Flags.{has}
use Rattle.spell_types.specs.Licences.{holds_of, is_allowed, is_licensed, is_first_allowed}
use Rattle.spell_types.specs.Licences.{is_second_allowed, is_prefix_allowed, is_crossing_right}
use Rattle.spell_types.specs.Licences.{carried_by, allows}
use Rattle.affix_strip.specs.Parts.{with_all}

pub licensed-named : (lexicon : Lexicon) (d : Derivation) → is_licensed lexicon d ≡ true
    → is_in_order lexicon.affixes.rules d ≡ true
unfolding is_licensed
licensed-named lexicon d is =
    at (is_in_order lexicon.affixes.rules d)
    (option_map (named_with lexicon.affixes.rules d) (slice_get lexicon.entries d.entry)) is
  where
    at : (b : Bool) (found : Option Named) → holds_of is_allowed (if b then found else None) ≡ true
        → b ≡ true
    at true found is = refl
    at false found is = is

-- each affix is of its side, and a second suffix has a first one
pub record InOrder (lexicon : Lexicon) (d : Derivation) : Type 0 where
  pub prefix : is_right lexicon.affixes.rules Prefix d.prefix ≡ true
  pub first : is_right lexicon.affixes.rules Suffix d.first ≡ true
  pub second : is_right lexicon.affixes.rules Suffix d.second ≡ true
  pub inside : (is_none d.second || is_some d.first) ≡ true

pub licensed-order : (lexicon : Lexicon) (d : Derivation) → is_licensed lexicon d ≡ true
    → InOrder lexicon d
licensed-order lexicon d is =
    let rules = lexicon.affixes.rules in
    let one = and_parts (is_right rules Prefix d.prefix)
    (is_right rules Suffix d.first
    && (is_right rules Suffix d.second && (is_none d.second || is_some d.first)))
    (licensed-named lexicon d is) in
    let two = and_parts (is_right rules Suffix d.first)
    (is_right rules Suffix d.second && (is_none d.second || is_some d.first)) one.1 in
    let three =
    and_parts (is_right rules Suffix d.second) (is_none d.second || is_some d.first)
    two.1 in
    record { prefix = one.0; first = two.0; second = three.0; inside = three.1 }

-- ---- the form
pub form-parts : (lexicon : Lexicon) (d : Derivation) → is_licensed lexicon d ≡ true
    → form_of lexicon d ≡ with_all lexicon d
unfolding form_of
form-parts lexicon d is =
    let rules = lexicon.affixes.rules in
    ap (λ b. option_and_then (formed lexicon.affixes.options.full_strip)
    (cond b (option_map (named_with rules d) (slice_get lexicon.entries d.entry)) None))
    (licensed-named lexicon d is)
    ∙ at (slice_get lexicon.entries d.entry) refl
  where
    at : (found : Option Entry) → slice_get lexicon.entries d.entry ≡ found
        → option_and_then (formed lexicon.affixes.options.full_strip)
        (option_map (named_with lexicon.affixes.rules d) (slice_get lexicon.entries d.entry))
        ≡ with_all lexicon d
    at None there = rw there refl
    at (Some entry) there = rw there refl

-- ---- the second suffix
licensed-second : (lexicon : Lexicon) (d : Derivation) → is_licensed lexicon d ≡ true
    → allows (carried_by (affix_on lexicon.affixes.rules Suffix d.first))
    (affix_on lexicon.affixes.rules Suffix d.second) ≡ true
unfolding is_licensed
licensed-second lexicon d is =
    at (is_in_order lexicon.affixes.rules d) (slice_get lexicon.entries d.entry) is
  where
    allowed : (n : Named) → is_allowed n ≡ true → is_second_allowed n ≡ true
    allowed n holds =
        (and_parts (is_second_allowed n) (is_prefix_allowed n && is_crossing_right n)
        (and_parts (is_first_allowed n)
        (is_second_allowed n && (is_prefix_allowed n && is_crossing_right n)) holds).1).0

    at : (b : Bool) (found : Option Entry)
        → holds_of is_allowed
        (if b then option_map (named_with lexicon.affixes.rules d) found else None) ≡ true
        → allows (carried_by (affix_on lexicon.affixes.rules Suffix d.first))
        (affix_on lexicon.affixes.rules Suffix d.second) ≡ true
    at true None is = absurd (cc)
    at true (Some entry) is = allowed (named_with lexicon.affixes.rules d entry) is
    at false found is = absurd (cc)

-- a rule of a side at a place
pub record IsCarrier (rules : List Rule) (second : Rule) : Type 0 where
  pub place : ℕ
  pub rule : Rule
  pub on : rule_on rules Suffix place ≡ Some rule
  pub carries : has rule.carried (Some second.flag) ≡ true

pub carrier : (lexicon : Lexicon) (d : Derivation) (second : Rule) → is_licensed lexicon d ≡ true
    → affix_on lexicon.affixes.rules Suffix d.second ≡ Some second
    → IsCarrier lexicon.affixes.rules second
carrier lexicon d second is named = at d.first (rw named at (licensed-second lexicon d is))
  where
    by : (place : ℕ) (found : Option Rule) → rule_on lexicon.affixes.rules Suffix place ≡ found
        → has (carried_by found) (Some second.flag) ≡ true → IsCarrier lexicon.affixes.rules second
    by place None there holds = absurd (cc)
    by place (Some rule) there holds =
        record { place = place; rule = rule; on = there; carries = holds }

    at : (first : Option ℕ) → has (carried_by (affix_on lexicon.affixes.rules Suffix first))
        (Some second.flag) ≡ true → IsCarrier lexicon.affixes.rules second
    at None holds = absurd (cc)
    at (Some place) holds = by place (rule_on lexicon.affixes.rules Suffix place) refl holds
