-- Undoing affixes is the inverse of attaching them.
use Rattle.std.proofs.Common.{◌≡◌, ◌∙◌, ◌↔◌, refl, sym, ap, subst, ℕ, Bool, true, List, slice_get}
use Rattle.std.proofs.Common.{Option, None, Some, is_some, option_and_then, if◌then◌else◌}
use Rattle.std.proofs.lemmas.Option.{option_and_then_some, cond_some, same_Some}
use Rattle.std.proofs.lemmas.Slice.Eq.{bytes_eq-Decides}
use Rattle.spell_types.specs.declared.Affixes.{Affixes}
use Rattle.spell_types.specs.declared.rules.Rule.{Rule}
use Rattle.spell_types.specs.declared.rules.Side.{Side}
use Rattle.spell_types.specs.Attaching.{attached}
use Rattle.spell_types.specs.Derivations.{is_same_side, rule_on, affix_on, is_right, with_affix}
use Rattle.spell_types.specs.Licences.{is_word}
use Rattle.affix_classes.specs.Undoing.{undone_on}
use Rattle.spell_types.specs.Laws.{same_side}
use Rattle.affix_strip.proofs.UndoneWords.{LeadsBack, undone_at}

-- the second function leads back from each word that the first one gives, and from no other
pub record IsInverse (forward back : List ℕ → Option (List ℕ)) : Type 0 where
  pub is : (stem word : List ℕ) → (back word ≡ Some stem) ↔ (forward stem ≡ Some word)

pub rule_on-side : (rules : List Rule) (side : Side) (place : ℕ) (rule : Rule)
    → rule_on rules side place ≡ Some rule → rule.side ≡ side
rule_on-side rules side place rule on =
    option_and_then_some (λ (r : Rule). if is_same_side side r.side then Some r else None)
    (slice_get rules place) rule on (λ r at is.
    let parts = cond_some (is_same_side side r.side) r rule is in
    ap (λ (x : Rule). x.side) (sym parts.1) ∙ same_side side r.side parts.0)

undone_on-inverse : LeadsBack → (full_strip : Bool) (side : Side) (rule : Rule) → rule.side ≡ side
    → IsInverse (attached full_strip rule) (undone_on side full_strip rule)
undone_on-inverse leads_back full_strip side rule is =
    subst (λ s. IsInverse (attached full_strip rule) (undone_on s full_strip rule)) is
    (record { is = λ stem word. leads_back full_strip rule word stem })

on_rule : LeadsBack → (full_strip : Bool) (side : Side) (found : Option Rule) → is_some found ≡ true
    → ((rule : Rule) → found ≡ Some rule → rule.side ≡ side)
    → IsInverse (with_affix full_strip found)
    (λ word. option_and_then (λ rule. undone_on side full_strip rule word) found)
on_rule leads_back full_strip side None some sided = absurd (cc)
on_rule leads_back full_strip side (Some rule) some sided =
    record { is = (undone_on-inverse leads_back full_strip side rule (sided rule refl)).is }

-- what the rule with a place undoes is what it was attached to
pub undone_at-inverse : LeadsBack → (affixes : Affixes) (side : Side) (place : ℕ)
    → is_right affixes.rules side (Some place) ≡ true
    → IsInverse (with_affix affixes.options.full_strip (affix_on affixes.rules side (Some place)))
    (undone_at affixes side place)
undone_at-inverse leads_back affixes side place right =
    let on = on_rule leads_back affixes.options.full_strip side (rule_on affixes.rules side place)
    right (rule_on-side affixes.rules side place) in
    record { is = on.is }

-- a word tested
pub is_word-same : (word : List ℕ) (form : Option (List ℕ)) → is_word word form ≡ true
    → form ≡ Some word
is_word-same word None is = absurd (cc)
is_word-same word (Some form) is = ap (λ w. Some w) ((bytes_eq-Decides form word).0 is)

pub same-is_word : (word : List ℕ) (form : Option (List ℕ)) → form ≡ Some word
    → is_word word form ≡ true
same-is_word word None same = absurd (cc)
same-is_word word (Some form) same = (bytes_eq-Decides form word).1 (same_Some form word same)
