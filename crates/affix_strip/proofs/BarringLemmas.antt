-- What the flags of forbidden entries say: whether a forbidden word has affixes.
use Rattle.std.proofs.Common.{◌≡◌, ◌∙◌, ◌↔◌, ◌⊎◌, inl, inr, refl, sym, ap, ℕ, Bool, true, false}
use Rattle.std.proofs.Common.{true≢false, ◌&&◌, ◌||◌, IsTrue, List, [], slice_get, Contains, Option}
use Rattle.std.proofs.Common.{None, Some, is_none, is_some, if◌then◌else◌}
use Rattle.std.specs.List.{list_any}
use Rattle.std.specs.Option.{option_map}
use Rattle.std.proofs.lemmas.Bool.{and_parts, and_from, false_from_ne_true, or_cases}
use Rattle.std.proofs.lemmas.Option.{option_and_then_some}
use Rattle.spell_types.specs.declared.Entry.{Entry}
use Rattle.spell_types.specs.declared.Lexicon.{Lexicon}
use Rattle.spell_types.specs.declared.derivations.Derivation.{Derivation}
use Rattle.spell_types.specs.declared.flags.Flag.{Flag}
use Rattle.spell_types.specs.declared.rules.Rule.{Rule}
use Rattle.spell_types.specs.declared.rules.Side.{Side}
use Rattle.spell_types.specs.declared.rules.Side.TheVariants.{Prefix, Suffix}
use Rattle.spell_types.specs.Derivations.{named_with, affix_on, rule_on, is_right, is_in_order}
use Rattle.spell_types.specs.Flags.{has, has_flag_of}
use Rattle.spell_types.specs.Licences.{holds_of, allows, carried_by, is_allowed, is_first_allowed}
use Rattle.spell_types.specs.Licences.{is_second_allowed, is_prefix_allowed, is_crossing_right}
use Rattle.spell_types.specs.Licences.{meets_signs, meets_need, meets_circumfix, is_forbidden}
use Rattle.spell_types.specs.lists.Laws.{any-at, any-contains}
use Rattle.affix_strip.specs.Classes.{HasClasses}
use Rattle.affix_strip.specs.Tables.{is_forbidden_entry, takes_affixes}
use Rattle.affix_strip.specs.Tables.{OfForbidden, AllowsNone}
use Rattle.affix_strip.proofs.TableLemmas.{on-rule}

-- ---- what is known of entries
-- no entry is forbidden
pub nowhere : (lexicon : Lexicon) → list_any (is_forbidden_entry lexicon) lexicon.entries ≡ false
    → OfForbidden lexicon (λ entry. ⊥)
nowhere lexicon none place entry at forbidden =
    true≢false (sym (any-at (is_forbidden_entry lexicon) lexicon.entries place entry at forbidden)
    ∙ none)

-- none that is has a flag of a class
pub at-entries : (lexicon : Lexicon) (classes : List Flag)
    → ((set : List Flag) (flag : Flag) → IsTrue (has set (Some flag)) ↔ Contains set flag)
    → HasClasses lexicon.affixes.rules classes
    → list_any (takes_affixes lexicon classes) lexicon.entries ≡ false
    → OfForbidden lexicon (AllowsNone lexicon.affixes.rules)
at-entries lexicon classes told are none place entry at forbidden other rule at_rule =
    false_from_ne_true (has entry.flags (Some rule.flag)) (λ holds.
    true≢false (sym (any-at (takes_affixes lexicon classes) lexicon.entries place entry at
    (and_from (is_forbidden_entry lexicon entry) (has_flag_of classes entry.flags) forbidden
    (any-contains (λ flag. has classes (Some flag)) entry.flags rule.flag
    ((told entry.flags rule.flag).0 holds) (are.flags other rule at_rule)))) ∙ none))

-- ---- what is known of derivations
-- the entry of a derivation of a forbidden word
pub record IsFrom (lexicon : Lexicon) (d : Derivation) : Type 0 where
  pub entry : Entry
  pub at : slice_get lexicon.entries d.entry ≡ Some entry
  pub forbidden : is_forbidden_entry lexicon entry ≡ true
  pub allowed : is_allowed (named_with lexicon.affixes.rules d entry) ≡ true
  pub ordered : is_in_order lexicon.affixes.rules d ≡ true

pub from-forbidden : (lexicon : Lexicon) (d : Derivation) → is_forbidden lexicon d ≡ true
    → IsFrom lexicon d
unfolding is_forbidden
from-forbidden lexicon d is =
    at (is_in_order lexicon.affixes.rules d) refl (slice_get lexicon.entries d.entry) refl is
  where
    known : (entry : Entry) → slice_get lexicon.entries d.entry ≡ Some entry
        → is_in_order lexicon.affixes.rules d ≡ true
        → (meets_signs lexicon.affixes.signs (named_with lexicon.affixes.rules d entry)
        && has entry.flags lexicon.affixes.signs.forbidden) ≡ true → IsFrom lexicon d
    known entry there ordered both =
        let n = named_with lexicon.affixes.rules d entry in
        let parts =
        and_parts (meets_signs lexicon.affixes.signs n)
        (has entry.flags lexicon.affixes.signs.forbidden) both in
        record {
          entry = entry;
          at = there;
          forbidden = parts.1;
          allowed = (and_parts (is_allowed n)
              (meets_need lexicon.affixes.signs.need_affix n
              && meets_circumfix lexicon.affixes.signs.circumfix n) parts.0).0;
          ordered = ordered;
        }

    at : (b : Bool) → is_in_order lexicon.affixes.rules d ≡ b → (found : Option Entry)
        → slice_get lexicon.entries d.entry ≡ found
        → holds_of (λ n. meets_signs lexicon.affixes.signs n
        && has n.entry.flags lexicon.affixes.signs.forbidden)
        (if b then option_map (named_with lexicon.affixes.rules d) found else None) ≡ true
        → IsFrom lexicon d
    at true ordered (Some entry) there is = known entry there ordered is
    at true ordered None there is = absurd (cc)
    at false ordered found there is = absurd (cc)

by-nothing : (found : Option Rule) → allows [] found ≡ true → found ≡ None
by-nothing None holds = refl
by-nothing (Some rule) holds = absurd (cc)

unnamed : (rules : List Rule) (side : Side) (named : Option ℕ) → is_right rules side named ≡ true
    → affix_on rules side named ≡ None → named ≡ None
unnamed rules side None right is = refl
unnamed rules side (Some place) right is = absurd (true≢false (sym right ∙ ap is_some is))

-- a derivation from an entry that allows no affix has none
module _ (rules : List Rule) (d : Derivation) (entry : Entry) (none : AllowsNone rules entry) where
  no-rule : (side : Side) (named : Option ℕ) (rule : Rule) → affix_on rules side named ≡ Some rule
      → has entry.flags (Some rule.flag) ≡ false
  no-rule side named rule is =
      option_and_then_some (rule_on rules side) named rule is
      (λ place there on. none place rule (on-rule rules side place rule on))

  not-allowed : (side : Side) (named : Option ℕ) (found : Option Rule)
      → affix_on rules side named ≡ found → allows entry.flags found ≡ true → found ≡ None
  not-allowed side named None is holds = refl
  not-allowed side named (Some rule) is holds =
      absurd (true≢false (sym holds ∙ no-rule side named rule is))

  no-first : (prefix first : Option Rule) → affix_on rules Prefix d.prefix ≡ prefix
      → affix_on rules Suffix d.first ≡ first
      → (allows entry.flags first
      || (allows entry.flags prefix && allows (carried_by prefix) first)) ≡ true → first ≡ None
  no-first prefix first before behind holds =
      by (or_cases (allows entry.flags first)
      (allows entry.flags prefix && allows (carried_by prefix) first) holds)
    where
      by : (allows entry.flags first ≡ true)
          ⊎ ((allows entry.flags prefix && allows (carried_by prefix) first) ≡ true) → first ≡ None
      by (inl allowed) = not-allowed Suffix d.first first behind allowed
      by (inr both) =
          let parts =
          and_parts (allows entry.flags prefix) (allows (carried_by prefix) first) both in
          by-nothing first
          (sym (ap (λ found. allows (carried_by found) first)
          (not-allowed Prefix d.prefix prefix before parts.0)) ∙ parts.1)

  no-prefix : (prefix first second : Option Rule) → affix_on rules Prefix d.prefix ≡ prefix
      → first ≡ None → second ≡ None
      → (allows entry.flags prefix
      || (allows (carried_by first) prefix || allows (carried_by second) prefix)) ≡ true
      → prefix ≡ None
  no-prefix prefix first second before one two holds =
      by (or_cases (allows entry.flags prefix)
      (allows (carried_by first) prefix || allows (carried_by second) prefix) holds)
    where
      on-suffix : (allows (carried_by first) prefix ≡ true)
          ⊎ (allows (carried_by second) prefix ≡ true) → prefix ≡ None
      on-suffix (inl allowed) =
          by-nothing prefix (sym (ap (λ found. allows (carried_by found) prefix) one) ∙ allowed)
      on-suffix (inr allowed) =
          by-nothing prefix (sym (ap (λ found. allows (carried_by found) prefix) two) ∙ allowed)

      by : (allows entry.flags prefix ≡ true)
          ⊎ ((allows (carried_by first) prefix || allows (carried_by second) prefix) ≡ true)
          → prefix ≡ None
      by (inl allowed) = not-allowed Prefix d.prefix prefix before allowed
      by (inr either) =
          on-suffix (or_cases (allows (carried_by first) prefix) (allows (carried_by second) prefix)
          either)

  pub no-affixes : is_allowed (named_with rules d entry) ≡ true → is_in_order rules d ≡ true
      → (d.prefix ≡ None) × ((d.first ≡ None) × (d.second ≡ None))
  no-affixes allowed ordered =
      let n = named_with rules d entry in
      let one = and_parts (is_first_allowed n)
      (is_second_allowed n && (is_prefix_allowed n && is_crossing_right n)) allowed in
      let two = and_parts (is_second_allowed n) (is_prefix_allowed n && is_crossing_right n)
      one.1 in
      let three = and_parts (is_prefix_allowed n) (is_crossing_right n) two.1 in
      let right =
      and_parts (is_right rules Prefix d.prefix)
      (is_right rules Suffix d.first
      && (is_right rules Suffix d.second && (is_none d.second || is_some d.first))) ordered in
      let rights =
      and_parts (is_right rules Suffix d.first)
      (is_right rules Suffix d.second && (is_none d.second || is_some d.first)) right.1 in
      let last = and_parts (is_right rules Suffix d.second) (is_none d.second || is_some d.first)
      rights.1 in
      let first : n.first ≡ None = no-first n.prefix n.first refl refl one.0 in
      let second : n.second ≡ None =
      by-nothing n.second (sym (ap (λ found. allows (carried_by found) n.second) first)
      ∙ two.0) in
      let prefix : n.prefix ≡ None =
      no-prefix n.prefix n.first n.second refl first second three.0 in (
        unnamed rules Prefix d.prefix right.0 prefix,
        (
          unnamed rules Suffix d.first rights.0 first,
          unnamed rules Suffix d.second last.0
              second,
        ),
      )
