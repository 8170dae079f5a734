-- Each derivation that stands before another part is made of a known word by affixes that are noted.
use Rattle.std.proofs.Common.{◌≡◌, ◌∙◌, ◌↔◌, ◌⊎◌, inl, inr, refl, sym, ap, ℕ, suc, ◌-◌, Bool}
use Rattle.std.proofs.Common.{true, false, true≢false, not, cond, ◌&&◌, ◌||◌, IsTrue, List, [], ◌∷◌}
use Rattle.std.proofs.Common.{◌++◌, append-nil, length, take, drop, take_all}
use Rattle.std.proofs.Common.{slice_get, Contains, Option, None, Some, is_none}
use Rattle.std.proofs.Common.{option_and_then, if◌then◌else◌, arith}
use Rattle.std.proofs.Common.{◌<◌}
use Rattle.std.proofs.Common.{length-take-le}
use Rattle.std.proofs.Common.{length-drop}
use Rattle.std.proofs.Common.{◌+◌}
use Rattle.std.proofs.Common.{take-append-drop}
use Rattle.std.specs.List.{list_any}
use Rattle.std.specs.Option.{option_map, option_map_or}
use Rattle.std.proofs.lemmas.Bool.{and_parts, and_from, or_cases}
use Rattle.std.proofs.lemmas.Option.{option_and_then_some, same_Some}
use Rattle.spell_types.specs.lists.Laws.{any-contains}
use Rattle.spell_types.specs.declared.Entry.{Entry}
use Rattle.spell_types.specs.declared.Lexicon.{Lexicon}
use Rattle.spell_types.specs.declared.derivations.Derivation.{Derivation}
use Rattle.spell_types.specs.declared.flags.Flag.{Flag}
use Rattle.spell_types.specs.declared.parts.Place.{Place}
use Rattle.spell_types.specs.declared.parts.Place.TheVariants.{First, Middle}
use Rattle.spell_types.specs.declared.patterns.PatternStep.{PatternStep}
use Rattle.spell_types.specs.declared.rules.Rule.{Rule}
use Rattle.spell_types.specs.declared.rules.Side.{Side}
use Rattle.spell_types.specs.declared.rules.Side.TheVariants.{Prefix, Suffix}
use Rattle.spell_types.specs.declared.signs.Signs.{Signs}
use Rattle.spell_types.specs.Attaching.{attached, attached_on, takes_prefix, takes_suffix}
use Rattle.spell_types.specs.Derivations.{Named, affix_on, form_of, formed, is_in_order, named}
use Rattle.spell_types.specs.Derivations.{is_same_side, named_with, rule_on, with_affix}
use Rattle.spell_types.specs.EntriesOf.{entry_flags}
use Rattle.spell_types.specs.Flags.{has, has_flag_of}
use Rattle.spell_types.specs.Laws.{own_side}
use Rattle.spell_types.specs.Licences.{holds_of, carried_by, is_affix_without, is_allowed}
use Rattle.spell_types.specs.Licences.{is_licensed, some_affix_carries, some_carry, has_some_with}
use Rattle.spell_types.specs.Licences.{has_prefix_without, has_suffix_without, has_affix_with}
use Rattle.spell_types.specs.Licences.{is_second_allowed}
use Rattle.spell_types.specs.Licences.{allows}
use Rattle.spell_types.specs.Licences.{is_prefix_allowed}
use Rattle.spell_types.specs.Licences.{is_first_allowed}
use Rattle.spell_types.specs.Licences.{is_crossing_right}
use Rattle.spell_types.specs.Parts.{is_last, stands_at, stands_in_rule}
use Rattle.spell_types.specs.Parts.{is_allowed_at, has_right_entry, is_not_forbidden_at}
use Rattle.spell_types.specs.Parts.{are_affixes_permitted_at, are_suffixes_few_at}
use Rattle.spell_types.specs.Patterns.{fits_step}
use Rattle.affix_strip.specs.declared.edges.Edge.{Edge}
use Rattle.affix_strip.specs.declared.inside.Inside.{Inside}
use Rattle.affix_strip.specs.declared.edges.Those.{Those}
use Rattle.affix_strip.specs.declared.edges.Those.TheVariants.{All, Carrying}
use Rattle.affix_strip.specs.Edges.{is_rule_among, IsNoted, IsEdge}
use Rattle.affix_strip.specs.Edges.{IsNotedChange}
use Rattle.affix_strip.specs.Inside.{one_fits, has_step, StandsInside, ByFlags, InRule}
use Rattle.affix_strip.specs.Inside.{HasGiven, HasInnerFlags, IsInsideOfLexicon}
use Rattle.affix_strip.specs.Inside.{ReachesParts}
use Rattle.affix_strip.specs.Inside.{front_exchanged}
use Rattle.affix_strip.specs.Inside.{end_exchanged}
use Rattle.affix_strip.specs.Inside.{ReachesEnds}
use Rattle.affix_strip.proofs.InverseLemmas.{rule_on-side}
use Rattle.affix_strip.proofs.TableLemmas.{on-rule}
use Rattle.affix_strip.specs.Reaching.{piece_between}
use Rattle.affix_strip.specs.Reaching.{is_reached}

-- ---- what a licence names
-- a derivation names an entry and affixes, which are allowed
pub record Names (lexicon : Lexicon) (d : Derivation) : Type 0 where
  pub entry : Entry
  pub at : slice_get lexicon.entries d.entry ≡ Some entry
  pub ordered : is_in_order lexicon.affixes.rules d ≡ true
  pub allowed : is_allowed (named_with lexicon.affixes.rules d entry) ≡ true

pub names-of : (lexicon : Lexicon) (d : Derivation) → is_licensed lexicon d ≡ true → Names lexicon d
unfolding is_licensed
names-of lexicon d is =
    at (is_in_order lexicon.affixes.rules d) refl (slice_get lexicon.entries d.entry) refl is
  where
    at : (b : Bool) → is_in_order lexicon.affixes.rules d ≡ b → (found : Option Entry)
        → slice_get lexicon.entries d.entry ≡ found
        → holds_of is_allowed
        (if b then option_map (named_with lexicon.affixes.rules d) found else None) ≡ true
        → Names lexicon d
    at true ordered (Some entry) there is =
        record { entry = entry; at = there; ordered = ordered; allowed = is }
    at true ordered None there is = absurd (cc)
    at false ordered found there is = absurd (cc)

module _ (lexicon : Lexicon) (d : Derivation) (names : Names lexicon d) where
  abbrev rules : List Rule
  rules = lexicon.affixes.rules

  abbrev pub own : Named
  own = named_with rules d names.entry

  own-named : named lexicon d ≡ Some own
  own-named =
      ap (λ b. cond b (option_map (named_with rules d) (slice_get lexicon.entries d.entry)) None)
      names.ordered
      ∙ ap (option_map (named_with rules d)) names.at

  pub own-form : form_of lexicon d ≡ formed lexicon.affixes.options.full_strip own
  unfolding form_of
  own-form = ap (option_and_then (formed lexicon.affixes.options.full_strip)) own-named

  own-flags : entry_flags lexicon d ≡ names.entry.flags
  own-flags = ap (λ found. option_map_or (λ (e : Entry). e.flags) found []) names.at

-- ---- affixes that stand there
-- each affix is one of those of its side, and there is one suffix at most
pub record Wants (lexicon : Lexicon) (those : Those) (d : Derivation) (n : Named) : Type 0 where
  pub prefix : (rule : Rule) → n.prefix ≡ Some rule → is_rule_among those rule ≡ true
  pub first : (rule : Rule) → n.first ≡ Some rule
      → has rule.carried lexicon.affixes.signs.permit ≡ true
  pub second : d.second ≡ None

carried-with : (flag : Option Flag) (affix : Option Rule) → is_affix_without flag affix ≡ false
    → (rule : Rule) → affix ≡ Some rule → has rule.carried flag ≡ true
carried-with flag affix with-it rule is = by (has rule.carried flag) refl
  where
    by : (b : Bool) → has rule.carried flag ≡ b → has rule.carried flag ≡ true
    by true holds = holds
    by false holds =
        absurd (true≢false (sym (ap (is_affix_without flag) is ∙ ap not holds) ∙ with-it))

no-rule : {X : Type 0} (affix : Option Rule) → affix ≡ None → (rule : Rule) → affix ≡ Some rule → X
no-rule affix none rule is = absurd (cc)

or-false : (a b : Bool) → (a || b) ≡ false → (a ≡ false) × (b ≡ false)
or-false true b is = absurd (true≢false is)
or-false false b is = (refl, is)

not-so : (b : Bool) → not b ≡ true → b ≡ false
not-so true is = absurd (true≢false (sym is))
not-so false is = refl

module _ (lexicon : Lexicon) (d : Derivation) (names : Names lexicon d) where
  abbrev permit : Option Flag
  permit = lexicon.affixes.signs.permit

  permitted-ends : has_suffix_without permit lexicon d ≡ false
      → (is_affix_without permit (own lexicon d names).first ≡ false)
      × (is_affix_without permit (own lexicon d names).second ≡ false)
  unfolding has_suffix_without
  permitted-ends is =
      or-false (is_affix_without permit (own lexicon d names).first)
      (is_affix_without permit (own lexicon d names).second)
      (sym (ap (holds_of (λ n. is_affix_without permit n.first || is_affix_without permit n.second))
      (own-named lexicon d names)) ∙ is)

  permitted-front : has_prefix_without permit lexicon d ≡ false
      → is_affix_without permit (own lexicon d names).prefix ≡ false
  unfolding has_prefix_without
  permitted-front is =
      sym (ap (holds_of (λ n. is_affix_without permit n.prefix)) (own-named lexicon d names)) ∙ is

  -- what stands by its flags, before another part
  record ByFlagsAt (place : Place) : Type 0 where
    allowed : is_allowed_at lexicon d place ≡ true
    permitted : are_affixes_permitted_at lexicon d place ≡ true
    few : are_suffixes_few_at lexicon d place ≡ true

  flags-parts : (place : Place) → stands_at lexicon d place ≡ true → ByFlagsAt place
  unfolding stands_at
  flags-parts place is =
      let one = and_parts (is_allowed_at lexicon d place)
      (has_right_entry lexicon d
      && (is_not_forbidden_at lexicon d place
      && (are_affixes_permitted_at lexicon d place && are_suffixes_few_at lexicon d place))) is in
      let two = and_parts (has_right_entry lexicon d)
      (is_not_forbidden_at lexicon d place
      && (are_affixes_permitted_at lexicon d place && are_suffixes_few_at lexicon d place))
      one.1 in
      let three = and_parts (is_not_forbidden_at lexicon d place)
      (are_affixes_permitted_at lexicon d place && are_suffixes_few_at lexicon d place) two.1 in
      let four = and_parts (are_affixes_permitted_at lexicon d place)
      (are_suffixes_few_at lexicon d place) three.1 in
      record { allowed = one.0; permitted = four.0; few = four.1 }

  -- what stands in a rule, before another part, has no affix
  record Bare : Type 0 where
    prefix : d.prefix ≡ None
    first : d.first ≡ None
    second : d.second ≡ None

  is-none : (named : Option ℕ) → is_none named ≡ true → named ≡ None
  is-none None is = refl
  is-none (Some place) is = absurd (true≢false (sym is))

  rule-parts : (place : Place) → is_last place ≡ false → stands_in_rule lexicon d place ≡ true
      → Bare
  unfolding stands_in_rule
  rule-parts place inner is =
      let one = and_parts (has_right_entry lexicon d)
      (not (has_affix_with lexicon.affixes.signs.forbid lexicon d)
      && (is_none d.prefix && (is_last place || (is_none d.first && is_none d.second)))) is in
      let two = and_parts (not (has_affix_with lexicon.affixes.signs.forbid lexicon d))
      (is_none d.prefix && (is_last place || (is_none d.first && is_none d.second))) one.1 in
      let three = and_parts (is_none d.prefix)
      (is_last place || (is_none d.first && is_none d.second)) two.1 in
      let four = and_parts (is_none d.first) (is_none d.second)
      (sym (ap (λ b. b || (is_none d.first && is_none d.second)) inner) ∙ three.1) in
      record {
        prefix = is-none d.prefix three.0;
        first = is-none d.first four.0;
        second = is-none d.second four.1;
      }

  bare-wants : (those : Those) → Bare → Wants lexicon those d (own lexicon d names)
  bare-wants those bare = record {
    prefix = λ rule. no-rule (own lexicon d names).prefix
        (ap (affix_on lexicon.affixes.rules Prefix) bare.prefix) rule;
    first = λ rule. no-rule (own lexicon d names).first
        (ap (affix_on lexicon.affixes.rules Suffix) bare.first) rule;
    second = bare.second;
  }

  -- before another part there is no second suffix, unless each part may have one
  one-suffix : (place : Place) → lexicon.affixes.options.more_suffixes ≡ false
      → is_last place ≡ false → are_suffixes_few_at lexicon d place ≡ true → d.second ≡ None
  one-suffix place one inner few = by (or_cases (is_none d.second)
      (is_last place || lexicon.affixes.options.more_suffixes) few)
    where
      by : (is_none d.second ≡ true)
          ⊎ ((is_last place || lexicon.affixes.options.more_suffixes) ≡ true) → d.second ≡ None
      by (inl none) = is-none d.second none
      by (inr more) =
          absurd (true≢false (sym more
          ∙ ap (λ b. b || lexicon.affixes.options.more_suffixes) inner ∙ one))

  pub wants-first : lexicon.affixes.options.more_suffixes ≡ false → StandsInside lexicon First d
      → Wants lexicon All d (own lexicon d names)
  wants-first one (ByFlags stands) =
      let both = flags-parts First stands in
      let ends = permitted-ends (not-so (has_suffix_without permit lexicon d) both.permitted) in
      record {
        prefix = λ rule is. refl;
        first = carried-with permit (own lexicon d names).first ends.0;
        second = one-suffix First one refl both.few;
      }
  wants-first one (InRule stands step) = bare-wants All (rule-parts First refl stands)

  pub wants-middle : lexicon.affixes.options.more_suffixes ≡ false → StandsInside lexicon Middle d
      → Wants lexicon (Carrying permit) d (own lexicon d names)
  wants-middle one (ByFlags stands) =
      let parts = flags-parts Middle stands in
      let both = and_parts (not (has_prefix_without permit lexicon d))
      (not (has_suffix_without permit lexicon d)) parts.permitted in
      let ends = permitted-ends (not-so (has_suffix_without permit lexicon d) both.1) in
      record {
        prefix = carried-with permit (own lexicon d names).prefix
            (permitted-front (not-so (has_prefix_without permit lexicon d) both.0));
        first = carried-with permit (own lexicon d names).first ends.0;
        second = one-suffix Middle one refl parts.few;
      }
  wants-middle one (InRule stands step) =
      bare-wants (Carrying permit) (rule-parts Middle refl stands)

-- ---- the flags of the entry
module _ (told : (set : List Flag) (flag : Flag) → IsTrue (has set (Some flag))
    ↔ Contains set flag) (lexicon : Lexicon) (set : List Flag)
    (are : HasInnerFlags lexicon.affixes set) (d : Derivation) (names : Names lexicon d) where
  abbrev flags : List Flag
  flags = names.entry.flags

  -- one that is in both
  common : (own : List Flag) (flag : Flag) → has own (Some flag) ≡ true
      → has set (Some flag) ≡ true → has_flag_of set own ≡ true
  common own flag has_it there =
      any-contains (λ f. has set (Some f)) own flag ((told own flag).0 has_it) there

  by-steps : (steps : List PatternStep)
      → ((place : ℕ) (step : PatternStep) → slice_get steps place ≡ Some step
      → has set (Some step.flag) ≡ true)
      → one_fits flags steps ≡ true → has_flag_of set flags ≡ true
  by-steps [] all any = absurd (true≢false (sym any))
  by-steps (step ∷ more) all any =
      either (by-steps more (λ place s at. all (suc place) s at))
      (or_cases (fits_step step flags) (one_fits flags more) any)
    where
      either : (one_fits flags more ≡ true → has_flag_of set flags ≡ true)
          → (fits_step step flags ≡ true) ⊎ (one_fits flags more ≡ true)
          → has_flag_of set flags ≡ true
      either later (inl fits) = common flags step.flag fits (all 0 step refl)
      either later (inr any) = later any

  by-patterns : (patterns : List (List PatternStep))
      → ((place : ℕ) (steps : List PatternStep) → slice_get patterns place ≡ Some steps
      → (n : ℕ) (step : PatternStep) → slice_get steps n ≡ Some step
      → has set (Some step.flag) ≡ true)
      → list_any (one_fits flags) patterns ≡ true → has_flag_of set flags ≡ true
  by-patterns [] all any = absurd (true≢false (sym any))
  by-patterns (steps ∷ more) all any =
      either (by-patterns more (λ place s at. all (suc place) s at))
      (or_cases (one_fits flags steps) (list_any (one_fits flags) more) any)
    where
      either : (list_any (one_fits flags) more ≡ true → has_flag_of set flags ≡ true)
          → (one_fits flags steps ≡ true) ⊎ (list_any (one_fits flags) more ≡ true)
          → has_flag_of set flags ≡ true
      either later (inl fits) = by-steps steps (all 0 steps refl) fits
      either later (inr any) = later any

  abbrev n : Named
  n = own lexicon d names

  -- the flag of the affix's class is in the set
  abbrev IsInSet : Option Rule → Type 0
  IsInSet None = ⊥
  IsInSet (Some rule) = has set (Some rule.flag) ≡ true

  -- that of an affix is there that carries a flag of the set
  carrier-in : (side : Side) (named : Option ℕ) (affix : Option Rule)
      → affix_on lexicon.affixes.rules side named ≡ affix → (flag : Flag)
      → has (carried_by affix) (Some flag) ≡ true → has set (Some flag) ≡ true → IsInSet affix
  carrier-in side named None at flag carries there = absurd (true≢false (sym carries))
  carrier-in side named (Some rule) at flag carries there =
      option_and_then_some (rule_on lexicon.affixes.rules side) named rule at (λ place is on.
      are.closed place rule (on-rule lexicon.affixes.rules side place rule on)
      (common rule.carried flag carries there))

  -- and that of one that allows such an affix
  allowing-in : (side : Side) (named : Option ℕ) (affix allowed : Option Rule)
      → affix_on lexicon.affixes.rules side named ≡ affix → IsInSet allowed
      → allows (carried_by affix) allowed ≡ true → IsInSet affix
  allowing-in side named affix None at is allows_it = absurd is
  allowing-in side named affix (Some rule) at is allows_it =
      carrier-in side named affix at rule.flag allows_it is

  -- the entry has a flag of the set that allows such an affix
  by-entry : (affix : Option Rule) → IsInSet affix → allows flags affix ≡ true
      → has_flag_of set flags ≡ true
  by-entry None is allows_it = absurd is
  by-entry (Some rule) is allows_it = common flags rule.flag allows_it is

  first-allowed : is_first_allowed n ≡ true
  first-allowed =
      (and_parts (is_first_allowed n)
      (is_second_allowed n && (is_prefix_allowed n && is_crossing_right n)) names.allowed).0

  later-allowed : (is_second_allowed n && (is_prefix_allowed n && is_crossing_right n)) ≡ true
  later-allowed =
      (and_parts (is_first_allowed n)
      (is_second_allowed n && (is_prefix_allowed n && is_crossing_right n)) names.allowed).1

  second-allowed : is_second_allowed n ≡ true
  second-allowed =
      (and_parts (is_second_allowed n) (is_prefix_allowed n && is_crossing_right n)
      later-allowed).0

  prefix-allowed : is_prefix_allowed n ≡ true
  prefix-allowed =
      (and_parts (is_prefix_allowed n) (is_crossing_right n)
      (and_parts (is_second_allowed n) (is_prefix_allowed n && is_crossing_right n)
      later-allowed).1).0

  by-first : IsInSet n.first → has_flag_of set flags ≡ true
  by-first is =
      by (or_cases (allows flags n.first)
      (allows flags n.prefix && allows (carried_by n.prefix) n.first) first-allowed)
    where
      by : (allows flags n.first ≡ true)
          ⊎ ((allows flags n.prefix && allows (carried_by n.prefix) n.first) ≡ true)
          → has_flag_of set flags ≡ true
      by (inl entry) = by-entry n.first is entry
      by (inr prefix) =
          let both = and_parts (allows flags n.prefix) (allows (carried_by n.prefix) n.first)
          prefix in
          by-entry n.prefix (allowing-in Prefix d.prefix n.prefix n.first refl is both.1) both.0

  by-second : IsInSet n.second → has_flag_of set flags ≡ true
  by-second is = by-first (allowing-in Suffix d.first n.first n.second refl is second-allowed)

  by-prefix : IsInSet n.prefix → has_flag_of set flags ≡ true
  by-prefix is =
      by (or_cases (allows flags n.prefix)
      (allows (carried_by n.first) n.prefix || allows (carried_by n.second) n.prefix)
      prefix-allowed)
    where
      suffix : (allows (carried_by n.first) n.prefix ≡ true)
          ⊎ (allows (carried_by n.second) n.prefix ≡ true) → has_flag_of set flags ≡ true
      suffix (inl first) =
          by-first (allowing-in Suffix d.first n.first n.prefix refl is first)
      suffix (inr second) =
          by-second (allowing-in Suffix d.second n.second n.prefix refl is second)

      by : (allows flags n.prefix ≡ true)
          ⊎ ((allows (carried_by n.first) n.prefix || allows (carried_by n.second) n.prefix)
          ≡ true) → has_flag_of set flags ≡ true
      by (inl entry) = by-entry n.prefix is entry
      by (inr either) =
          suffix (or_cases (allows (carried_by n.first) n.prefix)
          (allows (carried_by n.second) n.prefix) either)

  -- one that has a flag of the set, itself or by an affix, has an entry with one
  by-sign : (flag : Option Flag) → HasGiven set flag → has_some_with flag lexicon d ≡ true
      → has_flag_of set flags ≡ true
  unfolding has_some_with
  by-sign None given holds =
      absurd (true≢false
      (sym (sym (ap (holds_of (some_carry None)) (own-named lexicon d names)) ∙ holds)))
  by-sign (Some flag) given holds =
      either (or_cases (has flags (Some flag)) (some_affix_carries (Some flag) n)
      (sym (ap (holds_of (some_carry (Some flag))) (own-named lexicon d names)) ∙ holds))
    where
      suffix : (has (carried_by n.first) (Some flag) ≡ true)
          ⊎ (has (carried_by n.second) (Some flag) ≡ true) → has_flag_of set flags ≡ true
      suffix (inl first) =
          by-first (carrier-in Suffix d.first n.first refl flag first given)
      suffix (inr second) =
          by-second (carrier-in Suffix d.second n.second refl flag second given)

      affix : (has (carried_by n.prefix) (Some flag) ≡ true)
          ⊎ ((has (carried_by n.first) (Some flag) || has (carried_by n.second) (Some flag))
          ≡ true) → has_flag_of set flags ≡ true
      affix (inl prefix) =
          by-prefix (carrier-in Prefix d.prefix n.prefix refl flag prefix given)
      affix (inr later) =
          suffix (or_cases (has (carried_by n.first) (Some flag))
          (has (carried_by n.second) (Some flag)) later)

      either : (has flags (Some flag) ≡ true) ⊎ (some_affix_carries (Some flag) n ≡ true)
          → has_flag_of set flags ≡ true
      either (inl entry) = common flags flag entry given
      either (inr carried) =
          affix (or_cases (has (carried_by n.prefix) (Some flag))
          (has (carried_by n.first) (Some flag) || has (carried_by n.second) (Some flag)) carried)

  abbrev signs : Signs
  signs = lexicon.affixes.signs

  by-rule : has_step lexicon d ≡ true → has_flag_of set flags ≡ true
  by-rule holds =
      by-patterns lexicon.affixes.patterns are.own.steps
      (sym (ap (λ fs. list_any (one_fits fs) lexicon.affixes.patterns) (own-flags lexicon d names))
      ∙ holds)

  pub inner-first : StandsInside lexicon First d → has_flag_of set flags ≡ true
  inner-first (ByFlags stands) =
      either (or_cases (has_some_with signs.compound lexicon d)
      (has_some_with signs.begin lexicon d) (flags-parts lexicon d names First stands).allowed)
    where
      either : (has_some_with signs.compound lexicon d ≡ true)
          ⊎ (has_some_with signs.begin lexicon d ≡ true) → has_flag_of set flags ≡ true
      either (inl holds) = by-sign signs.compound are.own.compound holds
      either (inr holds) = by-sign signs.begin are.own.begin holds
  inner-first (InRule stands step) = by-rule step

  pub inner-middle : StandsInside lexicon Middle d → has_flag_of set flags ≡ true
  inner-middle (ByFlags stands) =
      either (or_cases (has_some_with signs.compound lexicon d)
      (has_some_with signs.middle lexicon d) (flags-parts lexicon d names Middle stands).allowed)
    where
      either : (has_some_with signs.compound lexicon d ≡ true)
          ⊎ (has_some_with signs.middle lexicon d ≡ true) → has_flag_of set flags ≡ true
      either (inl holds) = by-sign signs.compound are.own.compound holds
      either (inr holds) = by-sign signs.middle are.own.middle holds
  inner-middle (InRule stands step) = by-rule step

-- ---- the form
-- an affix that is named is a rule of the side, and what it adds is noted
pub noted : (rules : List Rule) (side : Side) (those : Those) (edge : Edge) → IsEdge rules side those edge
    → (named : Option ℕ) (rule : Rule) → affix_on rules side named ≡ Some rule
    → is_rule_among those rule ≡ true → IsNoted edge rule
noted rules side those edge are named rule is one =
    option_and_then_some (rule_on rules side) named rule is (λ place there on.
    are place rule (on-rule rules side place rule on)
    (and_from (is_same_side side rule.side) (is_rule_among those rule)
    (ap (is_same_side side) (rule_on-side rules side place rule on) ∙ own_side side) one))

pub sided : (rules : List Rule) (side : Side) (named : Option ℕ) (rule : Rule)
    → affix_on rules side named ≡ Some rule → rule.side ≡ side
sided rules side named rule is =
    option_and_then_some (rule_on rules side) named rule is
    (λ place there on. rule_on-side rules side place rule on)

-- what attaching a rule of a side gives
pub on-side : (full_strip : Bool) (side : Side) (rule : Rule) (word made : List ℕ) → rule.side ≡ side
    → attached full_strip rule word ≡ Some made → attached_on side full_strip rule word ≡ Some made
unfolding attached
on-side full_strip side rule word made is attached =
    ap (λ s. attached_on s full_strip rule word) (sym is) ∙ attached

pub if-some : {X : Type 0} (b : Bool) (x made : X) → (if b then Some x else None) ≡ Some made
    → made ≡ x
if-some true x made is = sym (same_Some x made is)
if-some false x made is = absurd (cc)

-- what an affix changes, if there is one
abbrev added_by : Option Rule → List ℕ
added_by None = []
added_by (Some rule) = rule.add

abbrev stripped_by : Option Rule → ℕ
stripped_by None = 0
stripped_by (Some rule) = length rule.strip

noted-by : (edge : Edge) (affix : Option Rule)
    → ((rule : Rule) → affix ≡ Some rule → IsNoted edge rule)
    → IsNotedChange edge (added_by affix) (stripped_by affix)
noted-by edge None known = record {
  within = omega arith;
  shortens = λ nothing some. absurd (omega (arith, some));
  plain = λ some none. absurd (omega (arith, some));
  exchanged = λ some strips. absurd (omega (arith, some));
  exchanges = λ some strips. absurd (omega (arith, some));
}
noted-by edge (Some rule) known = known rule refl

ended : (full_strip : Bool) (affix : Option Rule)
    → ((rule : Rule) → affix ≡ Some rule → rule.side ≡ Suffix) → (word made : List ℕ)
    → with_affix full_strip affix word ≡ Some made
    → made ≡ end_exchanged word (stripped_by affix) (added_by affix)
ended full_strip None side word made is =
    sym (same_Some word made is) ∙ sym (take_all (length word - 0) word (omega arith))
    ∙ sym (append-nil (take (length word - 0) word))
ended full_strip (Some rule) side word made is =
    if-some (takes_suffix full_strip rule word)
    (take (length word - length rule.strip) word ++ rule.add) made
    (on-side full_strip Suffix rule word made (side rule refl) is)

begun : (full_strip : Bool) (affix : Option Rule)
    → ((rule : Rule) → affix ≡ Some rule → rule.side ≡ Prefix) → (word made : List ℕ)
    → with_affix full_strip affix word ≡ Some made
    → made ≡ front_exchanged (added_by affix) (stripped_by affix) word
begun full_strip None side word made is = sym (same_Some word made is)
begun full_strip (Some rule) side word made is =
    if-some (takes_prefix full_strip rule word) (rule.add ++ drop (length rule.strip) word) made
    (on-side full_strip Prefix rule word made (side rule refl) is)

-- the form of a derivation with one suffix at most
formed-is : (full_strip : Bool) (n : Named) (text : List ℕ)
    → ((rule : Rule) → n.prefix ≡ Some rule → rule.side ≡ Prefix)
    → ((rule : Rule) → n.first ≡ Some rule → rule.side ≡ Suffix) → n.second ≡ None
    → formed full_strip n ≡ Some text
    → text ≡ front_exchanged (added_by n.prefix) (stripped_by n.prefix)
    (end_exchanged n.entry.word (stripped_by n.first) (added_by n.first))
formed-is full_strip n text prefix first second is =
    one (with_affix full_strip n.first n.entry.word) refl
    (sym (ap (λ affix. option_and_then (with_affix full_strip n.prefix)
    (option_and_then (with_affix full_strip affix)
    (with_affix full_strip n.first n.entry.word))) second) ∙ is)
  where
    one : (found : Option (List ℕ)) → with_affix full_strip n.first n.entry.word ≡ found
        → option_and_then (with_affix full_strip n.prefix)
        (option_and_then (with_affix full_strip None) found) ≡ Some text
        → text ≡ front_exchanged (added_by n.prefix) (stripped_by n.prefix)
        (end_exchanged n.entry.word (stripped_by n.first) (added_by n.first))
    one None at made = absurd (cc)
    one (Some stem) at made =
        begun full_strip n.prefix prefix stem text made
        ∙ ap (front_exchanged (added_by n.prefix) (stripped_by n.prefix))
        (ended full_strip n.first first n.entry.word stem at)

-- ---- all of it
module _ (told : (set : List Flag) (flag : Flag) → IsTrue (has set (Some flag))
    ↔ Contains set flag) (lexicon : Lexicon) (inside : Inside)
    (is : IsInsideOfLexicon lexicon inside) (word : List ℕ) (from : ℕ) where
  -- where the places behind the parts of a text are told, that behind a derivation is
  reached-by : (those : Those) (fronts : Edge) → IsEdge lexicon.affixes.rules Prefix those fronts
      → {before now : List Bool}
      → ReachesParts inside.known fronts inside.ends (drop from word) from before now
      → (to : ℕ) (d : Derivation) → from < to → to < length word
      → (licensed : is_licensed lexicon d ≡ true)
      → form_of lexicon d ≡ Some (piece_between word from to)
      → Wants lexicon those d (own lexicon d (names-of lexicon d licensed))
      → has_flag_of is.flags (names-of lexicon d licensed).entry.flags ≡ true
      → is_reached now to ≡ true
  reached-by those fronts edge {before} {now} reaches to d behind within licensed form wants flagged =
      ap (is_reached now) place
      ∙ reaches.told (added_by n.prefix) n.entry.word (added_by n.first) rest
      (stripped_by n.prefix) (stripped_by n.first)
      (is.known d.entry names.entry names.at flagged)
      (noted-by fronts n.prefix (λ rule at.
      noted lexicon.affixes.rules Prefix those fronts edge d.prefix rule at (wants.prefix rule at)))
      (noted-by inside.ends n.first (λ rule at.
      noted lexicon.affixes.rules Suffix (Carrying lexicon.affixes.signs.permit) inside.ends
      is.ends d.first rule at (wants.first rule at)))
      (sym (take-append-drop (to - from) (drop from word)) ∙ ap (λ t. t ++ rest) text) left
    where
      names : Names lexicon d
      names = names-of lexicon d licensed

      n : Named
      n = own lexicon d names

      made : List ℕ
      made =
          front_exchanged (added_by n.prefix) (stripped_by n.prefix)
          (end_exchanged n.entry.word (stripped_by n.first) (added_by n.first))

      rest : List ℕ
      rest = drop (to - from) (drop from word)

      text : piece_between word from to ≡ made
      text =
          formed-is lexicon.affixes.options.full_strip n (piece_between word from to)
          (λ rule at. sided lexicon.affixes.rules Prefix d.prefix rule at)
          (λ rule at. sided lexicon.affixes.rules Suffix d.first rule at)
          (ap (affix_on lexicon.affixes.rules Suffix) wants.second)
          (sym (own-form lexicon d names) ∙ form)

      count : length made ≡ to - from
      count =
          ap length (sym text)
          ∙ length-take-le (to - from) (drop from word)
          (omega (arith, behind, within, length-drop from word))

      place : to ≡ from + length made
      place = omega (arith, count, behind)

      left : 0 < length rest
      left =
          omega (
            arith,
            behind,
            within,
            length-drop (to - from) (drop from word),
            length-drop from word,
          )

  pub ends-first : lexicon.affixes.options.more_suffixes ≡ false → {before now : List Bool}
      → ReachesParts inside.known inside.begins inside.ends (drop from word) from before now
      → ReachesEnds lexicon First word from before now
  ends-first one reaches = record {
    kept = reaches.kept;
    told = λ to d behind within licensed form stands.
        reached-by All inside.begins is.begins reaches to d behind within licensed form
        (wants-first lexicon d (names-of lexicon d licensed) one stands)
        (inner-first told lexicon is.flags is.has d (names-of lexicon d licensed) stands);
  }

  pub ends-middle : lexicon.affixes.options.more_suffixes ≡ false → {before now : List Bool}
      → ReachesParts inside.known inside.fronts inside.ends (drop from word) from before now
      → ReachesEnds lexicon Middle word from before now
  ends-middle one reaches = record {
    kept = reaches.kept;
    told = λ to d behind within licensed form stands.
        reached-by (Carrying lexicon.affixes.signs.permit) inside.fronts is.fronts reaches to d behind
        within licensed form
        (wants-middle lexicon d (names-of lexicon d licensed) one stands)
        (inner-middle told lexicon is.flags is.has d (names-of lexicon d licensed) stands);
  }
