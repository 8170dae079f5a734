-- The groups at a text, once a rule is put into its group; and what groups are found.
use Rattle.std.proofs.Common.{◌≡◌, ◌∙◌, ◌↔◌, refl, sym, ap, subst, ℕ, ◌+◌, ◌<◌, Bool, true, false}
use Rattle.std.proofs.Common.{cond, ◌&&◌, true≢false, List, [], ◌∷◌, ◌++◌, append-nil, length, take}
use Rattle.std.proofs.Common.{get_or, nat_eq, slice_get, Contains, Option, Some, None}
use Rattle.std.proofs.Common.{if◌then◌else◌, IsPermutation, arith}
use Rattle.std.specs.Cmp.{IsEquivalence}
use Rattle.std.specs.Cmp.Lexicographic.{pointwise}
use Rattle.std.specs.List.Sorted.{IsStrictlyIncreasing}
use Rattle.std.specs.Map.{lookup, set_value}
use Rattle.std.specs.List.{IsDistinct}
use Rattle.std.specs.Option.{option_map_or}
use Rattle.std.proofs.lemmas.Bool.{and_parts, and_from, false_from_ne_true}
use Rattle.std.proofs.lemmas.Cmp.{on_equiv, nat_list_eq_equiv}
use Rattle.std.proofs.lemmas.List.{take_more}
use Rattle.std.proofs.lemmas.List.Concat.{flat_map-append}
use Rattle.std.proofs.lemmas.List.Elements.{Contains-append_right}
use Rattle.std.proofs.lemmas.List.Sorted.{IsPermutation-refl}
use Rattle.std.proofs.lemmas.Map.Keys.{IsStrictlyIncreasing-from_sorted}
use Rattle.std.proofs.lemmas.Map.Views.{lookup-from_Contains}
use Rattle.std.proofs.lemmas.Option.{slice_get-get_or}
use Rattle.std.proofs.lemmas.Slice.Eq.{bytes_eq-Decides}
use Rattle.indexmap.specs.IndexMap.{IndexMap}
use Rattle.spell_types.specs.declared.rules.Rule.{Rule}
use Rattle.spell_types.specs.declared.rules.Side.{Side}
use Rattle.spell_types.specs.Derivations.{is_same_side}
use Rattle.key_filter.specs.Filter.{may_have}
use Rattle.spell_types.specs.Laws.{own_side, same_side}
use Rattle.affix_tables.specs.declared.SideTable.{SideTable}
use Rattle.affix_tables.specs.Ends.{key_at}
use Rattle.affix_tables.specs.Groups.{Group, places_in, AreApart, HasPlace, AreGroups}
use Rattle.affix_tables.specs.Places.{exchanges, places_where}
use Rattle.affix_tables.specs.Tables.{places_at, groups_at, all_places, Puts, IsTable}
use Rattle.affix_tables.proofs.EntryLemmas.{Key, is_key, both}
use Rattle.affix_tables.proofs.PlaceLemmas.{places-members, places-rise}

-- ---- look-ups
module _ {V : Type 0} (text : List ℕ) where
  pub lookup-set-same : (new old : V) (entries : List (Key × V))
      → lookup (is_key text) entries ≡ Some old
      → lookup (is_key text) (set_value (is_key text) entries new) ≡ Some new
  lookup-set-same new old [] there = absurd (cc)
  lookup-set-same new old (entry ∷ entries) there =
      by (is_key text entry.0) refl there (lookup-set-same new old entries)
    where
      by : (a : Bool) → is_key text entry.0 ≡ a
          → cond a (Some entry.1) (lookup (is_key text) entries) ≡ Some old
          → (lookup (is_key text) entries ≡ Some old
          → lookup (is_key text) (set_value (is_key text) entries new) ≡ Some new)
          → lookup (is_key text)
          (cond a ((entry.0, new) ∷ entries) (entry ∷ set_value (is_key text) entries new))
          ≡ Some new
      by true is there rest = ap (λ b. cond b (Some new) (lookup (is_key text) entries)) is
      by false is there rest =
          ap (λ b. cond b (Some entry.1)
          (lookup (is_key text) (set_value (is_key text) entries new))) is ∙ rest there

  pub lookup-set-other : (other : List ℕ) → pointwise nat_eq other text ≡ false
      → (new : V) (entries : List (Key × V))
      → lookup (is_key other) (set_value (is_key text) entries new) ≡ lookup (is_key other) entries
  lookup-set-other other apart new [] = refl
  lookup-set-other other apart new (entry ∷ entries) =
      by (is_key text entry.0) refl (lookup-set-other other apart new entries)
    where
      not_other : is_key text entry.0 ≡ true → is_key other entry.0 ≡ false
      not_other is =
          false_from_ne_true (is_key other entry.0)
          (λ same. true≢false (sym (both text other entry.0.items is same) ∙ apart))

      by : (a : Bool) → is_key text entry.0 ≡ a
          → lookup (is_key other) (set_value (is_key text) entries new) ≡ lookup (is_key other)
          entries
          → lookup (is_key other)
          (cond a ((entry.0, new) ∷ entries) (entry ∷ set_value (is_key text) entries new))
          ≡ cond (is_key other entry.0) (Some entry.1) (lookup (is_key other) entries)
      by true is rest =
          ap (λ b. cond b (Some new) (lookup (is_key other) entries)) (not_other is)
          ∙ sym (ap (λ b. cond b (Some entry.1) (lookup (is_key other) entries)) (not_other is))
      by false is rest = ap (cond (is_key other entry.0) (Some entry.1)) rest

  pub lookup-new-same : (key : Key) → key.items ≡ text → (new : V) (entries : List (Key × V))
      → lookup (is_key text) entries ≡ None → lookup (is_key text) (entries ++ (key, new) ∷ [])
      ≡ Some new
  lookup-new-same key is new [] none =
      ap (λ b. cond b (Some new) None) ((bytes_eq-Decides text key.items).1 (sym is))
  lookup-new-same key is new (entry ∷ entries) none =
      by (is_key text entry.0) none (lookup-new-same key is new entries)
    where
      by : (a : Bool) → cond a (Some entry.1) (lookup (is_key text) entries) ≡ None
          → (lookup (is_key text) entries ≡ None → lookup (is_key text) (entries ++ (key, new) ∷ [])
          ≡ Some new)
          → cond a (Some entry.1) (lookup (is_key text) (entries ++ (key, new) ∷ [])) ≡ Some new
      by true none rest = absurd (cc)
      by false none rest = rest none

  pub lookup-new-other : (other : List ℕ) → pointwise nat_eq other text ≡ false → (key : Key)
      → key.items ≡ text → (new : V) (entries : List (Key × V))
      → lookup (is_key other) (entries ++ (key, new) ∷ []) ≡ lookup (is_key other) entries
  lookup-new-other other apart key is new [] =
      ap (λ items. cond (pointwise nat_eq other items) (Some new) None) is
      ∙ ap (λ b. cond b (Some new) None) apart
  lookup-new-other other apart key is new (entry ∷ entries) =
      ap (cond (is_key other entry.0) (Some entry.1))
      (lookup-new-other other apart key is new entries)

-- ---- a place more
abbrev Entries : Type 0 → Type 0
Entries S = List (Key × IndexMap Key Key S)

-- what the groups of the text become
pub record Longer (groups longer : List Group) (stripped : List ℕ) (place : ℕ) : Type 0 where
  pub at_strip : (strip : List ℕ) → places_at longer strip ≡ places_at groups strip
      ++ (if pointwise nat_eq strip stripped then place ∷ [] else [])
  pub all : IsPermutation (all_places longer) (all_places groups ++ place ∷ [])

pub puts : {S : Type 0} (before now : Entries S) (added stripped : List ℕ) (place : ℕ)
    (groups longer : List Group) → groups_at before added ≡ groups → groups_at now added ≡ longer
    → ((other : List ℕ) → pointwise nat_eq other added ≡ false
    → groups_at now other ≡ groups_at before other) → Longer groups longer stripped place
    → Puts before now added stripped place
puts before now added stripped place groups longer was is others more = record {
  at_strip = λ text strip. strip_by text strip (pointwise nat_eq text added) refl;
  at_text = λ text. text_by text (pointwise nat_eq text added) refl;
}
  where
    is_added : (text : List ℕ) → pointwise nat_eq text added ≡ true → text ≡ added
    is_added text same = (bytes_eq-Decides text added).0 same

    strip_by : (text strip : List ℕ) (b : Bool) → pointwise nat_eq text added ≡ b
        → places_at (groups_at now text) strip ≡ places_at (groups_at before text) strip
        ++ (if b && pointwise nat_eq strip stripped then place ∷ [] else [])
    strip_by text strip true same =
        ap (λ gs. places_at gs strip) (ap (groups_at now) (is_added text same) ∙ is)
        ∙ more.at_strip strip
        ∙ ap (λ gs. places_at gs strip
        ++ (if pointwise nat_eq strip stripped then place ∷ [] else []))
        (sym (ap (groups_at before) (is_added text same) ∙ was))
    strip_by text strip false other = ap (λ gs. places_at gs strip) (others text other)
        ∙ sym (append-nil (places_at (groups_at before text) strip))

    text_by : (text : List ℕ) (b : Bool) → pointwise nat_eq text added ≡ b
        → IsPermutation (all_places (groups_at now text))
        (all_places (groups_at before text) ++ (if b then place ∷ [] else []))
    text_by text true same =
        subst (λ gs. IsPermutation (all_places gs)
        (all_places (groups_at before text) ++ place ∷ []))
        (sym (ap (groups_at now) (is_added text same) ∙ is))
        (subst (λ gs. IsPermutation (all_places longer) (all_places gs ++ place ∷ []))
        (sym (ap (groups_at before) (is_added text same) ∙ was)) more.all)
    text_by text false other =
        subst (λ gs. IsPermutation (all_places gs) (all_places (groups_at before text) ++ []))
        (sym (others text other))
        (subst (λ ps. IsPermutation (all_places (groups_at before text)) ps)
        (sym (append-nil (all_places (groups_at before text))))
        (IsPermutation-refl (all_places (groups_at before text))))

-- the groups of what was found
abbrev given : {S : Type 0} → Option (IndexMap Key Key S) → List Group
given found = option_map_or (λ groups. groups.entries) found []

-- the text has groups
pub puts-there : {S : Type 0} (before : Entries S) (added stripped : List ℕ) (place : ℕ)
    (groups longer : IndexMap Key Key S) → lookup (is_key added) before ≡ Some groups
    → Longer groups.entries longer.entries stripped place
    → Puts before (set_value (is_key added) before longer) added stripped place
puts-there before added stripped place groups longer there more =
    puts before (set_value (is_key added) before longer) added stripped place groups.entries
    longer.entries
    (ap given there) (ap given (lookup-set-same added longer groups before there))
    (λ other apart. ap given (lookup-set-other added other apart longer before)) more

-- it has none
pub puts-first : {S : Type 0} (before : Entries S) (added stripped : List ℕ) (place : ℕ) (key : Key)
    (longer : IndexMap Key Key S) → key.items ≡ added → lookup (is_key added) before ≡ None
    → Longer [] longer.entries stripped place
    → Puts before (before ++ (key, longer) ∷ []) added stripped place
puts-first before added stripped place key longer is none more =
    puts before (before ++ (key, longer) ∷ []) added stripped place [] longer.entries
    (ap given none) (ap given (lookup-new-same added key is longer before none))
    (λ other apart. ap given (lookup-new-other added other apart key is longer before)) more

-- ---- the groups that are found
abbrev key_eq : Key → Key → Bool
key_eq key other = pointwise nat_eq key.items other.items

key_laws : IsEquivalence key_eq
key_laws = let laws = on_equiv (λ (key : Key). key.items) nat_list_eq_equiv in
    record { refl = laws.refl; symm = laws.symm; congr = laws.congr }

-- each group is found by what its rules strip off
group-places : (groups : List Group) → AreApart groups → (group : Group) → Contains groups group
    → places_at groups group.0.items ≡ group.1.items
group-places groups apart group among =
    ap (λ found. option_map_or (λ (places : Key). places.items) found [])
    (lookup-from_Contains key_laws group.0 group.1 groups apart among)

-- and what is found is a group
group-found : (groups : List Group) (strip : List ℕ) (place : ℕ)
    → Contains (places_at groups strip) place → HasPlace groups strip place
group-found [] strip place (k, within, at) = absurd (omega (arith, within))
group-found (group ∷ groups) strip place inside =
    by (is_key strip group.0) refl inside (group-found groups strip place)
  where
    later : HasPlace groups strip place → HasPlace (group ∷ groups) strip place
    later has =
        record {
          group = has.group;
          among = Contains-append_right (group ∷ []) groups has.group has.among;
          strips =
              has.strips;
          has = has.has;
        }

    by : (a : Bool) → is_key strip group.0 ≡ a
        → Contains (option_map_or (λ (places : Key). places.items)
        (cond a (Some group.1) (lookup (is_key strip) groups)) []) place
        → (Contains (places_at groups strip) place → HasPlace groups strip place)
        → HasPlace (group ∷ groups) strip place
    by true is inside rest =
        record {
          group = group;
          among = (0, omega arith, refl);
          strips = sym ((bytes_eq-Decides strip group.0.items).0 is);
          has = inside;
        }
    by false is inside rest = later (rest inside)

abbrev Known : List Rule → Side → List ℕ → List ℕ → ℕ → Type 0
Known rules side added strip place = (rule : Rule) × (slice_get rules place ≡ Some rule)
    × (rule.side ≡ side) × (rule.add ≡ added) × (rule.strip ≡ strip)

exchanging : (rules : List Rule) (side : Side) (added strip : List ℕ) (place : ℕ)
    → Contains (places_where (exchanges side added strip) rules) place
    ↔ Known rules side added strip place
exchanging rules side added strip place = (
  λ inside. told ((places-members (exchanges side added strip) rules place).0 inside),
  λ (rule, at, on, adds, strips). (places-members (exchanges side added strip) rules place).1 (
    rule,
    at,
    and_from (is_same_side side rule.side)
        (pointwise nat_eq added rule.add && pointwise nat_eq strip rule.strip)
        (ap (is_same_side side) on ∙ own_side side)
        (and_from (pointwise nat_eq added rule.add) (pointwise nat_eq strip rule.strip)
        ((bytes_eq-Decides added rule.add).1 (sym adds))
        ((bytes_eq-Decides strip rule.strip).1 (sym strips))),
  ),
)
  where
    told : ((rule : Rule) × (slice_get rules place ≡ Some rule)
        × (exchanges side added strip rule ≡ true)) → Known rules side added strip place
    told (rule, at, holds) =
        let one = and_parts (is_same_side side rule.side)
        (pointwise nat_eq added rule.add && pointwise nat_eq strip rule.strip) holds in
        let two = and_parts (pointwise nat_eq added rule.add) (pointwise nat_eq strip rule.strip)
        one.1 in (
          rule,
          at,
          same_side side rule.side one.0,
          sym ((bytes_eq-Decides added rule.add).0 two.0),
          sym ((bytes_eq-Decides strip rule.strip).0 two.1),
        )

pub are-groups : (rules : List Rule) (side : Side) (table : SideTable) (added : List ℕ)
    (groups : List Group) → groups ≡ groups_at table.by_text.entries added → AreApart groups
    → IsTable rules side table → AreGroups rules side added groups
are-groups rules side table added groups are apart holds = record {
  members = λ strip place. (
    λ has. (exchanging rules side added strip place).0
        (subst (λ ps. Contains ps place) (at strip) (inside strip place has)),
    λ known. group-found groups strip place
        (subst (λ ps. Contains ps place) (sym (at strip))
        ((exchanging rules side added strip place).1 known)),
  );
  rising = λ group among.
      subst IsStrictlyIncreasing (sym (at group.0.items) ∙ group-places groups apart group among)
      (IsStrictlyIncreasing-from_sorted (places_where (exchanges side added group.0.items) rules)
      (places-rise (exchanges side added group.0.items) rules));
  apart = apart;
}
  where
    at : (strip : List ℕ) → places_at groups strip ≡ places_where (exchanges side added strip) rules
    at strip = ap (λ gs. places_at gs strip) are ∙ holds.at_strip added strip

    inside : (strip : List ℕ) (place : ℕ) → HasPlace groups strip place
        → Contains (places_at groups strip) place
    inside strip place has =
        subst (λ ps. Contains ps place)
        (sym (ap (places_at groups) (sym has.strips)
        ∙ group-places groups apart has.group has.among)) has.has

-- where there are no groups, none are equal
pub none-apart : AreApart []
unfolding IsDistinct
none-apart = tt

-- a text without a key is added by no rule
pub no-groups : (rules : List Rule) (side : Side) (table : SideTable) (added : List ℕ)
    → may_have table.texts (key_at side added (length added)) ≡ false → IsTable rules side table
    → AreGroups rules side added []
no-groups rules side table added none holds = record {
  members = λ strip place. (
    λ has. absurd (nothing has.group has.among),
    λ (rule, at, on, adds, strips). absurd (true≢false (sym (there rule place at on adds) ∙ none)),
  );
  rising = λ group among. absurd (nothing group among);
  apart = none-apart;
}
  where
    nothing : (group : Group) → Contains [] group → ⊥
    nothing group (k, within, at) = omega (arith, within)

    there : (rule : Rule) (place : ℕ) → slice_get rules place ≡ Some rule → rule.side ≡ side
        → rule.add ≡ added → may_have table.texts (key_at side added (length added)) ≡ true
    there rule place at on adds =
        subst (λ text. may_have table.texts (key_at side text (length text)) ≡ true) adds
        (holds.texts place rule at (ap (is_same_side side) on ∙ own_side side))

-- ---- the places of the groups before a number
pub all_places-more : (groups : List Group) (number : ℕ) → number < length groups
    → all_places (take (number + 1) groups) ≡ all_places (take number groups)
    ++ places_in (slice_get groups number)
all_places-more [] number within = absurd (omega (arith, within))
all_places-more (first ∷ groups) number within =
    ap all_places (take_more (first ∷ groups) number first within)
    ∙ flat_map-append (λ (group : Group). group.1.items) (take number (first ∷ groups))
    (get_or (first ∷ groups) number first ∷ [])
    ∙ ap (λ places. all_places (take number (first ∷ groups)) ++ places)
    (append-nil (get_or (first ∷ groups) number first).1.items
    ∙ sym (ap places_in (slice_get-get_or (first ∷ groups) number first within)))
