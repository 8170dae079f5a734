-- Which derivations a walk from an entry comes to: each that stands alone.
use Rattle.std.proofs.Common.{◌≡◌, ◌∙◌, ◌⊎◌, inl, inr, refl, sym, ap, subst, ℕ, ◌+◌, ◌<◌}
use Rattle.std.proofs.Common.{◌≤◌, not-suc-le-zero, if◌then◌else◌, arith}
use Rattle.std.proofs.Common.{Bool, true, false, true≢false, ◌&&◌, ◌||◌, List, [], ◌∷◌, ◌++◌}
use Rattle.std.proofs.Common.{length, take, get_or, slice_get, Contains, Option, None, Some}
use Rattle.std.proofs.Common.{is_some, is_none}
use Rattle.std.specs.Option.{option_and_then, option_map, option_map_or}
use Rattle.std.proofs.lemmas.Bool.{and_parts, or_cases}
use Rattle.std.proofs.lemmas.List.{take_all, take_more}
use Rattle.std.proofs.lemmas.List.Elements.{Contains-push_cases}
use Rattle.std.proofs.lemmas.Option.{same_Some, slice_get_within}
use Rattle.spell_types.specs.declared.Entry.{Entry}
use Rattle.spell_types.specs.declared.Lexicon.{Lexicon}
use Rattle.spell_types.specs.declared.derivations.Derivation.{Derivation}
use Rattle.spell_types.specs.declared.flags.Flag.{Flag}
use Rattle.spell_types.specs.declared.rules.Rule.{Rule}
use Rattle.spell_types.specs.declared.rules.Side.{Side}
use Rattle.spell_types.specs.declared.rules.Side.TheVariants.{Prefix, Suffix}
use Rattle.spell_types.specs.Derivations.{affix_on, rule_on, is_right, is_in_order, named_with}
use Rattle.spell_types.specs.Derivations.{with_affix, formed, form_of, derivation_of, named}
use Rattle.spell_types.specs.Derivations.{Named}
use Rattle.spell_types.specs.Licences.{holds_of, allows, carried_by, is_allowed, is_first_allowed}
use Rattle.spell_types.specs.Licences.{is_second_allowed, is_prefix_allowed, is_crossing_right}
use Rattle.spell_types.specs.Licences.{is_licensed, is_alone}
use Rattle.form_lister.specs.Choices.{HasAllowed, HasChoices}
use Rattle.form_lister.specs.Found.{AreFound, HasAll, HasForm, KeepsWords}
use Rattle.form_lister.specs.Walks.{flags_at, carried_at, IsUnderWay, Adds, AtSome, Each, IsFrom}
use Rattle.form_lister.specs.Walks.{HasFirst, HasSuffixes, HasPair, IsAllowedBy, IsOfEntryAndPrefix}
use Rattle.form_lister.specs.declared.found.Found.{Found}
use Rattle.form_lister.specs.declared.walk.Walk.{Walk}
use Rattle.form_lister.proofs.ChoiceLemmas.{on-side, earlier}
use Rattle.form_lister.proofs.FormLemmas.{alone-licensed}

-- ---- what is known of a derivation that stands alone
record IsKnown (lexicon : Lexicon) (d : Derivation) : Type 0 where
  pub entry : Entry
  pub at : slice_get lexicon.entries d.entry ≡ Some entry
  pub ordered : is_in_order lexicon.affixes.rules d ≡ true
  pub allowed : is_allowed (named_with lexicon.affixes.rules d entry) ≡ true

licensed-known : (lexicon : Lexicon) (d : Derivation) → is_licensed lexicon d ≡ true
    → IsKnown lexicon d
unfolding is_licensed
licensed-known lexicon d is =
    by (is_in_order lexicon.affixes.rules d) refl (slice_get lexicon.entries d.entry) refl is
  where
    by : (b : Bool) → is_in_order lexicon.affixes.rules d ≡ b → (found : Option Entry)
        → slice_get lexicon.entries d.entry ≡ found
        → holds_of is_allowed
        (if b then option_map (named_with lexicon.affixes.rules d) found else None) ≡ true
        → IsKnown lexicon d
    by true ordered (Some entry) at is =
        record { entry = entry; at = at; ordered = ordered; allowed = is }
    by true ordered None at is = absurd (true≢false (sym is))
    by false ordered found at is = absurd (true≢false (sym is))

known : (lexicon : Lexicon) (d : Derivation) → is_alone lexicon d ≡ true → IsKnown lexicon d
known lexicon d alone = licensed-known lexicon d (alone-licensed lexicon d alone)

-- its affixes are of their sides
record AreRight (rules : List Rule) (d : Derivation) : Type 0 where
  pub prefix : is_right rules Prefix d.prefix ≡ true
  pub first : is_right rules Suffix d.first ≡ true
  pub second : is_right rules Suffix d.second ≡ true

rights : (rules : List Rule) (d : Derivation) → is_in_order rules d ≡ true → AreRight rules d
rights rules d ordered =
    let one = and_parts (is_right rules Prefix d.prefix)
    (is_right rules Suffix d.first
    && (is_right rules Suffix d.second && (is_none d.second || is_some d.first))) ordered in
    let two = and_parts (is_right rules Suffix d.first)
    (is_right rules Suffix d.second && (is_none d.second || is_some d.first)) one.1 in
    let three = and_parts (is_right rules Suffix d.second) (is_none d.second || is_some d.first)
    two.1 in
    record { prefix = one.0; first = two.0; second = three.0 }

-- an affix that flags allow is none, or a rule that one of them allows
choice : (rules : List Rule) (side : Side) (flags : List Flag) (named : Option ℕ)
    → is_right rules side named ≡ true → allows flags (affix_on rules side named) ≡ true
    → (named ≡ None) ⊎ IsAllowedBy rules side flags named
choice rules side flags None right allowed = inl refl
choice rules side flags (Some place) right allowed =
    by (rule_on rules side place) refl right allowed
  where
    by : (found : Option Rule) → rule_on rules side place ≡ found → is_some found ≡ true
        → allows flags found ≡ true
        → (Some place ≡ None) ⊎ IsAllowedBy rules side flags (Some place)
    by None on right allowed = absurd (true≢false (sym right))
    by (Some rule) on right allowed =
        inr (record { place = place; rule = rule; is = refl; on = on; flag = allowed })

-- the flags that an affix carries are those of the rule with its place
carries : (lexicon : Lexicon) (side : Side) (named : Option ℕ)
    → is_right lexicon.affixes.rules side named ≡ true
    → carried_by (affix_on lexicon.affixes.rules side named) ≡ carried_at lexicon named
carries lexicon side None right = refl
carries lexicon side (Some place) right = by (rule_on rules side place) refl right
  where
    rules : List Rule
    rules = lexicon.affixes.rules

    by : (found : Option Rule) → rule_on rules side place ≡ found → is_some found ≡ true
        → carried_by found ≡ carried_at lexicon (Some place)
    by None on right = absurd (true≢false (sym right))
    by (Some rule) on right =
        sym (ap (λ one. option_map_or (λ r. r.carried) one [])
        (on-side side (slice_get rules place) rule on).0)

by-none : (rules : List Rule) (side : Side) (named : Option ℕ)
    → IsAllowedBy rules side [] named → ⊥
by-none rules side named is = true≢false (sym is.flag)

-- an affix is none, or a rule that one of the flags allows
abbrev Among : Lexicon → Side → List Flag → Option ℕ → Type 0
Among lexicon side flags named = (named ≡ None) ⊎ IsAllowedBy lexicon.affixes.rules side flags named

-- the entry allows the first suffix, or a prefix does that the entry allows
record FirstBy (lexicon : Lexicon) (d : Derivation) : Type 0 where
  pub prefix : Among lexicon Prefix (flags_at lexicon d.entry) d.prefix
  pub first : IsAllowedBy lexicon.affixes.rules Suffix (carried_at lexicon d.prefix) d.first

module _ (lexicon : Lexicon) (d : Derivation) (is : IsKnown lexicon d) where
  all : AreRight lexicon.affixes.rules d
  all = rights lexicon.affixes.rules d is.ordered

  flags-are : is.entry.flags ≡ flags_at lexicon d.entry
  flags-are = sym (ap (λ found. option_map_or (λ entry. entry.flags) found []) is.at)

  n-is : (is_first_allowed (named_with lexicon.affixes.rules d is.entry) ≡ true)
      × ((is_second_allowed (named_with lexicon.affixes.rules d is.entry) ≡ true)
      × (is_prefix_allowed (named_with lexicon.affixes.rules d is.entry) ≡ true))
  n-is =
      let n = named_with lexicon.affixes.rules d is.entry in
      let one = and_parts (is_first_allowed n)
      (is_second_allowed n && (is_prefix_allowed n && is_crossing_right n)) is.allowed in
      let two = and_parts (is_second_allowed n) (is_prefix_allowed n && is_crossing_right n)
      one.1 in
      (one.0, (two.0, (and_parts (is_prefix_allowed n) (is_crossing_right n) two.1).0))

  by-entry : (side : Side) (named : Option ℕ) → is_right lexicon.affixes.rules side named ≡ true
      → allows is.entry.flags (affix_on lexicon.affixes.rules side named) ≡ true
      → Among lexicon side (flags_at lexicon d.entry) named
  by-entry side named right allowed =
      subst (λ flags. Among lexicon side flags named) flags-are
      (choice lexicon.affixes.rules side is.entry.flags named right allowed)

  by-affix : (of side : Side) (other named : Option ℕ)
      → is_right lexicon.affixes.rules of other ≡ true
      → is_right lexicon.affixes.rules side named ≡ true
      → allows (carried_by (affix_on lexicon.affixes.rules of other))
      (affix_on lexicon.affixes.rules side named) ≡ true
      → Among lexicon side (carried_at lexicon other) named
  by-affix of side other named right' right allowed =
      subst (λ flags. Among lexicon side flags named) (carries lexicon of other right')
      (choice lexicon.affixes.rules side (carried_by (affix_on lexicon.affixes.rules of other))
      named right allowed)

  first-by : Among lexicon Suffix (flags_at lexicon d.entry) d.first ⊎ FirstBy lexicon d
  first-by =
      by (or_cases (allows n.entry.flags n.first)
      (allows n.entry.flags n.prefix && allows (carried_by n.prefix) n.first) n-is.0)
    where
      n : Named
      n = named_with lexicon.affixes.rules d is.entry

      with-prefix : Among lexicon Prefix (flags_at lexicon d.entry) d.prefix
          → Among lexicon Suffix (carried_at lexicon d.prefix) d.first
          → Among lexicon Suffix (flags_at lexicon d.entry) d.first ⊎ FirstBy lexicon d
      with-prefix prefix (inl none) = inl (inl none)
      with-prefix prefix (inr first) = inr (record { prefix = prefix; first = first })

      by : (allows is.entry.flags (affix_on lexicon.affixes.rules Suffix d.first) ≡ true)
          ⊎ ((allows is.entry.flags (affix_on lexicon.affixes.rules Prefix d.prefix)
          && allows (carried_by (affix_on lexicon.affixes.rules Prefix d.prefix))
          (affix_on lexicon.affixes.rules Suffix d.first)) ≡ true)
          → Among lexicon Suffix (flags_at lexicon d.entry) d.first ⊎ FirstBy lexicon d
      by (inl allowed) = inl (by-entry Suffix d.first all.first allowed)
      by (inr both) =
          let parts = and_parts
          (allows is.entry.flags (affix_on lexicon.affixes.rules Prefix d.prefix))
          (allows (carried_by (affix_on lexicon.affixes.rules Prefix d.prefix))
          (affix_on lexicon.affixes.rules Suffix d.first)) both in
          with-prefix (by-entry Prefix d.prefix all.prefix parts.0)
          (by-affix Prefix Suffix d.prefix d.first all.prefix all.first parts.1)

  second-by : Among lexicon Suffix (carried_at lexicon d.first) d.second
  second-by = by-affix Suffix Suffix d.first d.second all.first all.second n-is.1.0

  -- the entry or a suffix allows the prefix
  prefix-by : Among lexicon Prefix (flags_at lexicon d.entry) d.prefix
      ⊎ (IsAllowedBy lexicon.affixes.rules Prefix (carried_at lexicon d.first) d.prefix
      ⊎ IsAllowedBy lexicon.affixes.rules Prefix (carried_at lexicon d.second) d.prefix)
  prefix-by =
      by (or_cases (allows is.entry.flags prefix)
      (allows (carried_by first) prefix || allows (carried_by second) prefix) n-is.1.1)
    where
      prefix : Option Rule
      prefix = affix_on lexicon.affixes.rules Prefix d.prefix

      first : Option Rule
      first = affix_on lexicon.affixes.rules Suffix d.first

      second : Option Rule
      second = affix_on lexicon.affixes.rules Suffix d.second

      one : Among lexicon Prefix (carried_at lexicon d.first) d.prefix
          → Among lexicon Prefix (flags_at lexicon d.entry) d.prefix
          ⊎ (IsAllowedBy lexicon.affixes.rules Prefix (carried_at lexicon d.first) d.prefix
          ⊎ IsAllowedBy lexicon.affixes.rules Prefix (carried_at lexicon d.second) d.prefix)
      one (inl none) = inl (inl none)
      one (inr allowed) = inr (inl allowed)

      two : Among lexicon Prefix (carried_at lexicon d.second) d.prefix
          → Among lexicon Prefix (flags_at lexicon d.entry) d.prefix
          ⊎ (IsAllowedBy lexicon.affixes.rules Prefix (carried_at lexicon d.first) d.prefix
          ⊎ IsAllowedBy lexicon.affixes.rules Prefix (carried_at lexicon d.second) d.prefix)
      two (inl none) = inl (inl none)
      two (inr allowed) = inr (inr allowed)

      suffix : (allows (carried_by first) prefix ≡ true)
          ⊎ (allows (carried_by second) prefix ≡ true)
          → Among lexicon Prefix (flags_at lexicon d.entry) d.prefix
          ⊎ (IsAllowedBy lexicon.affixes.rules Prefix (carried_at lexicon d.first) d.prefix
          ⊎ IsAllowedBy lexicon.affixes.rules Prefix (carried_at lexicon d.second) d.prefix)
      suffix (inl allowed) =
          one (by-affix Suffix Prefix d.first d.prefix all.first all.prefix allowed)
      suffix (inr allowed) =
          two (by-affix Suffix Prefix d.second d.prefix all.second all.prefix allowed)

      by : (allows is.entry.flags prefix ≡ true)
          ⊎ ((allows (carried_by first) prefix || allows (carried_by second) prefix) ≡ true)
          → Among lexicon Prefix (flags_at lexicon d.entry) d.prefix
          ⊎ (IsAllowedBy lexicon.affixes.rules Prefix (carried_at lexicon d.first) d.prefix
          ⊎ IsAllowedBy lexicon.affixes.rules Prefix (carried_at lexicon d.second) d.prefix)
      by (inl allowed) = inl (by-entry Prefix d.prefix all.prefix allowed)
      by (inr either) =
          suffix (or_cases (allows (carried_by first) prefix) (allows (carried_by second) prefix)
          either)

-- what is allowed is listed
allowed-listed : (rules : List Rule) (side : Side) (flags : List Flag) (names : List (Option ℕ))
    (named : Option ℕ) → HasAllowed rules side flags names → IsAllowedBy rules side flags named
    → Contains names named
allowed-listed rules side flags names named has is =
    subst (Contains names) (sym is.is) (has is.place is.rule is.on is.flag)

choice-listed : (lexicon : Lexicon) (side : Side) (flags : List Flag) (names : List (Option ℕ))
    (named : Option ℕ) → HasChoices lexicon.affixes.rules side flags names
    → Among lexicon side flags named
    → Contains names named
choice-listed lexicon side flags names named has (inl none) =
    subst (Contains names) (sym none) has.none
choice-listed lexicon side flags names named has (inr is) =
    allowed-listed lexicon.affixes.rules side flags names named has.allowed is

-- ---- what a walk adds
pub adds-less : (walk : Walk) (those fewer : Derivation → Type 0) (before now : Found)
    → Adds walk those before now
    → ((d : Derivation) → is_alone walk.stems.now d ≡ true → fewer d → those d)
    → Adds walk fewer before now
adds-less walk those fewer before now adds are = record {
  way = adds.way;
  kept = adds.kept;
  all = λ d word is alone gives. adds.all d word (are d alone is) alone gives;
}

pub adds-none : (walk : Walk) (those : Derivation → Type 0) (found : Found) → IsUnderWay walk found
    → ((d : Derivation) (word : List ℕ) → those d → is_alone walk.stems.now d ≡ true
    → form_of walk.stems.now d ≡ Some word → ⊥)
    → Adds walk those found found
adds-none walk those found way none = record {
  way = way;
  kept = λ word inside. inside;
  all = λ d word is alone gives. absurd (none d word is alone gives);
}

pub adds-both : (walk : Walk) (those others : Derivation → Type 0) (before mid now : Found)
    → Adds walk those before mid → Adds walk others mid now
    → Adds walk (λ d. those d ⊎ others d) before now
adds-both walk those others before mid now one two = record {
  way = two.way;
  kept = λ word inside. two.kept word (one.kept word inside);
  all = λ d word either alone gives nonempty free. by d word either alone gives nonempty free;
}
  where
    by : (d : Derivation) (word : List ℕ) → those d ⊎ others d → is_alone walk.stems.now d ≡ true
        → form_of walk.stems.now d ≡ Some word → HasForm walk.stems.now word now
    by d word (inl is) alone gives nonempty free =
        two.kept word (one.all d word is alone gives nonempty free)
    by d word (inr is) alone gives nonempty free = two.all d word is alone gives nonempty free

-- ---- a walk over items
none-in : {X : Type 0} (x : X) → Contains [] x → ⊥
none-in x (k, within, at) = absurd (not-suc-le-zero within)

pub at-none : {X : Type 0} (walk : Walk) (holds : X → Derivation → Type 0) (found : Found)
    → IsUnderWay walk found → Adds walk (AtSome holds []) found found
at-none walk holds found way =
    adds-none walk (AtSome holds []) found way
    (λ d word some alone gives. none-in some.item some.among)

pub at-more : {X : Type 0} (walk : Walk) (holds : X → Derivation → Type 0) (items : List X)
    (index : ℕ) (item d : X) (before mid now : Found)
    → index < length items → item ≡ get_or items index d
    → Adds walk (AtSome holds (take index items)) before mid → Adds walk (holds item) mid now
    → Adds walk (AtSome holds (take (index + 1) items)) before now
at-more walk holds items index item d before mid now within is so_far one =
    adds-less walk (λ e. AtSome holds (take index items) e ⊎ holds item e)
    (AtSome holds (take (index + 1) items)) before now
    (adds-both walk (AtSome holds (take index items)) (holds item) before mid now so_far one)
    (λ e alone some. by e some
    (Contains-push_cases (take index items) item some.item
    (subst (λ xs. Contains xs some.item)
    (take_more items index d within ∙ ap (λ x. take index items ++ x ∷ []) (sym is)) some.among)))
  where
    by : (e : Derivation) (some : AtSome holds (take (index + 1) items) e)
        → Contains (take index items) some.item ⊎ (item ≡ some.item)
        → AtSome holds (take index items) e ⊎ holds item e
    by e some (inl earlier) =
        inl (record { item = some.item; among = earlier; is = some.is })
    by e some (inr last) = inr (subst (λ x. holds x e) (sym last) some.is)

-- behind the last item
pub at-last : {X : Type 0} (walk : Walk) (holds : X → Derivation → Type 0) (items : List X)
    (index : ℕ) (before now : Found)
    → length items ≤ index → Adds walk (AtSome holds (take index items)) before now
    → Adds walk (AtSome holds items) before now
at-last walk holds items index before now past adds =
    subst (λ xs. Adds walk (AtSome holds xs) before now) (take_all index items past) adds

-- ---- the first suffix of a derivation may be attached without its others
is-inside : {X Y : Type 0} (f : X → Option Y) (found : Option X)
    → is_some (option_and_then f found) ≡ true → is_some found ≡ true
is-inside f None is = is
is-inside f (Some x) is = refl

no-more : (strip : Bool) (found : Option (List ℕ)) → is_some found ≡ true
    → is_some (option_and_then (with_affix strip None)
    (option_and_then (with_affix strip None) found)) ≡ true
no-more strip None is = is
no-more strip (Some word) is = refl

named-by : (lexicon : Lexicon) (d : Derivation) (entry : Entry)
    → slice_get lexicon.entries d.entry ≡ Some entry → is_in_order lexicon.affixes.rules d ≡ true
    → named lexicon d ≡ Some (named_with lexicon.affixes.rules d entry)
named-by lexicon d entry at ordered =
    ap (λ b. if b then option_map (named_with lexicon.affixes.rules d)
    (slice_get lexicon.entries d.entry) else None) ordered
    ∙ ap (option_map (named_with lexicon.affixes.rules d)) at

bare-form : (lexicon : Lexicon) (d : Derivation) (word : List ℕ) → is_alone lexicon d ≡ true
    → form_of lexicon d ≡ Some word
    → is_some (form_of lexicon (derivation_of d.entry None d.first None)) ≡ true
unfolding form_of
bare-form lexicon d word alone gives =
    let rules = lexicon.affixes.rules in
    let strip = lexicon.affixes.options.full_strip in
    let is = known lexicon d alone in
    let e = derivation_of d.entry None d.first None in
    let n = named_with rules d is.entry in
    let inner = with_affix strip n.first is.entry.word in
    let ordered : is_in_order rules e ≡ true =
    ap (λ b. b && true) (rights rules d is.ordered).first in
    let whole : is_some (formed strip n) ≡ true =
    ap is_some (sym (ap (option_and_then (formed strip))
    (named-by lexicon d is.entry is.at is.ordered)) ∙ gives) in
    ap is_some (ap (option_and_then (formed strip)) (named-by lexicon e is.entry is.at ordered))
    ∙ no-more strip inner
    (is-inside (with_affix strip n.second) inner
    (is-inside (with_affix strip n.prefix) (option_and_then (with_affix strip n.second) inner)
    whole))

-- ---- levels of the walk
abbrev pub Whole : ℕ → Option ℕ → Option ℕ → Option ℕ → Derivation → Type 0
Whole entry first second prefix d = d ≡ derivation_of entry prefix first second

abbrev pub Ends : ℕ → Option ℕ → Option ℕ → Option ℕ → Derivation → Type 0
Ends entry prefix first second d = d ≡ derivation_of entry prefix first second

whole : (entry : ℕ) (prefix first second : Option ℕ) (d : Derivation) → d.entry ≡ entry
    → d.prefix ≡ prefix → d.first ≡ first → d.second ≡ second
    → d ≡ derivation_of entry prefix first second
whole entry prefix first second d a b c e =
    ap (λ n. derivation_of n d.prefix d.first d.second) a
    ∙ ap (λ n. derivation_of entry n d.first d.second) b
    ∙ ap (λ n. derivation_of entry prefix n d.second) c
    ∙ ap (derivation_of entry prefix first) e

pub second-adds : (walk : Walk) (entry : ℕ) (first second : Option ℕ)
    (prefixes by_first by_second : List (Option ℕ)) (a b c e : Found)
    → HasChoices walk.stems.now.affixes.rules Prefix (flags_at walk.stems.now entry) prefixes
    → HasAllowed walk.stems.now.affixes.rules Prefix (carried_at walk.stems.now first) by_first
    → HasAllowed walk.stems.now.affixes.rules Prefix (carried_at walk.stems.now second) by_second
    → Adds walk (AtSome (Whole entry first second) prefixes) a b
    → Adds walk (AtSome (Whole entry first second) by_first) b c
    → Adds walk (AtSome (Whole entry first second) by_second) c e
    → Adds walk (HasSuffixes entry first second) a e
second-adds walk entry first second prefixes by_first by_second a b c e own one two =
    λ adds more last. adds-less walk
    (λ d. (AtSome (Whole entry first second) prefixes d
    ⊎ AtSome (Whole entry first second) by_first d) ⊎ AtSome (Whole entry first second) by_second d)
    (HasSuffixes entry first second) a e
    (adds-both walk (λ d. AtSome (Whole entry first second) prefixes d
    ⊎ AtSome (Whole entry first second) by_first d) (AtSome (Whole entry first second) by_second)
    a c e (adds-both walk (AtSome (Whole entry first second) prefixes)
    (AtSome (Whole entry first second) by_first) a b c adds more) last)
    (λ d alone is. by d is (prefix-by lexicon d (known lexicon d alone)))
  where
    lexicon : Lexicon
    lexicon = walk.stems.now

    at : (d : Derivation) → HasSuffixes entry first second d → (names : List (Option ℕ))
        → Contains names d.prefix → AtSome (Whole entry first second) names d
    at d is names inside = record {
      item = d.prefix;
      among = inside;
      is = whole entry d.prefix first second d is.from refl is.first_is is.second_is;
    }

    by : (d : Derivation) → HasSuffixes entry first second d
        → Among walk.stems.now Prefix (flags_at walk.stems.now d.entry) d.prefix
        ⊎ (IsAllowedBy walk.stems.now.affixes.rules Prefix
        (carried_at walk.stems.now d.first) d.prefix
        ⊎ IsAllowedBy walk.stems.now.affixes.rules Prefix
        (carried_at walk.stems.now d.second) d.prefix)
        → (AtSome (Whole entry first second) prefixes d
        ⊎ AtSome (Whole entry first second) by_first d)
        ⊎ AtSome (Whole entry first second) by_second d
    by d is (inl allowed) =
        inl (inl (at d is prefixes
        (choice-listed lexicon Prefix (flags_at lexicon entry) prefixes d.prefix own
        (subst (λ place. Among lexicon Prefix (flags_at lexicon place) d.prefix) is.from allowed))))
    by d is (inr (inl allowed)) =
        inl (inr (at d is by_first
        (allowed-listed lexicon.affixes.rules Prefix (carried_at lexicon first) by_first d.prefix
        one (subst (λ named. IsAllowedBy lexicon.affixes.rules Prefix (carried_at lexicon named)
        d.prefix) is.first_is allowed))))
    by d is (inr (inr allowed)) =
        inr (at d is by_second
        (allowed-listed lexicon.affixes.rules Prefix (carried_at lexicon second) by_second d.prefix
        two (subst (λ named. IsAllowedBy lexicon.affixes.rules Prefix (carried_at lexicon named)
        d.prefix) is.second_is allowed)))

-- the second suffix is one of those that the first allows
second-listed : (lexicon : Lexicon) (d : Derivation) (first : Option ℕ) (seconds : List (Option ℕ))
    → is_alone lexicon d ≡ true → d.first ≡ first
    → HasChoices lexicon.affixes.rules Suffix (carried_at lexicon first) seconds
    → Contains seconds d.second
second-listed lexicon d first seconds alone is choices =
    choice-listed lexicon Suffix (carried_at lexicon first) seconds d.second choices
    (subst (λ named. Among lexicon Suffix (carried_at lexicon named) d.second) is
    (second-by lexicon d (known lexicon d alone)))

pub first-adds : (walk : Walk) (entry : ℕ) (first : Option ℕ) (seconds : List (Option ℕ))
    (before now : Found)
    → HasChoices walk.stems.now.affixes.rules Suffix (carried_at walk.stems.now first) seconds
    → Adds walk (AtSome (HasSuffixes entry first) seconds) before now
    → Adds walk (HasFirst entry first) before now
first-adds walk entry first seconds before now choices adds =
    adds-less walk (AtSome (HasSuffixes entry first) seconds) (HasFirst entry first) before now adds
    (λ d alone is. record {
      item = d.second;
      among = second-listed walk.stems.now d first seconds alone is.first_is choices;
      is = record { from = is.from; first_is = is.first_is; second_is = refl };
    })

pub pair-adds : (walk : Walk) (entry : ℕ) (prefix first : Option ℕ) (seconds : List (Option ℕ))
    (before now : Found)
    → HasChoices walk.stems.now.affixes.rules Suffix (carried_at walk.stems.now first) seconds
    → Adds walk (AtSome (Ends entry prefix first) seconds) before now
    → Adds walk (HasPair entry prefix first) before now
pair-adds walk entry prefix first seconds before now choices adds =
    adds-less walk (AtSome (Ends entry prefix first) seconds)
    (HasPair entry prefix first) before now adds
    (λ d alone is. record {
      item = d.second;
      among = second-listed walk.stems.now d first seconds alone is.first_is choices;
      is = whole entry prefix first d.second d is.from is.prefix_is is.first_is refl;
    })

-- where the first suffix may not be attached there is nothing
no-first : (lexicon : Lexicon) (d : Derivation) (entry : ℕ) (first : Option ℕ) (word : List ℕ)
    → is_some (form_of lexicon (derivation_of entry None first None)) ≡ false → d.entry ≡ entry
    → d.first ≡ first → is_alone lexicon d ≡ true → form_of lexicon d ≡ Some word → ⊥
no-first lexicon d entry first word none from is alone gives =
    true≢false (sym (bare-form lexicon d word alone gives)
    ∙ ap (λ n. is_some (form_of lexicon (derivation_of n None d.first None))) from
    ∙ ap (λ n. is_some (form_of lexicon (derivation_of entry None n None))) is ∙ none)

pub first-none : (walk : Walk) (entry : ℕ) (first : Option ℕ) (found : Found)
    → IsUnderWay walk found
    → is_some (form_of walk.stems.now (derivation_of entry None first None)) ≡ false
    → Adds walk (HasFirst entry first) found found
first-none walk entry first found way none =
    adds-none walk (HasFirst entry first) found way (λ d word is alone gives.
    no-first walk.stems.now d entry first word none is.from is.first_is alone gives)

pub pair-none : (walk : Walk) (entry : ℕ) (prefix first : Option ℕ) (found : Found)
    → IsUnderWay walk found
    → is_some (form_of walk.stems.now (derivation_of entry None first None)) ≡ false
    → Adds walk (HasPair entry prefix first) found found
pair-none walk entry prefix first found way none =
    adds-none walk (HasPair entry prefix first) found way (λ d word is alone gives.
    no-first walk.stems.now d entry first word none is.from is.first_is alone gives)

pub behind-adds : (walk : Walk) (entry : ℕ) (prefix : Option ℕ) (firsts : List (Option ℕ))
    (before now : Found)
    → HasAllowed walk.stems.now.affixes.rules Suffix (carried_at walk.stems.now prefix) firsts
    → Adds walk (AtSome (HasPair entry prefix) firsts) before now
    → Adds walk (IsOfEntryAndPrefix walk.stems.now entry prefix) before now
behind-adds walk entry prefix firsts before now allowed adds =
    adds-less walk (AtSome (HasPair entry prefix) firsts) (IsOfEntryAndPrefix walk.stems.now entry prefix)
    before now adds
    (λ d alone is. record {
      item = d.first;
      among = allowed-listed walk.stems.now.affixes.rules Suffix (carried_at walk.stems.now prefix)
          firsts d.first allowed is.allowed;
      is = record { from = is.from; prefix_is = is.prefix_is; first_is = refl };
    })

pub entry-adds : (walk : Walk) (entry : ℕ) (prefixes firsts : List (Option ℕ)) (a b c : Found)
    → HasChoices walk.stems.now.affixes.rules Prefix (flags_at walk.stems.now entry) prefixes
    → HasChoices walk.stems.now.affixes.rules Suffix (flags_at walk.stems.now entry) firsts
    → Adds walk (AtSome (HasFirst entry) firsts) a b
    → Adds walk (AtSome (IsOfEntryAndPrefix walk.stems.now entry) prefixes) b c
    → Adds walk (IsFrom entry) a c
entry-adds walk entry prefixes firsts a b c own own_firsts adds more =
    adds-less walk
    (λ d. AtSome (HasFirst entry) firsts d ⊎ AtSome (IsOfEntryAndPrefix lexicon entry) prefixes d)
    (IsFrom entry) a c
    (adds-both walk (AtSome (HasFirst entry) firsts) (AtSome (IsOfEntryAndPrefix lexicon entry) prefixes)
    a b c adds more)
    (λ d alone from. by d from (first-by lexicon d (known lexicon d alone)))
  where
    lexicon : Lexicon
    lexicon = walk.stems.now

    by : (d : Derivation) → d.entry ≡ entry
        → Among walk.stems.now Suffix (flags_at walk.stems.now d.entry) d.first
        ⊎ FirstBy walk.stems.now d
        → AtSome (HasFirst entry) firsts d ⊎ AtSome (IsOfEntryAndPrefix walk.stems.now entry) prefixes d
    by d from (inl allowed) = inl (record {
      item = d.first;
      among = choice-listed lexicon Suffix (flags_at lexicon entry) firsts d.first own_firsts
          (subst (λ place. Among lexicon Suffix (flags_at lexicon place) d.first) from allowed);
      is = record { from = from; first_is = refl };
    })
    by d from (inr is) = inr (record {
      item = d.prefix;
      among = choice-listed lexicon Prefix (flags_at lexicon entry) prefixes d.prefix own
          (subst (λ place. Among lexicon Prefix (flags_at lexicon place) d.prefix) from is.prefix);
      is = record { from = from; prefix_is = refl; allowed = is.first };
    })

-- ---- one derivation
pub form-not-alone : (walk : Walk) (d : Derivation) (found : Found) → IsUnderWay walk found
    → is_alone walk.stems.now d ≡ false → Adds walk (λ e. e ≡ d) found found
form-not-alone walk d found way not =
    adds-none walk (λ e. e ≡ d) found way (λ e word is alone gives.
    true≢false (sym alone ∙ ap (is_alone walk.stems.now) is ∙ not))

pub form-none : (walk : Walk) (d : Derivation) (found : Found) → IsUnderWay walk found
    → form_of walk.stems.now d ≡ None → Adds walk (λ e. e ≡ d) found found
form-none walk d found way none =
    adds-none walk (λ e. e ≡ d) found way (λ e word is alone gives.
    true≢false (sym (ap is_some gives) ∙ ap is_some (ap (form_of walk.stems.now) is ∙ none)))

pub form-adds : (walk : Walk) (d : Derivation) (word : List ℕ) (before now : Found)
    → IsUnderWay walk before → form_of walk.stems.now d ≡ Some word
    → AreFound walk.stems.now walk.limit now → KeepsWords before now
    → HasForm walk.stems.now word now
    → Adds walk (λ e. e ≡ d) before now
form-adds walk d word before now way is found kept has = record {
  way = record { rules = way.rules; found = found };
  kept = kept;
  all = λ e other same alone gives.
      subst (λ w. HasForm walk.stems.now w now)
      (same_Some word other (sym is ∙ sym (ap (form_of walk.stems.now) same) ∙ gives)) has;
}

-- ---- all entries
abbrev pub IsBelow : ℕ → Derivation → Type 0
IsBelow count d = d.entry < count

pub below-none : (walk : Walk) (found : Found) → IsUnderWay walk found
    → Adds walk (IsBelow 0) found found
below-none walk found way =
    adds-none walk (IsBelow 0) found way (λ d word below alone gives. absurd (omega (arith, below)))

pub below-more : (walk : Walk) (count : ℕ) (before mid now : Found)
    → Adds walk (IsBelow count) before mid → Adds walk (IsFrom count) mid now
    → Adds walk (IsBelow (count + 1)) before now
below-more walk count before mid now so_far one =
    adds-less walk (λ d. IsBelow count d ⊎ IsFrom count d) (IsBelow (count + 1)) before now
    (adds-both walk (IsBelow count) (IsFrom count) before mid now so_far one)
    (λ d alone below. earlier d.entry count below)

pub all-below : (walk : Walk) (count : ℕ) (before now : Found)
    → length walk.stems.now.entries ≤ count → Adds walk (IsBelow count) before now
    → Adds walk Each before now
all-below walk count before now past adds =
    adds-less walk (IsBelow count) Each before now adds (λ d alone each.
    let is = known walk.stems.now d alone in
    let below = slice_get_within walk.stems.now.entries d.entry is.entry is.at in
    omega (arith, below, past))

pub all-found : (walk : Walk) (before now : Found) → Adds walk Each before now
    → HasAll walk.stems.now now
all-found walk before now adds word form =
    adds.all form.stands.derivation word tt form.stands.alone form.stands.gives form.nonempty
    form.free
