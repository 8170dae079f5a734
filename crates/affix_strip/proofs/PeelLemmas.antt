-- Words without affixes: what the groups at one cut add to them, and what it means to undo a rule
-- of theirs.
use Rattle.std.proofs.Common.{◌≡◌, ◌∙◌, ◌⊎◌, inl, inr, refl, sym, ap, ap₂, subst, ℕ, zero, suc, ◌+◌}
use Rattle.std.proofs.Common.{◌-◌, ◌<◌, ◌≤◌, Bool, true, false, ◌&&◌, List, [], ◌∷◌, ◌++◌, length}
use Rattle.std.proofs.Common.{map, take, drop, get_or, append_assoc, length-take, length-drop}
use Rattle.std.proofs.Common.{nat_eq, slice_get, Contains, None, Some, option_and_then}
use Rattle.std.proofs.Common.{if◌then◌else◌, arith}
use Rattle.std.specs.List.{starts_with, ends_with}
use Rattle.std.specs.Option.{option_map_or}
use Rattle.std.proofs.lemmas.Bool.{and_parts, cases_order}
use Rattle.std.proofs.lemmas.List.{take_more, map-append}
use Rattle.std.proofs.lemmas.List.Elements.{Contains-append_left, Contains-append_right}
use Rattle.std.proofs.lemmas.List.Elements.{Contains-append_cases}
use Rattle.std.proofs.lemmas.Option.{option_and_then_some, cond_some, slice_get-get_or}
use Rattle.std.proofs.lemmas.Slice.Eq.{bytes_eq-Decides}
use Rattle.spell_types.specs.lists.Laws.{contains-map}
use Rattle.spell_types.specs.declared.Affixes.{Affixes}
use Rattle.spell_types.specs.declared.rules.Rule.{Rule}
use Rattle.spell_types.specs.declared.rules.Side.{Side}
use Rattle.spell_types.specs.declared.rules.Side.TheVariants.{Prefix, Suffix}
use Rattle.spell_types.specs.Attaching.{may_strip}
use Rattle.spell_types.specs.Conditions.{fits_front, fits_back}
use Rattle.spell_types.specs.Derivations.{is_same_side, rule_on}
use Rattle.affix_classes.specs.Undoing.{suffix_put_back, prefix_put_back, undone_on}
use Rattle.affix_tables.specs.Groups.{Group, strip_in, places_in, HasPlace, AreGroups}
use Rattle.spell_types.specs.Laws.{own_side}
use Rattle.affix_strip.specs.Peeling.{IsOn, join, has_at, cut_off, kept_behind_cut, IsCutAtSide}
use Rattle.affix_strip.specs.Peeling.{Peeled}
use Rattle.affix_strip.specs.Peeling.{peeled_by, Leaves, IsPeeled, ArePeeled, may_undo, may_undo_at}
use Rattle.affix_strip.proofs.UndoneWords.{undone_at}
use Rattle.affix_strip.proofs.InverseLemmas.{rule_on-side}
use Rattle.affix_strip.proofs.TableLemmas.{on-rule}

-- ---- what stands at the end of a word
cut-length : (side : Side) (word : List ℕ) (count : ℕ) → count ≤ length word
    → length (cut_off side word count) ≡ count
cut-length Prefix word count within = omega (arith, length-take count word, within)
cut-length Suffix word count within = omega (arith, length-drop (length word - count) word, within)

has-cut : (side : Side) (word added : List ℕ) → has_at side word added ≡ true
    → added ≡ cut_off side word (length added)
has-cut Prefix word added has = (bytes_eq-Decides added (take (length added) word)).0 has
has-cut Suffix word added has =
    (bytes_eq-Decides added (drop (length word - length added) word)).0 has

cut-has : (side : Side) (word added : List ℕ) → added ≡ cut_off side word (length added)
    → has_at side word added ≡ true
cut-has Prefix word added is = (bytes_eq-Decides added (take (length added) word)).1 is
cut-has Suffix word added is =
    (bytes_eq-Decides added (drop (length word - length added) word)).1 is

pub has-within : (side : Side) (word added : List ℕ) → has_at side word added ≡ true
    → length added ≤ length word
has-within Prefix word added has =
    omega (arith, ap length (has-cut Prefix word added has), length-take (length added) word)
has-within Suffix word added has =
    omega (
      arith,
      ap length (has-cut Suffix word added has),
      length-drop (length word - length added) word,
    )

-- ---- one cut more
-- the word without each affix of fewer characters than this
pub record ArePeeledBelow (rules : List Rule) (side : Side) (word : List ℕ) (count : ℕ)
    (found : List Peeled) : Type 0 where
  pub sound : (peeled : Peeled) (place : ℕ) → Contains found peeled → Contains peeled.1 place
      → Leaves rules side word place peeled.0
  pub all : (place : ℕ) (rule : Rule) → IsOn rules side place rule
      → has_at side word rule.add ≡ true → length rule.add < count → IsPeeled found place

pub peeled-none : (rules : List Rule) (side : Side) (word : List ℕ)
    → ArePeeledBelow rules side word 0 []
peeled-none rules side word = record {
  sound = λ peeled place (k, within, at) has. absurd (omega (arith, within));
  all = λ place rule on has below. absurd (omega (arith, below));
}

record IsFrom {X Y : Type 0} (f : X → Y) (xs : List X) (y : Y) : Type 0 where
  item : X
  among : Contains xs item
  is : f item ≡ y

map-contains : {X Y : Type 0} (f : X → Y) (xs : List X) (y : Y) → Contains (map f xs) y
    → IsFrom f xs y
map-contains f [] y (k, within, at) = absurd (omega (arith, within))
map-contains f (x ∷ xs) y (zero, within, at) =
    record { item = x; among = (0, omega arith, refl); is = at }
map-contains f (x ∷ xs) y (suc k, within, at) =
    let from = map-contains f xs y (k, omega (arith, within), at) in
    record {
      item = from.item;
      among = Contains-append_right (x ∷ []) xs from.item from.among;
      is = from.is;
    }

module _ (rules : List Rule) (side : Side) (word : List ℕ) (count : ℕ)
    (within : count ≤ length word) (added kept : List ℕ) (cut : IsCutAtSide side word count added kept)
    (groups : List Group) (are : AreGroups rules side added groups) where
  added-length : length added ≡ count
  added-length = ap length cut.off ∙ cut-length side word count within

  group-leaves : (group : Group) (place : ℕ) → Contains groups group → Contains group.1.items place
      → Leaves rules side word place (join side kept group.0.items)
  group-leaves group place among has =
      by ((are.members group.0.items place).0
      (record { group = group; among = among; strips = refl; has = has }))
    where
      by : ((rule : Rule) × (slice_get rules place ≡ Some rule) × (rule.side ≡ side)
          × (rule.add ≡ added) × (rule.strip ≡ group.0.items))
          → Leaves rules side word place (join side kept group.0.items)
      by (rule, at, on, adds, strips) =
          let size : length rule.add ≡ count = ap length adds ∙ added-length in
          record {
            rule = rule;
            on = (at, on);
            fits = cut-has side word rule.add (adds ∙ cut.off ∙ ap (cut_off side word) (sym size));
            is = ap (λ k. join side k rule.strip) (ap (kept_behind_cut side word) size ∙ sym cut.left)
                ∙ ap (join side kept) strips;
          }

  group-peeled : (place : ℕ) (rule : Rule) → IsOn rules side place rule
      → has_at side word rule.add ≡ true → length rule.add ≡ count
      → IsPeeled (map (peeled_by side kept) groups) place
  group-peeled place rule on has size =
      by ((are.members rule.strip place).1 (
        rule,
        on.0,
        on.1,
        has-cut side word rule.add has ∙ ap (cut_off side word) size
            ∙ sym cut.off,
        refl,
      ))
    where
      by : HasPlace groups rule.strip place → IsPeeled (map (peeled_by side kept) groups) place
      by at = record {
        peeled = peeled_by side kept at.group;
        among = contains-map (peeled_by side kept) groups at.group at.among;
        has = at.has;
      }

  pub peeled-more : (found : List Peeled) → ArePeeledBelow rules side word count found
      → ArePeeledBelow rules side word (count + 1) (found ++ map (peeled_by side kept) groups)
  peeled-more found before = record {
    sound = λ peeled place among has.
        sound-by peeled place
        (Contains-append_cases found (map (peeled_by side kept) groups) peeled among) has;
    all = λ place rule on has below. all-by place rule on has below
        (cases_order (length rule.add) count);
  }
    where
      new : (peeled : Peeled) (place : ℕ) → IsFrom (peeled_by side kept) groups peeled
          → Contains peeled.1 place → Leaves rules side word place peeled.0
      new peeled place from has =
          subst (λ (p : Peeled). Leaves rules side word place p.0) from.is
          (group-leaves from.item place from.among
          (subst (λ (p : Peeled). Contains p.1 place) (sym from.is) has))

      sound-by : (peeled : Peeled) (place : ℕ) → Contains found peeled
          ⊎ Contains (map (peeled_by side kept) groups) peeled → Contains peeled.1 place
          → Leaves rules side word place peeled.0
      sound-by peeled place (inl among) has = before.sound peeled place among has
      sound-by peeled place (inr among) has =
          new peeled place (map-contains (peeled_by side kept) groups peeled among) has

      left : (place : ℕ) → IsPeeled found place
          → IsPeeled (found ++ map (peeled_by side kept) groups) place
      left place is =
          record {
            peeled = is.peeled;
            among = Contains-append_left found (map (peeled_by side kept) groups) is.peeled
                is.among;
            has = is.has;
          }

      right : (place : ℕ) → IsPeeled (map (peeled_by side kept) groups) place
          → IsPeeled (found ++ map (peeled_by side kept) groups) place
      right place is =
          record {
            peeled = is.peeled;
            among = Contains-append_right found (map (peeled_by side kept) groups) is.peeled
                is.among;
            has = is.has;
          }

      all-by : (place : ℕ) (rule : Rule) → IsOn rules side place rule
          → has_at side word rule.add ≡ true → length rule.add < count + 1
          → (length rule.add ≡ count) ⊎ ((length rule.add < count) ⊎ (count < length rule.add))
          → IsPeeled (found ++ map (peeled_by side kept) groups) place
      all-by place rule on has below (inl same) = right place (group-peeled place rule on has same)
      all-by place rule on has below (inr (inl less)) =
          left place (before.all place rule on has less)
      all-by place rule on has below (inr (inr more)) = absurd (omega (arith, below, more))

-- what is added for one group more
pub peeled-next : (side : Side) (kept : List ℕ) (groups : List Group) (number : ℕ)
    (before found now : List Peeled) (rest places : List ℕ) → number < length groups
    → found ≡ before ++ map (peeled_by side kept) (take number groups)
    → rest ≡ join side kept (strip_in (slice_get groups number))
    → places ≡ places_in (slice_get groups number)
    → now ≡ found ++ (rest, places) ∷ []
    → now ≡ before ++ map (peeled_by side kept) (take (number + 1) groups)
peeled-next side kept [] number before found now rest places within was left at is =
    absurd (omega (arith, within))
peeled-next side kept (first ∷ groups) number before found now rest places within was left at is =
    is
    ∙ ap₂ (λ ps p. ps ++ p ∷ []) was
    (ap₂ (λ r q. (r, q)) left at ∙ ap (λ g. (join side kept (strip_in g), places_in g)) there)
    ∙ append_assoc before (map (peeled_by side kept) (take number (first ∷ groups)))
    (peeled_by side kept (get_or (first ∷ groups) number first) ∷ [])
    ∙ ap (λ ps. before ++ ps)
    (sym (map-append (peeled_by side kept) (take number (first ∷ groups))
    (get_or (first ∷ groups) number first ∷ []))
    ∙ ap (map (peeled_by side kept)) (sym (take_more (first ∷ groups) number first within)))
  where
    there : slice_get (first ∷ groups) number ≡ Some (get_or (first ∷ groups) number first)
    there = slice_get-get_or (first ∷ groups) number first within

-- all cuts
pub peeled-all : (rules : List Rule) (side : Side) (word : List ℕ) (reach count : ℕ)
    (found : List Peeled)
    → ((place : ℕ) (rule : Rule) → IsOn rules side place rule → has_at side word rule.add ≡ true
    → length rule.add ≤ reach)
    → reach + 1 ≤ count → ArePeeledBelow rules side word count found
    → ArePeeled rules side word found
peeled-all rules side word reach count found bound past below = record {
  sound = below.sound;
  all = λ place rule on has. below.all place rule on has
      (omega (arith, bound place rule on has, past));
}

-- ---- what is undone
undone_on-leaves : (full_strip : Bool) (side : Side) (rule : Rule) (word rest : List ℕ)
    → has_at side word rule.add ≡ true
    → join side (kept_behind_cut side word (length rule.add)) rule.strip
    ≡ rest
    → undone_on side full_strip rule word
    ≡ (if may_undo full_strip side rest rule then Some rest else None)
undone_on-leaves full_strip Prefix rule word rest has is =
    ap (λ b. if b
    && (may_strip full_strip rule (prefix_put_back rule word)
    && fits_front rule.condition (prefix_put_back rule word))
    then Some (prefix_put_back rule word) else None) has
    ∙ ap (λ r. if may_undo full_strip Prefix r rule then Some r else None) is
undone_on-leaves full_strip Suffix rule word rest has is =
    ap (λ b. if b
    && (may_strip full_strip rule (suffix_put_back rule word)
    && fits_back rule.condition (suffix_put_back rule word))
    then Some (suffix_put_back rule word) else None) has
    ∙ ap (λ r. if may_undo full_strip Suffix r rule then Some r else None) is

rule_on-at : (rules : List Rule) (side : Side) (place : ℕ) (rule : Rule)
    → IsOn rules side place rule → rule_on rules side place ≡ Some rule
rule_on-at rules side place rule (at, on) =
    ap (option_and_then (λ (r : Rule). if is_same_side side r.side then Some r else None)) at
    ∙ ap (λ b. if b then Some rule else None) (ap (is_same_side side) on ∙ own_side side)

pub leaves-undone : (affixes : Affixes) (side : Side) (word : List ℕ) (place : ℕ) (rest : List ℕ)
    → Leaves affixes.rules side word place rest
    → undone_at affixes side place word
    ≡ (if may_undo_at affixes side rest place then Some rest else None)
leaves-undone affixes side word place rest leaves =
    ap (option_and_then (λ (rule : Rule). undone_on side affixes.options.full_strip rule word))
    (rule_on-at affixes.rules side place leaves.rule leaves.on)
    ∙ undone_on-leaves affixes.options.full_strip side leaves.rule word rest leaves.fits leaves.is
    ∙ ap (λ b. if b then Some rest else None)
    (sym (ap (λ found. option_map_or (may_undo affixes.options.full_strip side rest) found
    false) leaves.on.0))

-- a rule that is undone is one whose text the word has
pub record IsHad (affixes : Affixes) (side : Side) (word : List ℕ) (place : ℕ) : Type 0 where
  pub rule : Rule
  pub on : IsOn affixes.rules side place rule
  pub has : has_at side word rule.add ≡ true

undone_on-has : (full_strip : Bool) (side : Side) (rule : Rule) (word inner : List ℕ)
    → undone_on side full_strip rule word ≡ Some inner → has_at side word rule.add ≡ true
undone_on-has full_strip Prefix rule word inner is =
    (and_parts (starts_with nat_eq word rule.add)
    (may_strip full_strip rule (prefix_put_back rule word)
    && fits_front rule.condition (prefix_put_back rule word))
    (cond_some _ (prefix_put_back rule word) inner is).0).0
undone_on-has full_strip Suffix rule word inner is =
    (and_parts (ends_with nat_eq word rule.add)
    (may_strip full_strip rule (suffix_put_back rule word)
    && fits_back rule.condition (suffix_put_back rule word))
    (cond_some _ (suffix_put_back rule word) inner is).0).0

pub undone-had : (affixes : Affixes) (side : Side) (place : ℕ) (word inner : List ℕ)
    → undone_at affixes side place word ≡ Some inner → IsHad affixes side word place
undone-had affixes side place word inner is =
    option_and_then_some (λ (rule : Rule). undone_on side affixes.options.full_strip rule word)
    (rule_on affixes.rules side place) inner is (λ rule on undone. record {
      rule = rule;
      on = (
        on-rule affixes.rules side place rule on,
        rule_on-side affixes.rules side place rule
            on,
      );
      has = undone_on-has affixes.options.full_strip side rule word inner undone;
    })
