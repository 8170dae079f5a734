-- The rule that a text is, from its items.
use Rattle.std.proofs.Common.{◌≡◌, ℕ, ◌<◌, Bool, true, false, cond, List, [], ◌∷◌, ◌++◌, length}
use Rattle.std.proofs.Common.{map, Option, Some, None, option_and_then, Result, Ok, Err, ◌↔◌, refl}
use Rattle.std.proofs.Common.{sym, ap, ◌∙◌, append-nil, arith}
use Rattle.std.specs.Option.{option_map, ok_or}
use Rattle.std.specs.Str.{chars, IsUtf8, encode_utf8_all}
use Rattle.std.proofs.lemmas.Str.{encodes-chars}
use Rattle.flag_sets.specs.FlagTexts.{one_flag}
use Rattle.spell_types.specs.declared.flags.Flag.{Flag}
use Rattle.spell_types.specs.declared.flags.FlagKind.{FlagKind}
use Rattle.spell_types.specs.declared.patterns.PatternStep.{PatternStep}
use Rattle.compound_pattern.specs.declared.reading.PatternFault.{PatternFault}
use Rattle.compound_pattern.specs.declared.reading.PatternFault.TheVariants.{BadPattern, BadFlag}
use Rattle.compound_pattern.specs.PatternTexts.{Item, flag_text, step_of, IsWrittenBy, ReadsPattern}
use Rattle.compound_pattern.specs.PatternTexts.{HasBadFlag, pattern_items_of, with_first, steps_of}
use Rattle.compound_pattern.specs.PatternTexts.{rule_of_items}
use Rattle.compound_pattern.specs.PatternTexts.{pattern_of}
use Rattle.compound_pattern.proofs.ItemLemmas.{items_of-nil, items_of-written, written-items_of}
use Rattle.compound_pattern.proofs.ItemLemmas.{some_items}

-- ---- the steps of items
map-steps_of : (kind : FlagKind) (items : List Item) (steps : List PatternStep)
    → map (step_of kind) items ≡ map (λ step. Some step) steps → steps_of kind items ≡ Some steps
map-steps_of kind [] [] each = refl
map-steps_of kind [] (step ∷ steps) each = absurd (cc)
map-steps_of kind (item ∷ more) [] each = absurd (cc)
map-steps_of kind (item ∷ more) (step ∷ steps) each =
    let own : step_of kind item ≡ Some step = cc in
    let others : map (step_of kind) more ≡ map (λ s. Some s) steps = cc in
    ap (option_and_then (λ s. with_first s (steps_of kind more))) own
    ∙ ap (with_first step) (map-steps_of kind more steps others)

-- ---- what the items of a text are told to be
-- a text of these items
told-items : (kind : FlagKind) (text : List ℕ) (items : List Item) → IsWrittenBy kind text items
    → pattern_items_of kind (chars text) ≡ Some items
told-items kind text items is = ap (pattern_items_of kind) is.joined ∙ items_of-written kind items is.right

rule_of-some : (kind : FlagKind) (items : List Item) → 0 < length items
    → rule_of_items kind (Some items) ≡ ok_or (steps_of kind items) BadFlag
rule_of-some kind [] some = absurd (omega (arith, some))
rule_of-some kind (item ∷ more) some = refl

told : (kind : FlagKind) (text : List ℕ) (items : List Item) → IsWrittenBy kind text items
    → pattern_of kind text ≡ ok_or (steps_of kind items) BadFlag
unfolding pattern_of
told kind text items is =
    ap (rule_of_items kind) (told-items kind text items is) ∙ rule_of-some kind items is.some

-- what the steps of items come to
data Come (kind : FlagKind) (items : List Item) : Type 0 where
  all : (steps : List PatternStep) → map (step_of kind) items ≡ map (λ step. Some step) steps
      → Come kind items
  not_all : (front : List Item) (item : Item) (more : List Item) → items ≡ front ++ item ∷ more
      → one_flag kind (encode_utf8_all (flag_text item.flag)) ≡ None → Come kind items

come : (kind : FlagKind) (items : List Item) → Come kind items
come kind [] = all [] refl
come kind (item ∷ more) =
    by (one_flag kind (encode_utf8_all (flag_text item.flag))) refl (come kind more)
  where
    by : (o : Option Flag) → one_flag kind (encode_utf8_all (flag_text item.flag)) ≡ o
        → Come kind more → Come kind (item ∷ more)
    by None is rest = not_all [] item more refl is
    by (Some flag) is (all steps each) =
        let own : PatternStep = record { flag = flag; times = item.times } in
        all (own ∷ steps)
        (ap (λ o. option_map (λ f. record { flag = f; times = item.times }) o
        ∷ map (step_of kind) more) is ∙ ap (λ xs. Some own ∷ xs) each)
    by (Some flag) is (not_all front other rest place bad) =
        not_all (item ∷ front) other rest (ap (λ xs. item ∷ xs) place) bad

steps_of-bad : (kind : FlagKind) (front : List Item) (item : Item) (more : List Item)
    → one_flag kind (encode_utf8_all (flag_text item.flag)) ≡ None
    → steps_of kind (front ++ item ∷ more) ≡ None
steps_of-bad kind [] item more bad =
    ap (λ o. option_and_then (λ step. with_first step (steps_of kind more))
    (option_map (λ f. record { flag = f; times = item.times }) o)) bad
steps_of-bad kind (other ∷ front) item more bad =
    ap (λ o. option_and_then (λ step. with_first step o) (step_of kind other))
    (steps_of-bad kind front item more bad) ∙ lost (step_of kind other)
  where
    lost : (o : Option PatternStep) → option_and_then (λ step. with_first step None) o ≡ None
    lost None = refl
    lost (Some step) = refl

-- ---- what a text is told to be, by its items
-- a text is written by items or by none
data Written (kind : FlagKind) (text : List ℕ) : Type 0 where
  by_items : (items : List Item) → IsWrittenBy kind text items → Written kind text
  by_none : pattern_of kind text ≡ Err BadPattern → Written kind text

written_or_not : (kind : FlagKind) (text : List ℕ) → Written kind text
unfolding pattern_of
written_or_not kind text = by (pattern_items_of kind (chars text)) refl
  where
    by : (o : Option (List Item)) → pattern_items_of kind (chars text) ≡ o → Written kind text
    by None is = by_none (ap (rule_of_items kind) is)
    by (Some []) is = by_none (ap (rule_of_items kind) is)
    by (Some (item ∷ more)) is =
        let parts = written-items_of kind (item ∷ more) (chars text) is in
        by_items (item ∷ more) (record { some = omega arith; right = parts.1; joined = parts.0 })

pub pattern_of-read : (kind : FlagKind) (text : List ℕ) (steps : List PatternStep)
    → (pattern_of kind text ≡ Ok steps) ↔ ReadsPattern kind text steps
pattern_of-read kind text steps = (there (written_or_not kind text), back)
  where
    by : (items : List Item) → IsWrittenBy kind text items → Come kind items
        → pattern_of kind text ≡ Ok steps → ReadsPattern kind text steps
    by items is (all made each) same =
        let read = told kind text items is
        ∙ ap (λ o. ok_or o BadFlag) (map-steps_of kind items made each) in
        let steps_same : made ≡ steps = cc in
        record {
          items = items;
          written_by = is;
          each = each
              ∙ ap (map (λ step. Some step)) steps_same;
        }
    by items is (not_all front item more place bad) same =
        let read = told kind text items is ∙ ap (λ xs. ok_or (steps_of kind xs) BadFlag) place
        ∙ ap (λ o. ok_or o BadFlag) (steps_of-bad kind front item more bad) in
        absurd (cc)

    there : Written kind text → pattern_of kind text ≡ Ok steps → ReadsPattern kind text steps
    there (by_items items is) same = by items is (come kind items) same
    there (by_none fault) same = absurd (cc)

    back : ReadsPattern kind text steps → pattern_of kind text ≡ Ok steps
    back reads = told kind text reads.items reads.written_by
        ∙ ap (λ o. ok_or o BadFlag) (map-steps_of kind reads.items steps reads.each)

pub pattern_of-bad_pattern : (kind : FlagKind) (text : List ℕ)
    → (pattern_of kind text ≡ Err BadPattern)
    ↔ ((items : List Item) → IsWrittenBy kind text items → ⊥)
pattern_of-bad_pattern kind text = (there, back (written_or_not kind text))
  where
    by : (o : Option (List PatternStep)) → ok_or o BadFlag ≡ Err BadPattern → ⊥
    by None same = cc
    by (Some steps) same = cc

    there : pattern_of kind text ≡ Err BadPattern → (items : List Item)
        → IsWrittenBy kind text items → ⊥
    there same items is = by (steps_of kind items) (sym (told kind text items is) ∙ same)

    back : Written kind text → ((items : List Item) → IsWrittenBy kind text items → ⊥)
        → pattern_of kind text ≡ Err BadPattern
    back (by_items items is) none = absurd (none items is)
    back (by_none fault) none = fault

pub pattern_of-bad_flag : (kind : FlagKind) (text : List ℕ) → (pattern_of kind text ≡ Err BadFlag)
    ↔ HasBadFlag kind text
pattern_of-bad_flag kind text = (there (written_or_not kind text), back)
  where
    by : (items : List Item) → IsWrittenBy kind text items → Come kind items
        → pattern_of kind text ≡ Err BadFlag → HasBadFlag kind text
    by items is (all made each) same =
        let read = told kind text items is
        ∙ ap (λ o. ok_or o BadFlag) (map-steps_of kind items made each) in
        absurd (cc)
    by items is (not_all front item more place bad) same =
        record {
          items = items;
          written_by = is;
          front = front;
          item = item;
          more = more;
          place = place;
          bad = bad;
        }

    there : Written kind text → pattern_of kind text ≡ Err BadFlag → HasBadFlag kind text
    there (by_items items is) same = by items is (come kind items) same
    there (by_none fault) same = absurd (cc)

    back : HasBadFlag kind text → pattern_of kind text ≡ Err BadFlag
    back has =
        told kind text has.items has.written_by
        ∙ ap (λ xs. ok_or (steps_of kind xs) BadFlag) has.place
        ∙ ap (λ o. ok_or o BadFlag) (steps_of-bad kind has.front has.item has.more has.bad)

-- ---- a text that is read item by item
-- what is told where some steps are made, and whether the items so far were all flags, and these
-- are the others
abbrev pub told_after : FlagKind → Bool → List PatternStep → Option (List Item)
    → Result (List PatternStep) PatternFault
told_after kind are_flags made None = Err BadPattern
told_after kind true made (Some items) =
    ok_or (option_map (λ steps. made ++ steps) (steps_of kind items)) BadFlag
told_after kind false made (Some items) = Err BadFlag

begins_some : (text : List ℕ) → IsUtf8 text → 0 < length text → (c : ℕ) × (rest : List ℕ)
    × (chars text ≡ c ∷ rest)
begins_some text utf8 some = by (chars text) refl
  where
    by : (cs : List ℕ) → chars text ≡ cs → (c : ℕ) × (rest : List ℕ) × (chars text ≡ c ∷ rest)
    by [] none =
        let empty : [] ≡ text = ap encode_utf8_all (sym none) ∙ encodes-chars text utf8 in
        absurd (omega (arith, ap length empty, some))
    by (c ∷ rest) is = (c, rest, is)

pub told-first : (kind : FlagKind) (text : List ℕ) → IsUtf8 text → 0 < length text
    → told_after kind true [] (pattern_items_of kind (chars text)) ≡ pattern_of kind text
unfolding pattern_of
told-first kind text utf8 some = by (pattern_items_of kind (chars text)) refl
  where
    by : (o : Option (List Item)) → pattern_items_of kind (chars text) ≡ o
        → told_after kind true [] o ≡ rule_of_items kind o
    by None is = refl
    by (Some []) is =
        let begins = begins_some text utf8 some in
        absurd (some_items kind begins.0 begins.1 (ap (pattern_items_of kind) (sym begins.2) ∙ is))
    by (Some (item ∷ more)) is = same (steps_of kind (item ∷ more))
      where
        same : (o : Option (List PatternStep)) → ok_or (option_map (λ steps. [] ++ steps) o) BadFlag
            ≡ ok_or o BadFlag
        same None = refl
        same (Some steps) = refl

-- nothing is left
pub told-last : (kind : FlagKind) (are_flags : Bool) (made : List PatternStep) (text rest : List ℕ)
    → length rest ≡ 0
    → told_after kind are_flags made (pattern_items_of kind (chars rest)) ≡ pattern_of kind text
    → pattern_of kind text ≡ cond are_flags (Ok made) (Err BadFlag)
unfolding chars
told-last kind are_flags made text [] none so_far =
    sym so_far ∙ ap (told_after kind are_flags made) (items_of-nil kind) ∙ by are_flags
  where
    by : (b : Bool) → told_after kind b made (Some []) ≡ cond b (Ok made) (Err BadFlag)
    by true = ap (λ xs. Ok xs) (append-nil made)
    by false = refl
told-last kind are_flags made text (b ∷ rest) none so_far = absurd (omega (arith, none))

-- the empty text
pub told-empty : (kind : FlagKind) (text : List ℕ) → length text ≡ 0
    → pattern_of kind text ≡ Err BadPattern
unfolding pattern_of chars
told-empty kind [] none = ap (rule_of_items kind) (items_of-nil kind)
told-empty kind (b ∷ text) none = absurd (omega (arith, none))
