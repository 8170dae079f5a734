-- Rules that no part of a dictionary follows.
use Rattle.std.proofs.Common.{◌≡◌, ◌∙◌, ◌↔◌, refl, sym, nat_le, ap, subst, ℕ, Bool, true, false}
use Rattle.std.proofs.Common.{true≢false, cond, ◌&&◌, ◌||◌, ◌==◌, ◌⊎◌, inl, inr, List, [], ◌∷◌}
use Rattle.std.proofs.Common.{filter, length, slice_get, Option, None, Some, is_some, IsTrue, arith}
use Rattle.std.specs.List.{AllByRecursion, list_any}
use Rattle.std.specs.Option.{option_map_or}
use Rattle.std.proofs.lemmas.Bool.{and_parts, or_cases, or_left, or_right}
use Rattle.std.proofs.lemmas.Bool.Decides.{nat_tests}
use Rattle.spell_types.specs.declared.Entry.{Entry}
use Rattle.spell_types.specs.declared.Lexicon.{Lexicon}
use Rattle.spell_types.specs.declared.derivations.Derivation.{Derivation}
use Rattle.spell_types.specs.declared.flags.Flag.{Flag}
use Rattle.spell_types.specs.declared.parts.Part.{Part}
use Rattle.spell_types.specs.declared.parts.Place.TheVariants.{First, Middle}
use Rattle.spell_types.specs.declared.patterns.PatternStep.{PatternStep}
use Rattle.spell_types.specs.Cases.{is_same_word}
use Rattle.spell_types.specs.Compounds.{Asked, begin_well, IsGiven, IsMadeUp, written, all_stand}
use Rattle.spell_types.specs.Compounds.{stand_by_flags, flags_of, follows_rule, do_meet, end_well}
use Rattle.spell_types.specs.Compounds.{are_few, make_up, is_made_up}
use Rattle.spell_types.specs.Derivations.{Named, named}
use Rattle.spell_types.specs.Licences.{holds_of, some_carry, has_some_with}
use Rattle.spell_types.specs.EntriesOf.{entry_flags}
use Rattle.spell_types.specs.Flags.{has}
use Rattle.spell_types.specs.Parts.{has_right_entry, is_not_forbidden_at, are_affixes_permitted_at}
use Rattle.spell_types.specs.Parts.{are_suffixes_few_at, stands_at, stands_in_rule}
use Rattle.spell_types.specs.Patterns.{matches, fits_step, is_left_out, steps_after}
use Rattle.spell_types.specs.Patterns.{MatchesOneByOne}
use Rattle.compound_words.specs.Prepared.{HasFlagsOfEntries, has_step_in, has_first_sign}
use Rattle.compound_words.specs.Rests.{AreRulesOf}
use Rattle.compound_words.proofs.LeadLemmas.{matches-nothing}
use Rattle.compound_words.proofs.StepLemmas.{or-false}

-- ---- a step fits the flags of an entry only where the set has its flag
entry-flags : (set : List Flag) (entries : List Entry) (place : ℕ) → HasFlagsOfEntries set entries
    → (flag : Flag)
    → has (option_map_or (λ entry. entry.flags) (slice_get entries place) []) (Some flag) ≡ true
    → has set (Some flag) ≡ true
entry-flags set entries place all flag = by (slice_get entries place) refl
  where
    by : (found : Option Entry) → slice_get entries place ≡ found
        → has (option_map_or (λ entry. entry.flags) found []) (Some flag) ≡ true
        → has set (Some flag) ≡ true
    by None is held = absurd (true≢false (sym held))
    by (Some entry) is held = all place entry flag is held

-- a rule without a flag of the set matches no list that begins with flags of it
no-match : MatchesOneByOne → (set : List Flag) (pattern : List PatternStep) (flags : List Flag)
    (more : List (List Flag))
    → ((flag : Flag) → has flags (Some flag) ≡ true → has set (Some flag) ≡ true)
    → has_step_in set pattern ≡ false → matches pattern (flags ∷ more) ≡ false
no-match law set [] flags more all none = matches-nothing flags more
no-match law set (step ∷ steps) flags more all none =
    law.next step steps flags more
    ∙ ap (λ b. (is_left_out step && b) ||
    (fits_step step flags && matches
    (steps_after step steps) more)) (no-match law set steps flags more all lacks.1)
    ∙ ap (λ b. (is_left_out step && false) || (b && matches (steps_after step steps) more)) misfit
    ∙ nothing (is_left_out step)
  where
    lacks : (has set (Some step.flag) ≡ false) × (has_step_in set steps ≡ false)
    lacks = or-false (has set (Some step.flag)) (has_step_in set steps) none

    misfit : fits_step step flags ≡ false
    misfit = by (fits_step step flags) refl
      where
        by : (b : Bool) → fits_step step flags ≡ b → fits_step step flags ≡ false
        by true is = absurd (true≢false (sym (all step.flag is) ∙ lacks.0))
        by false is = is

    nothing : (b : Bool) → ((b && false) || false) ≡ false
    nothing true = refl
    nothing false = refl

-- ---- the rules that are kept match what all match
any-kept : {X : Type 0} (keep test : X → Bool) → ((x : X) → keep x ≡ false → test x ≡ false)
    → (xs : List X) → list_any test (filter keep xs) ≡ list_any test xs
any-kept keep test none [] = refl
any-kept keep test none (x ∷ xs) = by (keep x) refl (any-kept keep test none xs)
  where
    by : (b : Bool) → keep x ≡ b → list_any test (filter keep xs) ≡ list_any test xs
        → list_any test (cond b (x ∷ filter keep xs) (filter keep xs))
        ≡ (test x || list_any test xs)
    by true is rest = ap (λ b. test x || b) rest
    by false is rest = rest ∙ sym (ap (λ b. b || list_any test xs) (none x is))

-- what one of the kept passes, one of all does
any-of-kept : {X : Type 0} (keep test : X → Bool) (xs : List X)
    → list_any test (filter keep xs) ≡ true → list_any test xs ≡ true
any-of-kept keep test [] any = any
any-of-kept keep test (x ∷ xs) any = by (keep x) any (any-of-kept keep test xs)
  where
    either : (list_any test (filter keep xs) ≡ true → list_any test xs ≡ true)
        → (test x ≡ true) ⊎ (list_any test (filter keep xs) ≡ true)
        → (test x || list_any test xs) ≡ true
    either rest (inl passes) = or_left (test x) (list_any test xs) passes
    either rest (inr any) = or_right (test x) (list_any test xs) (rest any)

    by : (b : Bool) → list_any test (cond b (x ∷ filter keep xs) (filter keep xs)) ≡ true
        → (list_any test (filter keep xs) ≡ true → list_any test xs ≡ true)
        → (test x || list_any test xs) ≡ true
    by true any rest =
        either rest (or_cases (test x) (list_any test (filter keep xs)) any)
    by false any rest = or_right (test x) (list_any test xs) (rest any)

pub kept-rules : MatchesOneByOne → (lexicon : Lexicon) (set : List Flag)
    (rules : List (List PatternStep)) → HasFlagsOfEntries set lexicon.entries
    → rules ≡ filter (has_step_in set) lexicon.affixes.patterns
    → (a : Asked) → a.lexicon ≡ lexicon → AreRulesOf a rules
kept-rules law lexicon set rules all are a is = record {
  same = same;
  fewer =
      λ test any. ap (λ l. list_any test l.affixes.patterns) is
      ∙ any-of-kept (has_step_in set) test lexicon.affixes.patterns
      (sym (ap (list_any test) are) ∙ any);
}
  where
    same : (part : Part) (more : List Part) → IsGiven a part
        → list_any (follows_rule a First (part ∷ more)) rules
        ≡ list_any (follows_rule a First (part ∷ more)) a.lexicon.affixes.patterns
    same part more given =
        ap (list_any (follows_rule a First (part ∷ more)))
        (are ∙ ap (λ l. filter (has_step_in set) l.affixes.patterns) (sym is))
        ∙ any-kept (has_step_in set)
        (follows_rule a First (part ∷ more)) none a.lexicon.affixes.patterns
      where
        flags : (flag : Flag) → has (entry_flags a.lexicon part.d) (Some flag) ≡ true
            → has set (Some flag) ≡ true
        flags =
            entry-flags set a.lexicon.entries part.d.entry
            (subst (λ l. HasFlagsOfEntries set l.entries) (sym is) all)

        none : (pattern : List PatternStep) → has_step_in set pattern ≡ false
            → follows_rule a First (part ∷ more) pattern ≡ false
        none pattern out =
            ap (λ b. all_stand (stands_in_rule a.lexicon) First (part ∷ more) && b)
            (no-match law set pattern (entry_flags a.lexicon part.d) (flags_of a more) flags out)
            ∙ nothing (all_stand (stands_in_rule a.lexicon) First (part ∷ more))
          where
            nothing : (b : Bool) → (b && false) ≡ false
            nothing true = refl
            nothing false = refl

-- no rule at all
pub no-rules : (lexicon : Lexicon) (rules : List (List PatternStep)) → lexicon.affixes.patterns ≡ []
    → rules ≡ [] → (a : Asked) → a.lexicon ≡ lexicon → AreRulesOf a rules
no-rules lexicon rules none empty a is = record {
  same =
      λ part more given. ap (list_any (follows_rule a First (part ∷ more)))
      (empty ∙ sym none ∙ ap (λ l. l.affixes.patterns) (sym is));
  fewer = λ test any. absurd (true≢false (sym any ∙ ap (list_any test) empty));
}

-- ---- where no flag allows first parts and there is no rule, nothing is made up
flag-less : (a : Asked) (d : Derivation) → is_some a.lexicon.affixes.signs.compound ≡ false
    → is_some a.lexicon.affixes.signs.begin ≡ false → stands_at a.lexicon d First ≡ false
unfolding stands_at has_some_with
flag-less a d no_compound no_begin =
    ap (λ b. b && others)
    (no_flags a.lexicon.affixes.signs.compound a.lexicon.affixes.signs.begin no_compound no_begin)
  where
    others : Bool
    others =
        has_right_entry a.lexicon d &&
        (is_not_forbidden_at a.lexicon d First &&
        (are_affixes_permitted_at a.lexicon d First && are_suffixes_few_at a.lexicon d First))

    no_flags : (compound begin : Option Flag) → is_some compound ≡ false → is_some begin ≡ false
        → (holds_of (some_carry compound) (named a.lexicon d) || holds_of (some_carry begin)
        (named a.lexicon d)) ≡ false
    no_flags None None one two = none (named a.lexicon d)
      where
        none : (n : Option Named) → (holds_of (some_carry None) n || holds_of (some_carry None) n)
            ≡ false
        none None = refl
        none (Some n) = refl
    no_flags (Some flag) begin one two = absurd (true≢false one)
    no_flags None (Some flag) one two = absurd (true≢false two)

-- no parts make up a word
parts-none : (a : Asked) (word : List ℕ) (rules : List (List PatternStep))
    → is_some a.lexicon.affixes.signs.compound ≡ false
    → is_some a.lexicon.affixes.signs.begin ≡ false → rules ≡ [] → AreRulesOf a rules
    → (parts : List Part) → AllByRecursion (IsGiven a) parts → make_up a word parts ≡ true → ⊥
unfolding make_up
parts-none a word rules no_compound no_begin empty are parts given make =
    let one = and_parts (is_same_word (written parts) word) _ make in
    let two = and_parts (nat_le 2 (length parts)) _ one.1 in
    let three = and_parts (are_few a (length parts)) _ two.1 in
    let front = and_parts (begin_well parts) _ three.1 in
    let four = and_parts (do_meet a parts) _ front.1 in
    let five =
    and_parts (stand_by_flags a First parts || list_any
    (follows_rule a First parts) a.lexicon.affixes.patterns) (end_well a parts) four.1 in
    none parts given two.0 five.0
  where
    none : (parts : List Part) → AllByRecursion (IsGiven a) parts → nat_le 2 (length parts) ≡ true
        → (stand_by_flags a First parts || list_any
        (follows_rule a First parts) a.lexicon.affixes.patterns) ≡ true → ⊥
    none [] given two stand = absurd (grind (arith, nat_tests))
    none (part ∷ []) given two stand = absurd (grind (arith, nat_tests))
    none (part ∷ next ∷ more) given two stand =
        true≢false (sym stand
        ∙ ap (λ b. (b && all_stand (stands_at a.lexicon) Middle (next ∷ more)) || list_any
        (follows_rule a First (part ∷ next ∷ more))
        a.lexicon.affixes.patterns) (flag-less a part.d no_compound no_begin)
        ∙ sym (are.same part (next ∷ more) given.0)
        ∙ ap (list_any (follows_rule a First (part ∷ next ∷ more))) empty)

pub nothing-made-up : (a : Asked) (word : List ℕ) (rules : List (List PatternStep))
    → has_first_sign a.lexicon.affixes.signs ≡ false → rules ≡ [] → AreRulesOf a rules
    → (IsTrue (is_made_up a word) ↔ IsMadeUp a word) → false ≡ is_made_up a word
nothing-made-up a word rules none empty are law = by (is_made_up a word) refl
  where
    signs : (is_some a.lexicon.affixes.signs.compound ≡ false)
        × (is_some a.lexicon.affixes.signs.begin ≡ false)
    signs =
        or-false (is_some a.lexicon.affixes.signs.compound)
        (is_some a.lexicon.affixes.signs.begin) none

    by : (b : Bool) → is_made_up a word ≡ b → false ≡ is_made_up a word
    by false is = sym is
    by true is =
        let made = law.0 is in absurd
        (parts-none a word rules signs.0 signs.1 empty are made.parts made.given made.make)

pub no-rule : (rules : List (List PatternStep)) → (length rules == 0) ≡ true → rules ≡ []
no-rule [] is = refl
no-rule (rule ∷ rules) is = absurd (grind (arith, nat_tests))
