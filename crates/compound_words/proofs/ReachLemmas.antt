-- Places to which parts lead from the front of a word.
use Rattle.std.proofs.Common.{◌≡◌, ◌∙◌, ◌⊎◌, inl, inr, refl, sym, ap, subst, ℕ, zero, suc, ◌+◌, ◌-◌}
use Rattle.std.proofs.Common.{◌<◌, ◌≤◌, Bool, true, false, true≢false, ◌&&◌, ◌||◌, ◌==◌, List, []}
use Rattle.std.proofs.Common.{◌∷◌, ◌++◌, append-nil, length, take, drop, slice_get, nat_eq}
use Rattle.std.proofs.Common.{nat_lt, Option}
use Rattle.std.proofs.Common.{None, Some, is_some, arith, set}
use Rattle.std.specs.List.{list_any, ends_with}
use Rattle.std.specs.Option.{option_map_or}
use Rattle.std.proofs.Math.Seq.{take-append_seam}
use Rattle.std.proofs.lemmas.Bool.{and_parts, cases_lt, eqb-true, or_cases, or_left}
use Rattle.std.proofs.lemmas.Bool.{or_right}
use Rattle.std.proofs.lemmas.List.{take_all}
use Rattle.spell_types.specs.lists.Laws.{any-at, any-contains}
use Rattle.affix_strip.specs.Inside.{one_fits, StandsInside, ByFlags, InRule}
use Rattle.affix_strip.specs.Inside.{ReachesEnds}
use Rattle.affix_strip.specs.Reaching.{is_reached, piece_between}
use Rattle.spell_types.specs.declared.Lexicon.{Lexicon}
use Rattle.spell_types.specs.declared.derivations.Derivation.{Derivation}
use Rattle.spell_types.specs.declared.flags.Flag.{Flag}
use Rattle.spell_types.specs.declared.joints.JointPattern.{JointPattern}
use Rattle.spell_types.specs.declared.joints.WrittenJoint.{WrittenJoint}
use Rattle.spell_types.specs.declared.parts.Part.{Part}
use Rattle.spell_types.specs.declared.parts.Place.{Place}
use Rattle.spell_types.specs.declared.parts.Place.TheVariants.{First, Middle, Last}
use Rattle.spell_types.specs.declared.patterns.PatternStep.{PatternStep}
use Rattle.spell_types.specs.CompoundLaws.{joined-written}
use Rattle.spell_types.specs.Compounds.{Asked, AreJoined, IsGiven, all_stand, flags_of}
use Rattle.spell_types.specs.Compounds.{is_right_in_case, keeps_some, stretch, written}
use Rattle.spell_types.specs.EntriesOf.{entry_flags}
use Rattle.spell_types.specs.Joints.{IsWrittenJoint, Plain, Simplified, Replaced, plain_joint}
use Rattle.spell_types.specs.Licences.{is_licensed, is_sound}
use Rattle.spell_types.specs.Parts.{is_long_enough, stands_at, stands_in_rule}
use Rattle.spell_types.specs.Patterns.{matches, fits_step, is_left_out, steps_after}
use Rattle.spell_types.specs.Patterns.{MatchesOneByOne}
use Rattle.compound_words.specs.Pieces.{has_put, is_cut_by, may_begin}
use Rattle.compound_words.specs.Reach.{has_joints, puts_text, IsStartAt}
use Rattle.compound_words.specs.Reach.{AreReached, ReachesFrom}
use Rattle.compound_words.specs.Rests.{Way, ByFlags, ByRule, matches_from, is_enough, stand_from}
use Rattle.compound_words.specs.Rests.{holds, AreRest, AreRulesOf}
use Rattle.compound_words.proofs.LeadLemmas.{matches-nothing}
use Rattle.compound_words.proofs.NeighbourLemmas.{simplified-points}
use Rattle.compound_words.proofs.PieceLemmas.{sound-licensed}
use Rattle.compound_words.proofs.RestLemmas.{given-some, rest-joint}
use Rattle.compound_words.proofs.RowLemmas.{inside-place}
use Rattle.compound_words.proofs.StepLemmas.{or-false}

-- ---- what a rule that matches says of the first part
first-fits : MatchesOneByOne → (steps : List PatternStep) (set : List Flag)
    (sets : List (List Flag)) → matches steps (set ∷ sets) ≡ true → one_fits set steps ≡ true
first-fits law [] set sets so = absurd (true≢false (sym so ∙ matches-nothing set sets))
first-fits law (step ∷ more) set sets so =
    either (first-fits law more set sets)
    (or_cases (is_left_out step && matches more (set ∷ sets))
    (fits_step step set && matches (steps_after step more) sets)
    (sym (law.next step more set sets) ∙ so))
  where
    either : (matches more (set ∷ sets) ≡ true → one_fits set more ≡ true)
        → ((is_left_out step && matches more (set ∷ sets)) ≡ true)
        ⊎ ((fits_step step set && matches (steps_after step more) sets) ≡ true)
        → (fits_step step set || one_fits set more) ≡ true
    either later (inl out) =
        or_right (fits_step step set) (one_fits set more)
        (later (and_parts (is_left_out step) (matches more (set ∷ sets)) out).1)
    either later (inr own) =
        or_left (fits_step step set) (one_fits set more)
        (and_parts (fits_step step set) (matches (steps_after step more) sets) own).0

drop-fits : (set : List Flag) (n : ℕ) (steps : List PatternStep)
    → one_fits set (drop n steps) ≡ true → one_fits set steps ≡ true
drop-fits set zero steps fits = fits
drop-fits set (suc n) [] fits = fits
drop-fits set (suc n) (step ∷ more) fits =
    or_right (fits_step step set) (one_fits set more) (drop-fits set n more fits)

stands-first : (stands : Derivation → Place → Bool) (here : Place) (part next : Part)
    (more : List Part) → stand_from stands here (part ∷ next ∷ more) ≡ true
    → stands part.d here ≡ true
stands-first stands here part next more so =
    (and_parts (stands part.d here) (all_stand stands Middle (next ∷ more))
    (and_parts (is_enough here (part ∷ next ∷ more))
    (all_stand stands here (part ∷ next ∷ more)) so).1).0

-- the first of several parts stands before another one
stands-inside : MatchesOneByOne → (a : Asked) (rules : List (List PatternStep))
    → AreRulesOf a rules → (here : Place) (way : Way) (part next : Part) (more : List Part)
    → holds a rules here way (part ∷ next ∷ more) ≡ true → StandsInside a.lexicon here part.d
stands-inside law a rules are here ByFlags part next more so =
    ByFlags (stands-first (stands_at a.lexicon) here part next more so)
stands-inside law a rules are here (ByRule rule step) part next more so =
    InRule (stands-first (stands_in_rule a.lexicon) here part next more both.0)
    (are.fewer (one_fits (entry_flags a.lexicon part.d)) (at (slice_get rules rule) refl both.1))
  where
    both : (stand_from (stands_in_rule a.lexicon) here (part ∷ next ∷ more) ≡ true)
        × (matches_from rules rule step (flags_of a (part ∷ next ∷ more)) ≡ true)
    both =
        and_parts (stand_from (stands_in_rule a.lexicon) here (part ∷ next ∷ more))
        (matches_from rules rule step (flags_of a (part ∷ next ∷ more))) so

    at : (found : Option (List PatternStep)) → slice_get rules rule ≡ found
        → option_map_or
        (λ pattern. matches (drop step pattern) (flags_of a (part ∷ next ∷ more)))
        found false ≡ true
        → list_any (one_fits (entry_flags a.lexicon part.d)) rules ≡ true
    at None there is = absurd (true≢false (sym is))
    at (Some pattern) there is =
        any-at (one_fits (entry_flags a.lexicon part.d)) rules rule pattern there
        (drop-fits (entry_flags a.lexicon part.d) step pattern
        (first-fits law (drop step pattern) (entry_flags a.lexicon part.d)
        (flags_of a (next ∷ more)) is))

-- ---- where no joint takes anything off
any-weaker : {X : Type 0} (test weaker : X → Bool) → ((x : X) → test x ≡ true → weaker x ≡ true)
    → (xs : List X) → list_any test xs ≡ true → list_any weaker xs ≡ true
any-weaker test weaker so [] any = any
any-weaker test weaker so (x ∷ xs) any =
    by (any-weaker test weaker so xs) (or_cases (test x) (list_any test xs) any)
  where
    by : (list_any test xs ≡ true → list_any weaker xs ≡ true)
        → (test x ≡ true) ⊎ (list_any test xs ≡ true) → (weaker x || list_any weaker xs) ≡ true
    by later (inl passes) = or_left (weaker x) (list_any weaker xs) (so x passes)
    by later (inr any) = or_right (weaker x) (list_any weaker xs) (later any)

module _ (a : Asked) (none : has_joints a.lexicon ≡ false) where
  no-simplified : a.lexicon.affixes.options.simplified ≡ false
  no-simplified =
      (or-false a.lexicon.affixes.options.simplified
      (list_any puts_text a.lexicon.affixes.joints) none).0

  no-put : list_any puts_text a.lexicon.affixes.joints ≡ false
  no-put =
      (or-false a.lexicon.affixes.options.simplified
      (list_any puts_text a.lexicon.affixes.joints) none).1

  -- a part before another one is whole at its end
  whole-end : (part next : Part) → AreJoined a part next → part.joint ≡ plain_joint
  whole-end part next joined = by joined.joint
    where
      by : IsWrittenJoint a.lexicon part.text part.d next.text next.d part.joint
          → part.joint ≡ plain_joint
      by (Plain same is) = same
      by (Simplified same is) =
          absurd (true≢false
          (sym (simplified-points a.lexicon part.text part.d next.text next.d is).0
          ∙ no-simplified))
      by (Replaced row put among some same fits allowed) =
          absurd (true≢false
          (sym (any-contains puts_text a.lexicon.affixes.joints row among (ap is_some some))
          ∙ no-put))

  put-given : (before : List ℕ) (part : Part) (row : JointPattern)
      → is_cut_by before part row ≡ true → puts_text row ≡ true
  put-given before part row cut =
      by row.replacement refl (and_parts (has_put before row) _ cut).0
    where
      by : (found : Option (List ℕ)) → row.replacement ≡ found → has_put before row ≡ true
          → is_some row.replacement ≡ true
      by None is put =
          absurd (true≢false (sym put
          ∙ ap (λ f. option_map_or
          (λ t. nat_lt (length t) (length before) && ends_with nat_eq before t) f false) is))
      by (Some text) is put = ap is_some is

  -- and at its front
  whole-front : (before : List ℕ) (part : Part) → may_begin a.lexicon before part ≡ true
      → part.off_begin ≡ 0
  whole-front before part begins =
      by (or_cases (part.off_begin == 0)
      (list_any (is_cut_by before part) a.lexicon.affixes.joints) begins)
    where
      by : ((part.off_begin == 0) ≡ true)
          ⊎ (list_any (is_cut_by before part) a.lexicon.affixes.joints ≡ true)
          → part.off_begin ≡ 0
      by (inl is) = eqb-true part.off_begin 0 is
      by (inr any) =
          absurd (true≢false
          (sym (any-weaker (is_cut_by before part) puts_text (put-given before part)
          a.lexicon.affixes.joints any) ∙ no-put))

  whole-text : (before : List ℕ) (part : Part) → may_begin a.lexicon before part ≡ true
      → part.joint ≡ plain_joint → stretch part ≡ part.text
  whole-text before part begins plain =
      ap (λ n. drop n (take (length part.text - part.joint.off_end) part.text) ++ part.joint.put)
      (whole-front before part begins)
      ∙ ap (λ (j : WrittenJoint). take (length part.text - j.off_end) part.text ++ j.put) plain
      ∙ append-nil (take (length part.text - 0) part.text)
      ∙ take_all (length part.text - 0) part.text (omega arith)

-- ---- a part that leads on
sound-of : (a : Asked) (part : Part) → IsGiven a part → is_licensed a.lexicon part.d ≡ true
sound-of a part given =
    sound-licensed a.lexicon part.d
    (and_parts (is_sound a.lexicon part.d) (is_right_in_case a part.d && keeps_some part)
    (and_parts (is_long_enough a.lexicon part.text)
    (is_sound a.lexicon part.d && (is_right_in_case a part.d && keeps_some part)) given.may).1).0

-- where a part may lead on from a place, the place behind it is told
one-lead : MatchesOneByOne → (a : Asked) (rules : List (List PatternStep)) → AreRulesOf a rules
    → has_joints a.lexicon ≡ false → {word : List ℕ} {from : ℕ} {before now : List Bool}
    → ReachesFrom a.lexicon word from before now
    → (here : Place) (part next : Part) (more : List Part) (way : Way) → IsStartAt here from
    → may_begin a.lexicon (take from word) part ≡ true
    → AreRest a (drop from word) (part ∷ next ∷ more)
    → holds a rules here way (part ∷ next ∷ more) ≡ true
    → is_reached now (from + length (stretch part)) ≡ true
one-lead law a rules are none {word} {from} {before} {now} reaches here part next more way start
    begins rest so =
    (reaches.leads here start).told to part.d (omega (arith, given-some a part given))
    (inside-place a word from part next more rest) (sound-of a part given)
    (given.form ∙ ap (λ t. Some t) text) (stands-inside law a rules are here way part next more so)
  where
    to : ℕ
    to = from + length (stretch part)

    given : IsGiven a part
    given = rest.given.0

    whole : stretch part ≡ part.text
    whole =
        whole-text a none (take from word) part begins
        (whole-end a none part next
        (joined-written a part next (rest-joint a (drop from word) part next more rest)))

    text : part.text ≡ piece_between word from to
    text =
        sym whole ∙ sym (take-append_seam (stretch part) (written (next ∷ more)))
        ∙ ap (take (length (stretch part))) rest.joined
        ∙ ap (λ n. take n (drop from word)) (omega arith)

-- ---- one place after another
-- what is told of the places before this one, and of all to which parts lead from those
pub record AreReachedBelow (a : Asked) (rules : List (List PatternStep)) (word : List ℕ)
    (reached : List Bool) (count : ℕ) : Type 0 where
  pub long : length reached ≡ length word
  pub start : is_reached reached 0 ≡ true
  pub next : (here : Place) (from : ℕ) (part next : Part) (more : List Part) (way : Way)
      → from < count → is_reached reached from ≡ true → IsStartAt here from
      → may_begin a.lexicon (take from word) part ≡ true
      → AreRest a (drop from word) (part ∷ next ∷ more)
      → holds a rules here way (part ∷ next ∷ more) ≡ true
      → is_reached reached (from + length (stretch part)) ≡ true

pub below-none : {a : Asked} {rules : List (List PatternStep)} {word : List ℕ}
    (reached : List Bool) → length reached ≡ length word → is_reached reached 0 ≡ true
    → AreReachedBelow a rules word reached 0
below-none reached long start = record {
  long = long;
  start = start;
  next = λ here from part next more way below told at begins rest so.
      absurd (omega (arith, below));
}

-- a place to which parts lead
pub below-more : MatchesOneByOne → {a : Asked} {rules : List (List PatternStep)}
    {word : List ℕ} {from : ℕ} {before now : List Bool} → AreRulesOf a rules
    → has_joints a.lexicon ≡ false → ReachesFrom a.lexicon word from before now
    → AreReachedBelow a rules word before from → AreReachedBelow a rules word now (from + 1)
below-more law {a} {rules} {word} {from} {before} {now} are none reaches was = record {
  long = reaches.kept.long ∙ was.long;
  start = reaches.kept.kept 0 was.start;
  next = λ here place part next more way below told at begins rest so.
      by here place part next more way told at begins rest so (cases_lt place from) below;
}
  where
    by : (here : Place) (place : ℕ) (part next : Part) (more : List Part) (way : Way)
        → is_reached now place ≡ true → IsStartAt here place
        → may_begin a.lexicon (take place word) part ≡ true
        → AreRest a (drop place word) (part ∷ next ∷ more)
        → holds a rules here way (part ∷ next ∷ more) ≡ true
        → (place < from) ⊎ (from ≤ place) → place < from + 1
        → is_reached now (place + length (stretch part)) ≡ true
    by here place part next more way told at begins rest so (inl less) below =
        reaches.kept.kept (place + length (stretch part))
        (was.next here place part next more way less
        (sym (reaches.kept.same place less) ∙ told) at begins rest so)
    by here place part next more way told at begins rest so (inr past) below =
        let same : place ≡ from = omega (arith, past, below) in
        subst (λ p. is_reached now (p + length (stretch part)) ≡ true) (sym same)
        (one-lead law a rules are none reaches here part next more way
        (subst (IsStartAt here) same at)
        (subst (λ p. may_begin a.lexicon (take p word) part ≡ true) same begins)
        (subst (λ p. AreRest a (drop p word) (part ∷ next ∷ more)) same rest) so)

-- a place to which none lead
pub below-skip : {a : Asked} {rules : List (List PatternStep)} {word : List ℕ} {from : ℕ}
    {reached : List Bool} → is_reached reached from ≡ false
    → AreReachedBelow a rules word reached from → AreReachedBelow a rules word reached (from + 1)
below-skip {a} {rules} {word} {from} {reached} out was = record {
  long = was.long;
  start = was.start;
  next = λ here place part next more way below told at begins rest so.
      by here place part next more way told at begins rest so (cases_lt place from) below;
}
  where
    by : (here : Place) (place : ℕ) (part next : Part) (more : List Part) (way : Way)
        → is_reached reached place ≡ true → IsStartAt here place
        → may_begin a.lexicon (take place word) part ≡ true
        → AreRest a (drop place word) (part ∷ next ∷ more)
        → holds a rules here way (part ∷ next ∷ more) ≡ true
        → (place < from) ⊎ (from ≤ place) → place < from + 1
        → is_reached reached (place + length (stretch part)) ≡ true
    by here place part next more way told at begins rest so (inl less) below =
        was.next here place part next more way less told at begins rest so
    by here place part next more way told at begins rest so (inr past) below =
        let same : place ≡ from = omega (arith, past, below) in
        absurd (true≢false (sym told ∙ ap (is_reached reached) same ∙ out))

pub below-all : {a : Asked} {rules : List (List PatternStep)} {word : List ℕ} {count : ℕ}
    {reached : List Bool} → length word ≤ count → AreReachedBelow a rules word reached count
    → AreReached a rules word reached
below-all {a} {rules} {word} {count} {reached} past was = record {
  start = λ some. was.start;
  next = λ here from part next more way within told at begins rest so.
      was.next here from part next more way (omega (arith, within, past)) told at begins rest so;
}

-- where each place is told nothing is left to tell
pub all-reached : {a : Asked} {rules : List (List PatternStep)} (word : List ℕ)
    (reached : List Bool)
    → ((place : ℕ) → place < length word → is_reached reached place ≡ true)
    → AreReached a rules word reached
all-reached {a} word reached all = record {
  start = λ some. all 0 some;
  next = λ here from part next more way within told at begins rest so.
      all (from + length (stretch part)) (inside-place a word from part next more rest);
}

pub none-reached : {a : Asked} {rules : List (List PatternStep)} (word : List ℕ)
    (reached : List Bool) → length word ≡ 0 → AreReached a rules word reached
none-reached {a} word reached nothing = record {
  start = λ some. absurd (omega (arith, some, nothing));
  next = λ here from part next more way within told at begins rest so.
      absurd (omega (arith, within, nothing));
}

-- ---- the places behind one
start-same : (one other : Place) (from : ℕ) → IsStartAt one from → IsStartAt other from
    → one ≡ other
start-same First First from a b = refl
start-same First Middle from a b = absurd (omega (arith, a, b))
start-same First Last from a b = absurd b
start-same Middle First from a b = absurd (omega (arith, a, b))
start-same Middle Middle from a b = refl
start-same Middle Last from a b = absurd b
start-same Last other from a b = absurd a

pub reaches-by : {lexicon : Lexicon} {word : List ℕ} {from : ℕ} {before now : List Bool}
    (place : Place) → IsStartAt place from → ReachesEnds lexicon place word from before now
    → ReachesFrom lexicon word from before now
reaches-by {lexicon} {word} {from} {before} {now} place start marks = record {
  kept = marks.kept;
  leads = λ here at.
      subst (λ p. ReachesEnds lexicon p word from before now) (start-same place here from start at)
      marks;
}
