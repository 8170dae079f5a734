-- Words that parts make up.
use Rattle.std.proofs.Common.{◌≡◌, ◌∙◌, ◌↔◌, refl, sym, ap, subst, ℕ, suc, ◌≤◌, nat_le}
use Rattle.std.proofs.Common.{nat_lt, Bool, true, false, true≢false, ◌==◌, ◌||◌, ◌⊎◌, inl}
use Rattle.std.proofs.Common.{inr, List, [], ◌∷◌, length, drop, slice_get, Option, None, Some}
use Rattle.std.proofs.Common.{option_and_then, IsTrue, arith}
use Rattle.std.specs.List.{AllByRecursion, list_any}
use Rattle.std.specs.Option.{option_map_or}
use Rattle.std.proofs.lemmas.Bool.{and_parts, and_from, or_right, or_left, or_cases}
use Rattle.std.proofs.lemmas.Bool.Decides.{nat_tests}
use Rattle.std.proofs.lemmas.Slice.Eq.{bytes_eq-Decides}
use Rattle.spell_types.specs.declared.parts.Part.{Part}
use Rattle.spell_types.specs.declared.parts.Place.TheVariants.{First}
use Rattle.spell_types.specs.declared.patterns.PatternStep.{PatternStep}
use Rattle.spell_types.specs.Cases.{is_same_word}
use Rattle.spell_types.specs.Compounds.{Asked, IsGiven, IsMadeUp, begin_well, written, all_stand}
use Rattle.spell_types.specs.Compounds.{stand_by_flags, flags_of, follows_rule, do_meet, end_well}
use Rattle.spell_types.specs.Compounds.{are_few, make_up, is_made_up}
use Rattle.spell_types.specs.Parts.{stands_at, stands_in_rule}
use Rattle.spell_types.specs.Patterns.{matches}
use Rattle.std.specs.Cmp.{both_ways}
use Rattle.spell_types.specs.JointLaws.{nat-same}
use Rattle.spell_types.specs.lists.Laws.{any-at}
use Rattle.compound_words.specs.declared.rests.FirstPart.{FirstPart}
use Rattle.compound_words.specs.Counting.{number_at, IsFewest}
use Rattle.compound_words.specs.Rests.{Way, ByFlags, ByRule, is_enough, stand_from, matches_from}
use Rattle.compound_words.specs.Rests.{holds, numbers_at, AreRest, Leads, count_of, IsRight}
use Rattle.compound_words.specs.Rests.{HasPart, HasInner, AreRulesOf, is_few, has_few}
use Rattle.compound_words.specs.Pieces.{is_cut_by}
use Rattle.compound_words.proofs.AddLemmas.{enough}

-- ---- tests of lists
record IsAt {X : Type 0} (test : X → Bool) (xs : List X) : Type 0 where
  place : ℕ
  item : X
  at : slice_get xs place ≡ Some item
  passes : test item ≡ true

one-at : {X : Type 0} (test : X → Bool) (xs : List X) → list_any test xs ≡ true → IsAt test xs
one-at test [] any = absurd (true≢false (sym any))
one-at test (x ∷ xs) any = by (or_cases (test x) (list_any test xs) any) (one-at test xs)
  where
    by : (test x ≡ true) ⊎ (list_any test xs ≡ true) → (list_any test xs ≡ true → IsAt test xs)
        → IsAt test (x ∷ xs)
    by (inl passes) later = record { place = 0; item = x; at = refl; passes = passes }
    by (inr any) later =
        let found = later any in record
        { place = suc found.place; item = found.item; at = found.at; passes = found.passes }

-- a rest that is right, and of which something holds
record IsFound (a : Asked) (rules : List (List PatternStep)) (word : List ℕ)
    (holds_of : FirstPart → Type 0) : Type 0 where
  rest : FirstPart
  right : IsRight a rules First word rest
  so : holds_of rest

found-any : (a : Asked) (rules : List (List PatternStep)) (word : List ℕ) (test : FirstPart → Bool)
    (row : List FirstPart) → AllByRecursion (IsRight a rules First word) row
    → list_any test row ≡ true → IsFound a rules word (λ rest. test rest ≡ true)
found-any a rules word test [] right any = absurd (true≢false (sym any))
found-any a rules word test (rest ∷ row) right any =
    by (or_cases (test rest) (list_any test row) any) (found-any a rules word test row right.1)
  where
    by : (test rest ≡ true) ⊎ (list_any test row ≡ true)
        → (list_any test row ≡ true → IsFound a rules word (λ r. test r ≡ true))
        → IsFound a rules word (λ r. test r ≡ true)
    by (inl passes) later = record { rest = rest; right = right.0; so = passes }
    by (inr any) later = later any

-- a rest with the part, that is in the row
record IsIn (a : Asked) (rules : List (List PatternStep)) (word : List ℕ) (part : Part)
    (row : List FirstPart) : Type 0 where
  rest : FirstPart
  right : IsRight a rules First word rest
  first : rest.part ≡ part
  any : (test : FirstPart → Bool) → test rest ≡ true → list_any test row ≡ true

found-part : (a : Asked) (rules : List (List PatternStep)) (word : List ℕ) (part : Part)
    (row : List FirstPart) → AllByRecursion (IsRight a rules First word) row → HasPart part row
    → IsIn a rules word part row
found-part a rules word part [] right has = absurd has
found-part a rules word part (rest ∷ row) right (inl first) =
    record {
      rest = rest;
      right = right.0;
      first = first;
      any = λ test passes. or_left (test rest)
          (list_any test row) passes;
    }
found-part a rules word part (rest ∷ row) right (inr has) =
    let found = found-part a rules word part row right.1 has in
    record {
      rest = found.rest;
      right = found.right;
      first = found.first;
      any = λ test passes. or_right (test rest) (list_any test row) (found.any test passes);
    }

-- ---- few enough
few-less : (a : Asked) (less more : ℕ) → less ≤ more → are_few a more ≡ true → are_few a less ≡ true
few-less a less more below few = by a.lexicon.affixes.options.word_max few
  where
    by : (most : Option ℕ) → option_map_or (nat_le more) most true ≡ true
        → option_map_or (nat_le less) most true ≡ true
    by None few = refl
    by (Some most) few = grind (arith, nat_tests)

-- the way goes from the first step of its rule on
abbrev Starts : Way → Type 0
Starts ByFlags = Unit {0}
Starts (ByRule rule step) = step ≡ 0

record SomeFew (a : Asked) (found : Option ℕ) : Type 0 where
  number : ℕ
  at : found ≡ Some number
  few : are_few a number ≡ true

-- a way with few enough parts
record FewWay (a : Asked) (rest : FirstPart) : Type 0 where
  way : Way
  starts : Starts way
  number : ℕ
  at : count_of rest way ≡ Some number
  few : are_few a number ≡ true

-- a way in which parts stand
record StandsSo (a : Asked) (rules : List (List PatternStep)) (parts : List Part) : Type 0 where
  way : Way
  starts : Starts way
  so : holds a rules First way parts ≡ true

-- the number of a way is few enough
few-way : (a : Asked) (rules : List (List PatternStep)) (rest : FirstPart) → has_few a rest ≡ true
    → FewWay a rest
few-way a rules rest few =
    by (or_cases (is_few a rest.by_flags)
    (list_any (λ own. is_few a (number_at own 0)) rest.by_rules) few)
  where
    some : (number : Option ℕ) → is_few a number ≡ true → SomeFew a number
    some None few = absurd (true≢false (sym few))
    some (Some n) few = record { number = n; at = refl; few = few }

    by : (is_few a rest.by_flags ≡ true)
        ⊎ (list_any (λ own. is_few a (number_at own 0)) rest.by_rules ≡ true) → FewWay a rest
    by (inl few) =
        let it = some rest.by_flags few in record
        { way = ByFlags; starts = tt; number = it.number; at = it.at; few = it.few }
    by (inr any) =
        let found = one-at (λ own. is_few a (number_at own 0)) rest.by_rules any in
        let it = some (number_at found.item 0) found.passes in
        record {
          way = ByRule found.place 0;
          starts = refl;
          number = it.number;
          at = ap
              (option_and_then (λ own. number_at own 0)) found.at ∙ it.at;
          few = it.few;
        }

-- and the other way round
way-few : (a : Asked) (rest : FirstPart) (way : Way) (number : ℕ) → Starts way
    → count_of rest way ≡ Some number → are_few a number ≡ true → has_few a rest ≡ true
way-few a rest ByFlags number starts at few =
    or_left (is_few a rest.by_flags) (list_any (λ own. is_few a (number_at own 0)) rest.by_rules)
    (ap (is_few a) at ∙ few)
way-few a rest (ByRule rule step) number starts at few =
    or_right (is_few a rest.by_flags) (list_any (λ own. is_few a (number_at own 0)) rest.by_rules)
    (by (slice_get rest.by_rules rule) refl (ap (numbers_at rest.by_rules rule) (sym starts) ∙ at))
  where
    by : (found : Option (List (Option ℕ))) → slice_get rest.by_rules rule ≡ found
        → option_and_then (λ own. number_at own 0) found ≡ Some number
        → list_any (λ own. is_few a (number_at own 0)) rest.by_rules ≡ true
    by None there is = absurd (cc)
    by (Some own) there is =
        any-at (λ own. is_few a (number_at own 0)) rest.by_rules rule own there
        (ap (is_few a) is ∙ few)

-- ---- the ways of whole words
-- parts that stand in a way from the first step of a rule on stand by flags, or follow one of the
-- rules
way-stands : (a : Asked) (rules : List (List PatternStep)) (way : Way) (parts : List Part)
    → Starts way → holds a rules First way parts ≡ true
    → (stand_by_flags a First parts || list_any (follows_rule a First parts) rules) ≡ true
way-stands a rules ByFlags parts starts so =
    or_left (stand_by_flags a First parts) (list_any (follows_rule a First parts) rules)
    (and_parts (is_enough First parts) (all_stand (stands_at a.lexicon) First parts) so).1
way-stands a rules (ByRule rule step) parts starts so =
    or_right (stand_by_flags a First parts) (list_any (follows_rule a First parts) rules)
    (by (slice_get rules rule) refl matched)
  where
    both : (stand_from (stands_in_rule a.lexicon) First parts ≡ true)
        × (matches_from rules rule step (flags_of a parts) ≡ true)
    both =
        and_parts (stand_from (stands_in_rule a.lexicon) First parts)
        (matches_from rules rule step (flags_of a parts)) so

    matched : matches_from rules rule 0 (flags_of a parts) ≡ true
    matched = ap (λ k. matches_from rules rule k (flags_of a parts)) (sym starts) ∙ both.1

    by : (found : Option (List PatternStep)) → slice_get rules rule ≡ found
        → option_map_or (λ pattern. matches (drop 0 pattern) (flags_of a parts)) found false ≡ true
        → list_any (follows_rule a First parts) rules ≡ true
    by None at is = absurd (true≢false (sym is))
    by (Some pattern) at is =
        any-at (follows_rule a First parts) rules rule pattern at
        (and_from (all_stand (stands_in_rule a.lexicon) First parts)
        (matches pattern (flags_of a parts))
        (and_parts (is_enough First parts)
        (all_stand (stands_in_rule a.lexicon) First parts) both.0).1 is)

stands-way : (a : Asked) (rules : List (List PatternStep)) (parts : List Part)
    → is_enough First parts ≡ true
    → (stand_by_flags a First parts || list_any (follows_rule a First parts) rules) ≡ true
    → StandsSo a rules parts
stands-way a rules parts two so =
    by (or_cases (stand_by_flags a First parts) (list_any (follows_rule a First parts) rules) so)
  where
    by : (stand_by_flags a First parts ≡ true)
        ⊎ (list_any (follows_rule a First parts) rules ≡ true) → StandsSo a rules parts
    by (inl flags) =
        record {
          way = ByFlags;
          starts = tt;
          so = and_from (is_enough First parts)
              (all_stand (stands_at a.lexicon) First parts) two flags;
        }
    by (inr any) =
        let found = one-at (follows_rule a First parts) rules any in
        let both =
        and_parts (all_stand (stands_in_rule a.lexicon) First parts)
        (matches found.item (flags_of a parts)) found.passes in
        record {
          way = ByRule found.place 0;
          starts = refl;
          so =
              and_from (stand_from (stands_in_rule a.lexicon) First parts)
              (matches_from rules found.place 0 (flags_of a parts))
              (and_from (is_enough First parts)
              (all_stand (stands_in_rule a.lexicon) First parts) two both.0)
              (ap (λ o. option_map_or
              (λ pattern. matches (drop 0 pattern) (flags_of a parts)) o false) found.at ∙ both.1);
        }

-- ---- the answer
made-up : (a : Asked) (rules : List (List PatternStep)) (word : List ℕ) → AreRulesOf a rules
    → (rest : FirstPart) → IsRight a rules First word rest → has_few a rest ≡ true → IsMadeUp a word
unfolding make_up
made-up a rules word are rest right few =
    let it = few-way a rules rest few in
    let leads =
    (subst (IsFewest (Leads a word (holds a rules First it.way) rest.part)) it.at
    (right it.way)).0 in
    record { parts = rest.part ∷ leads.more; given = leads.rest.given; make = make it leads }
  where
    make : (it : FewWay a rest)
        (leads : Leads a word (holds a rules First it.way) rest.part it.number)
        → make_up a word (rest.part ∷ leads.more) ≡ true
    make it leads =
        let parts = rest.part ∷ leads.more in
        let rules_of = a.lexicon.affixes.patterns in
        let stand = way-stands a rules it.way parts it.starts leads.so in
        let enough-parts = enough-from it.way parts leads.so in
        and_from (is_same_word (written parts) word) _
        ((bytes_eq-Decides (written parts) word).1 leads.rest.joined)
        (and_from (nat_le 2 (length parts)) _
        (two parts (and_parts (nat_lt 1 (length parts)) (begin_well parts) enough-parts).0)
        (and_from (are_few a (length parts)) _ (ap (are_few a) leads.long ∙ it.few)
        (and_from (begin_well parts) _
        (and_parts (nat_lt 1 (length parts)) (begin_well parts) enough-parts).1
        (and_from (do_meet a parts) _ leads.rest.meet
        (and_from (stand_by_flags a First parts || list_any (follows_rule a First parts) rules_of)
        (end_well a parts)
        (ap (λ b. stand_by_flags a First parts || b)
        (sym (are.same rest.part leads.more leads.rest.given.0)) ∙ stand) leads.rest.ends)))))
      where
        enough-from : (way : Way) (parts : List Part) → holds a rules First way parts ≡ true
            → is_enough First parts ≡ true
        enough-from ByFlags parts so =
            (and_parts (is_enough First parts) (all_stand (stands_at a.lexicon) First parts) so).0
        enough-from (ByRule rule step) parts so =
            (and_parts (is_enough First parts) (all_stand (stands_in_rule a.lexicon) First parts)
            (and_parts (stand_from (stands_in_rule a.lexicon) First parts)
            (matches_from rules rule step (flags_of a parts)) so).0).0

        two : (parts : List Part) → nat_lt 1 (length parts) ≡ true → nat_le 2 (length parts) ≡ true
        two parts is = grind (arith, nat_tests)

few-found : (a : Asked) (rules : List (List PatternStep)) (word : List ℕ) (row : List FirstPart)
    → AreRulesOf a rules → AllByRecursion (IsRight a rules First word) row
    → HasInner a rules First [] word row → IsMadeUp a word → list_any (has_few a) row ≡ true
unfolding make_up
few-found a rules word row are right inner made = by made.parts made.given made.make
  where
    rest-few : (part next : Part) (more : List Part) (way : Way) (rest : FirstPart) → Starts way
        → AreRest a word (part ∷ next ∷ more) → holds a rules First way (part ∷ next ∷ more) ≡ true
        → are_few a (length (part ∷ next ∷ more)) ≡ true
        → rest.part ≡ part → (found : Option ℕ) → count_of rest way ≡ found
        → IsFewest (Leads a word (holds a rules First way) part) found → has_few a rest ≡ true
    rest-few part next more way rest starts is so few first None at none =
        absurd (none (length (part ∷ next ∷ more))
        (record { more = next ∷ more; rest = is; so = so; long = refl }))
    rest-few part next more way rest starts is so few first (Some number) at fewest =
        way-few a rest way number starts at
        (few-less a number (length (part ∷ next ∷ more))
        (fewest.1 (length (part ∷ next ∷ more))
        (record { more = next ∷ more; rest = is; so = so; long = refl })) few)

    by : (parts : List Part) → AllByRecursion (IsGiven a) parts → make_up a word parts ≡ true
        → list_any (has_few a) row ≡ true
    by parts given make =
        let one = and_parts (is_same_word (written parts) word) _ make in
        let two = and_parts (nat_le 2 (length parts)) _ one.1 in
        let three = and_parts (are_few a (length parts)) _ two.1 in
        let front = and_parts (begin_well parts) _ three.1 in
        let four = and_parts (do_meet a parts) _ front.1 in
        let five =
        and_parts (stand_by_flags a First parts || list_any
        (follows_rule a First parts) a.lexicon.affixes.patterns) (end_well a parts) four.1 in
        all parts (record {
          given = given;
          joined =
              (bytes_eq-Decides
              (written parts) word).0 one.0;
          meet = four.0;
          ends = five.1;
        }) two.0 three.0 front.0 five.0
      where
        all : (parts : List Part) → AreRest a word parts → nat_le 2 (length parts) ≡ true
            → are_few a (length parts) ≡ true → begin_well parts ≡ true
            → (stand_by_flags a First parts || list_any
            (follows_rule a First parts)
            a.lexicon.affixes.patterns) ≡ true → list_any (has_few a) row ≡ true
        all [] rest two few front stand = absurd (grind (arith, nat_tests))
        all (part ∷ []) rest two few front stand = absurd (grind (arith, nat_tests))
        all (part ∷ next ∷ more) rest two few front stand =
            let parts = part ∷ next ∷ more in
            let stands =
            stands-way a rules parts
            (enough First part next more (λ _. nat-same part.off_begin 0 front))
            (ap (λ b. stand_by_flags a First parts || b)
            (are.same part (next ∷ more) rest.given.0) ∙ stand) in
            let found =
            found-part a rules word part row right
            (inner part next more stands.way
            (or_left (part.off_begin == 0)
            (list_any (is_cut_by [] part) a.lexicon.affixes.joints) front) rest stands.so) in
            found.any (has_few a)
            (rest-few part next more stands.way found.rest stands.starts rest stands.so few
            found.first (count_of found.rest stands.way) refl
            (subst (λ p. IsFewest (Leads a word (holds a rules First stands.way) p)
            (count_of found.rest stands.way)) found.first (found.right stands.way)))

-- the row has few enough parts exactly where parts make the word up
pub firsts-answer : (a : Asked) (rules : List (List PatternStep)) (word : List ℕ)
    (row : List FirstPart) → AreRulesOf a rules → AllByRecursion (IsRight a rules First word) row
    → HasInner a rules First [] word row
    → (IsTrue (is_made_up a word) ↔ IsMadeUp a word) → list_any (has_few a) row ≡ is_made_up a word
firsts-answer a rules word row are right inner law =
    both_ways (list_any (has_few a) row) (is_made_up a word)
    (λ any. let found = found-any a rules word (has_few a) row right any in law.1
    (made-up a rules word are found.rest found.right found.so))
    (λ made. few-found a rules word row are right inner (law.0 made))
