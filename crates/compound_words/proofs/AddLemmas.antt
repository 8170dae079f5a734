-- Rows of rests, as they are filled.
use Rattle.std.proofs.Common.{◌≡◌, ◌∙◌, refl, sym, ap, subst, ℕ, zero, suc, get_or, ◌+◌, ◌-◌, ◌^◌}
use Rattle.std.proofs.Common.{◌<◌, ◌≤◌, Bool, true, false, true≢false, cond, ◌==◌, ◌&&◌, ◌||◌}
use Rattle.std.proofs.Common.{nat_eq, nat_lt, ◌⊎◌, inl, inr, List, [], ◌∷◌, ◌++◌, length, map}
use Rattle.std.proofs.Common.{filter, Option, None, Some, arith, append-nil, length-append}
use Rattle.std.specs.List.{AllByRecursion, list_any, starts_with, ends_with}
use Rattle.std.specs.Option.{option_map_or, option_to_list}
use Rattle.std.proofs.lemmas.Bool.{and_from, or_cases}
use Rattle.std.proofs.lemmas.Bool.Decides.{nat_tests}
use Rattle.std.proofs.lemmas.List.{append_cancel_left}
use Rattle.spell_types.specs.declared.Lexicon.{Lexicon}
use Rattle.spell_types.specs.declared.derivations.Derivation.{Derivation}
use Rattle.spell_types.specs.declared.joints.JointPattern.{JointPattern}
use Rattle.spell_types.specs.declared.parts.Part.{Part}
use Rattle.spell_types.specs.declared.parts.Place.{Place}
use Rattle.spell_types.specs.declared.parts.Place.TheVariants.{First, Middle, Last}
use Rattle.spell_types.specs.declared.patterns.PatternStep.{PatternStep}
use Rattle.spell_types.specs.Compounds.{Asked, are_joined, stretch, written, all_stand, may_end}
use Rattle.spell_types.specs.JointLaws.{nat-own, nat-same}
use Rattle.spell_types.specs.Patterns.{MatchesOneByOne}
use Rattle.spell_types.specs.lists.Laws.{each-append, each-front}
use Rattle.compound_words.specs.declared.rests.Behind.{Behind}
use Rattle.compound_words.specs.declared.rests.FirstPart.{FirstPart}
use Rattle.compound_words.specs.Counting.{fewest, IsFewest, OneOf}
use Rattle.compound_words.specs.Rests.{is_enough, stand_from, Way, ByFlags, ByRule, matches_from}
use Rattle.compound_words.specs.Rests.{holds, AreRest, Leads, HasPartsBehind, count_of, IsRight}
use Rattle.compound_words.specs.Rests.{HasPart}
use Rattle.compound_words.specs.Rests.{IsRow, IsMade, IsRowAdded, IsAddedOnce, Known, New, Grows}
use Rattle.compound_words.specs.Rests.{HasFirsts, IsFrontOf, Piece, rests_at, may_precede}
use Rattle.compound_words.specs.Rests.{number_before, number_behind, number_at_end, number_with}
use Rattle.compound_words.specs.Pieces.{AreParts, EndsBefore, IsGivenAs, is_cut_by, may_begin}
use Rattle.compound_words.proofs.NeighbourLemmas.{joined-begins}
use Rattle.compound_words.proofs.CountLemmas.{fewest-same, fewest-list}
use Rattle.compound_words.proofs.RestLemmas.{IsBefore, given-some, count-within, none-written}
use Rattle.compound_words.proofs.RestLemmas.{behind-first, rest-tail, rest-joint, rest-cons}
use Rattle.compound_words.proofs.LeadLemmas.{number-right}

-- ---- one of a list
pub one-left : {X : Type 0} (P : X → Type 0) (xs ys : List X) → OneOf P xs → OneOf P (xs ++ ys)
one-left P [] ys one = absurd one
one-left P (x ∷ xs) ys (inl is) = inl is
one-left P (x ∷ xs) ys (inr one) = inr (one-left P xs ys one)

pub one-right : {X : Type 0} (P : X → Type 0) (xs ys : List X) → OneOf P ys → OneOf P (xs ++ ys)
one-right P [] ys one = one
one-right P (x ∷ xs) ys one = inr (one-right P xs ys one)

pub one-at : {X : Type 0} (P : X → Type 0) (xs : List X) (place : ℕ) (d : X) → place < length xs
    → P (get_or xs place d) → OneOf P xs
one-at P [] place d within holds = absurd (omega (arith, within))
one-at P (x ∷ xs) zero d within holds = inl holds
one-at P (x ∷ xs) (suc place) d within holds =
    inr (one-at P xs place d (omega (arith, within)) holds)

pub one-cases : {X : Type 0} (P : X → Type 0) (xs ys : List X) → OneOf P (xs ++ ys)
    → OneOf P xs ⊎ OneOf P ys
one-cases P [] ys one = inr one
one-cases P (x ∷ xs) ys (inl is) = inl (inl is)
one-cases P (x ∷ xs) ys (inr one) = later (one-cases P xs ys one)
  where
    later : OneOf P xs ⊎ OneOf P ys → OneOf P (x ∷ xs) ⊎ OneOf P ys
    later (inl is) = inl (inr is)
    later (inr is) = inr is

each-last : {X : Type 0} (P : X → Type 0) (xs : List X) (y : X) → AllByRecursion P (xs ++ y ∷ [])
    → P y
each-last P [] y each = each.0
each-last P (x ∷ xs) y each = each-last P xs y each.1

-- ---- rows
pub grows-same : (a : Asked) (rules : List (List PatternStep)) (here : Place) (text : List ℕ)
    (row : List FirstPart) → Grows a rules here text row row
grows-same a rules here text row = record { right = λ right. right; kept = λ part has. has }

pub grows-twice : (a : Asked) (rules : List (List PatternStep)) (here : Place) (text : List ℕ)
    (before middle now : List FirstPart) → Grows a rules here text before middle
    → Grows a rules here text middle now → Grows a rules here text before now
grows-twice a rules here text before middle now one two =
    record {
      right = λ right. two.right (one.right right);
      kept = λ part has. two.kept part
          (one.kept part has);
    }

-- a row once a part was looked at
pub record IsGrown (a : Asked) (rules : List (List PatternStep)) (here : Place) (text : List ℕ)
    (part : Part) (before now : List FirstPart) : Type 0 where
  pub grows : Grows a rules here text before now
  pub has : (more : List Part) (way : Way) → AreRest a text (part ∷ more)
      → holds a rules here way (part ∷ more) ≡ true → HasPart part now

added-grown : MatchesOneByOne → (a : Asked) (rules : List (List PatternStep))
    (here place : Place) (text : List ℕ) (part : Part) (behind : Behind)
    (before now : List FirstPart)
    → IsBefore a rules here place text part behind → IsRowAdded a rules place part behind before now
    → IsGrown a rules here text part before now
added-grown law a rules here place text part behind before now is added =
    by added.made added.is added.added
  where
    none : (more : List Part) (way : Way) → number_with a rules place part behind way ≡ None
        → AreRest a text (part ∷ more) → holds a rules here way (part ∷ more) ≡ true → ⊥
    none more way nil rest so =
        subst (IsFewest (Leads a text (holds a rules here way) part)) nil
        (number-right law a rules here place text part behind is way)
        (length (part ∷ more)) (record { more = more; rest = rest; so = so; long = refl })

    by : (made : Option FirstPart) → IsMade a rules place part behind made
        → now ≡ before ++ option_to_list made → IsGrown a rules here text part before now
    by None nil same = record {
      grows =
          subst (Grows a rules here text before) (sym (same ∙ append-nil before))
          (grows-same a rules here text before);
      has = λ more way rest so. absurd (none more way (nil way) rest so);
    }
    by (Some rest) has same = record {
      grows = record {
        right =
            λ right. subst (AllByRecursion (IsRight a rules here text)) (sym same)
            (each-append (IsRight a rules here text) before (rest ∷ []) right (new, tt));
        kept =
            λ other one. subst (HasPart other) (sym same)
            (one-left (λ r. r.part ≡ other) before (rest ∷ []) one);
      };
      has =
          λ more way _ so. subst (HasPart part) (sym same)
          (one-right (λ r. r.part ≡ part) before (rest ∷ []) (inl has.first));
    }
      where
        new : IsRight a rules here text rest
        new way =
            subst (λ p. IsFewest (Leads a text (holds a rules here way) p) (count_of rest way))
            (sym has.first)
            (subst (IsFewest (Leads a text (holds a rules here way) part)) (sym (has.numbers way))
            (number-right law a rules here place text part behind is way))

pub once-grown : MatchesOneByOne
    → (a : Asked) (rules : List (List PatternStep)) {here place : Place}
    {text : List ℕ} {part : Part} {behind : Behind} {before now : List FirstPart}
    → IsBefore a rules here place text part behind
    → IsAddedOnce a rules place part behind before now
    → IsGrown a rules here text part before now
once-grown law a rules {here} {place} {text} {part} {behind} {before} {now} is (Known has same) =
    record {
      grows = subst (Grows a rules here text before) (sym same) (grows-same a rules here text before);
      has = λ more way rest so. subst (HasPart part) (sym same) has;
    }
once-grown law a rules {here} {place} {text} {part} {behind} {before} {now} is (New added) =
    added-grown law a rules here place text part behind before now is added

-- ---- the parts that are left to look at
pub record AreLeft (a : Asked) (rules : List (List PatternStep)) (here : Place) (text : List ℕ)
    (piece : Piece) (parts : List Part) (before row : List FirstPart) : Type 0 where
  pub given : AllByRecursion (IsGivenAs a piece.before piece.front) parts
  pub grows : Grows a rules here text before row
  pub has : (part : Part) (more : List Part) (way : Way) → IsGivenAs a piece.before piece.front part
      → EndsBefore a.lexicon piece.following piece.rests part
      → AreRest a text (part ∷ more) → holds a rules here way (part ∷ more) ≡ true
      → OneOf (λ other. other ≡ part) parts ⊎ HasPart part row

pub left-all : (a : Asked) (rules : List (List PatternStep)) (here : Place) (text : List ℕ)
    (piece : Piece) (parts : List Part) (row : List FirstPart)
    → AreParts a piece.before piece.front piece.following piece.rests parts
    → AreLeft a rules here text piece parts row row
left-all a rules here text piece parts row are = record {
  given = are.given;
  grows = grows-same a rules here text row;
  has = λ part more way is ends rest so. inl (are.all part is ends);
}

pub left-given : (a : Asked) (before front : List ℕ) (parts : List Part) (part : Part)
    → AllByRecursion (IsGivenAs a before front) (parts ++ part ∷ []) → IsGivenAs a before front part
left-given a before front parts part given = each-last (IsGivenAs a before front) parts part given

-- one is looked at
pub left-turn : {a : Asked} {rules : List (List PatternStep)} {here : Place} {text : List ℕ}
    {piece : Piece} (parts : List Part) (part : Part) {before middle now : List FirstPart}
    → AreLeft a rules here text piece (parts ++ part ∷ []) before middle
    → IsGrown a rules here text part middle now → AreLeft a rules here text piece parts before now
left-turn {a} {rules} {here} {text} {piece} parts part {before} {middle} {now} left grown = record {
  given = each-front (IsGivenAs a piece.before piece.front) parts (part ∷ []) left.given;
  grows = grows-twice a rules here text before middle now left.grows grown.grows;
  has =
      λ other more way is ends rest so. by other more way rest so
      (left.has other more way is ends rest so);
}
  where
    last : (other : Part) (more : List Part) (way : Way) → AreRest a text (other ∷ more)
        → holds a rules here way (other ∷ more) ≡ true → part ≡ other → HasPart other now
    last other more way rest so same =
        subst (λ p. HasPart p now) same
        (grown.has more way (subst (λ p. AreRest a text (p ∷ more)) (sym same) rest)
        (ap (λ p. holds a rules here way (p ∷ more)) same ∙ so))

    by : (other : Part) (more : List Part) (way : Way) → AreRest a text (other ∷ more)
        → holds a rules here way (other ∷ more) ≡ true
        → OneOf (λ p. p ≡ other) (parts ++ part ∷ []) ⊎ HasPart other middle
        → OneOf (λ p. p ≡ other) parts ⊎ HasPart other now
    by other more way rest so (inr has) = inr (grown.grows.kept other has)
    by other more way rest so (inl one) = either (one-cases (λ p. p ≡ other) parts (part ∷ []) one)
      where
        either : OneOf (λ p. p ≡ other) parts ⊎ OneOf (λ p. p ≡ other) (part ∷ [])
            → OneOf (λ p. p ≡ other) parts ⊎ HasPart other now
        either (inl one) = inl one
        either (inr (inl same)) = inr (last other more way rest so same)
        either (inr (inr nil)) = absurd nil

-- all were looked at
pub left-none : (a : Asked) (rules : List (List PatternStep)) (here : Place) (text : List ℕ)
    (piece : Piece) (before now : List FirstPart)
    → AreLeft a rules here text piece [] before now → HasFirsts a rules here text piece now
left-none a rules here text piece before now left = record {
  has =
      λ part more way begins ends writes rest so. by part
      (left.has part more way
      (record { given = rest.given.0; writes = writes; begins = begins }) ends rest so);
}
  where
    by : (part : Part) → OneOf (λ other. other ≡ part) [] ⊎ HasPart part now → HasPart part now
    by part (inl nil) = absurd nil
    by part (inr has) = has

-- ---- the last part of a word
-- a part that writes all of a text is alone
alone : (a : Asked) (before text : List ℕ) (part : Part) (more : List Part)
    → IsGivenAs a before text part → AreRest a text (part ∷ more) → more ≡ []
alone a before text part more given rest =
    none-written a more rest.given.1
    (append_cancel_left (stretch part) (written more) []
    (rest.joined ∙ sym given.writes ∙ sym (append-nil (stretch part))))

-- one that may not end it
pub last-barred : (a : Asked) (rules : List (List PatternStep)) (text : List ℕ) (part : Part)
    (row : List FirstPart) (before : List ℕ) → IsGivenAs a before text part → may_end a part ≡ false
    → IsGrown a rules Middle text part row row
last-barred a rules text part row before given barred = record {
  grows = grows-same a rules Middle text row;
  has = λ more way rest so. absurd (none more rest (alone a before text part more given rest));
}
  where
    none : (more : List Part) → AreRest a text (part ∷ more) → more ≡ [] → ⊥
    none [] rest is = true≢false (sym rest.ends ∙ barred)
    none (next ∷ more) rest is = absurd (cc)

pub last-before : (a : Asked) (rules : List (List PatternStep)) {text : List ℕ} {part : Part}
    (behind : Behind) (before : List ℕ) → IsGivenAs a before text part → may_end a part ≡ true
    → behind.is_end ≡ true
    → IsBefore a rules Middle Last text part behind
last-before a rules {text} {part} behind before given ends end = record {
  stands = λ stands more rest. by stands more (alone a before text part more given rest);
  fewest =
      λ way. subst (IsFewest (HasPartsBehind a text (holds a rules Middle way) part)) (sym (number way))
      (fewest way);
  bound = λ more rest. few more (alone a before text part more given rest);
}
  where
    by : (stands : Derivation → Place → Bool) (more : List Part) → more ≡ []
        → stand_from stands Middle (part ∷ more)
        ≡ (stands part.d Last && stand_from stands Middle more)
    by stands [] is = and-true (stands part.d Last)
      where
        and-true : (b : Bool) → b ≡ (b && true)
        and-true true = refl
        and-true false = refl
    by stands (next ∷ more) is = absurd (cc)

    few : (more : List Part) → more ≡ [] → length more + 1 ≤ 2 ^ 64 - 1
    few [] is = omega arith
    few (next ∷ more) is = absurd (cc)

    number : (way : Way) → number_behind rules behind way ≡ number_at_end rules way
    number way =
        ap (λ b. cond b (number_at_end rules way)
        (fewest (map (λ rest. count_of rest way) (rests_at behind.rests.now)))) end

    rest : AreRest a text (part ∷ [])
    rest =
        record {
          given = (given.given, tt);
          joined = append-nil (stretch part)
              ∙ given.writes;
          meet = refl;
          ends = ends;
        }

    fewest : (way : Way) → IsFewest (HasPartsBehind a text (holds a rules Middle way) part)
        (number_at_end rules way)
    fewest ByFlags = (record { more = []; rest = rest; so = refl; long = refl }, λ n f. omega arith)
    fewest (ByRule rule step) = one (matches_from rules rule step []) refl
      where
        one : (b : Bool) → matches_from rules rule step [] ≡ b
            → IsFewest (HasPartsBehind a text (holds a rules Middle (ByRule rule step)) part)
            (cond b (Some 0) None)
        one true is = (record { more = []; rest = rest; so = is; long = refl }, λ n f. omega arith)
        one false is = λ n f. never f.more (alone a before text part f.more given f.rest) f.so
          where
            never : (more : List Part) → more ≡ []
                → holds a rules Middle (ByRule rule step) more ≡ true → ⊥
            never [] at so = true≢false (sym so ∙ is)
            never (next ∷ more) at so = absurd (cc)

-- ---- a part before others
pub enough : (here : Place) (part next : Part) (more : List Part)
    → (here ≡ First → part.off_begin ≡ 0) → is_enough here (part ∷ next ∷ more) ≡ true
enough First part next more first =
    and_from (nat_lt 1 (length (part ∷ next ∷ more))) (part.off_begin == 0) (two more)
    (ap (λ off. off == 0) (first refl) ∙ nat-own 0)
  where
    two : (more : List Part) → nat_lt 1 (length (part ∷ next ∷ more)) ≡ true
    two more = grind (arith, nat_tests)
enough Middle part next more first = refl
enough Last part next more first = refl

-- what stands first in a word is whole at its front
never-cut : (part : Part) (rows : List JointPattern) → list_any (is_cut_by [] part) rows ≡ false
never-cut part [] = refl
never-cut part (row ∷ rows) = by row.replacement (never-cut part rows)
  where
    by : (put : Option (List ℕ)) → list_any (is_cut_by [] part) rows ≡ false
        → ((option_map_or (λ p. nat_lt (length p) 0 && ends_with nat_eq [] p) put false &&
        ((length row.begin == part.off_begin) && starts_with nat_eq part.text row.begin))
        || list_any (is_cut_by [] part) rows) ≡ false
    by None none = none
    by (Some put) none =
        ap (λ b. ((b && ends_with nat_eq [] put) &&
        ((length row.begin == part.off_begin) && starts_with nat_eq part.text row.begin))
        || list_any (is_cut_by [] part) rows) (below (length put)) ∙ none
      where
        below : (n : ℕ) → nat_lt n 0 ≡ false
        below n = grind (arith, nat_tests)

first-whole : (lexicon : Lexicon) (here : Place) (before : List ℕ) (part : Part)
    → IsFrontOf here before → may_begin lexicon before part ≡ true → here ≡ First
    → part.off_begin ≡ 0
first-whole lexicon First before part front begins first =
    by (or_cases (part.off_begin == 0) (list_any (is_cut_by [] part) lexicon.affixes.joints)
    (subst (λ b. may_begin lexicon b part ≡ true) front begins))
  where
    by : ((part.off_begin == 0) ≡ true)
        ⊎ (list_any (is_cut_by [] part) lexicon.affixes.joints ≡ true) → part.off_begin ≡ 0
    by (inl whole) = nat-same part.off_begin 0 whole
    by (inr cut) = absurd (true≢false (sym cut ∙ never-cut part lexicon.affixes.joints))
first-whole lexicon Middle before part front begins first = absurd cc
first-whole lexicon Last before part front begins first = absurd cc

each-kept : {X : Type 0} (P Q : X → Type 0) (test : X → Bool) → ((x : X) → P x → Q x)
    → (xs : List X) → AllByRecursion P xs → AllByRecursion Q (filter test xs)
each-kept P Q test weaker [] each = tt
each-kept P Q test weaker (x ∷ xs) each = by (test x) (each-kept P Q test weaker xs each.1)
  where
    by : (b : Bool) → AllByRecursion Q (filter test xs)
        → AllByRecursion Q (cond b (x ∷ filter test xs) (filter test xs))
    by true rest = (weaker x each.0, rest)
    by false rest = rest

-- an item that passes a test, and for which something holds
record Passed {X : Type 0} (P : X → Type 0) (test : X → Bool) : Type 0 where
  at : X
  passed : test at ≡ true
  holds : P at

one-passed : {X : Type 0} (P : X → Type 0) (test : X → Bool) (xs : List X)
    → OneOf P (filter test xs) → Passed P test
one-passed P test [] one = absurd one
one-passed P test (x ∷ xs) one = by (test x) refl (one-passed P test xs) one
  where
    by : (b : Bool) → test x ≡ b → (OneOf P (filter test xs) → Passed P test)
        → OneOf P (cond b (x ∷ filter test xs) (filter test xs)) → Passed P test
    by true is later (inl holds) = record { at = x; passed = is; holds = holds }
    by true is later (inr one) = later one
    by false is later one = later one

one-kept : {X : Type 0} (P Q : X → Type 0) (test : X → Bool)
    → ((x : X) → P x → (test x ≡ true) × Q x) → (xs : List X) → OneOf P xs
    → OneOf Q (filter test xs)
one-kept P Q test so [] one = absurd one
one-kept P Q test so (x ∷ xs) (inl is) =
    subst (λ b. OneOf Q (cond b (x ∷ filter test xs) (filter test xs))) (sym (so x is).0)
    (inl (so x is).1)
one-kept P Q test so (x ∷ xs) (inr one) = by (test x) (one-kept P Q test so xs one)
  where
    by : (b : Bool) → OneOf Q (filter test xs)
        → OneOf Q (cond b (x ∷ filter test xs) (filter test xs))
    by true later = inr later
    by false later = later

pub inner-before : {a : Asked} {rules : List (List PatternStep)} {here : Place} (piece : Piece)
    {part : Part} {behind : Behind} {rests : List FirstPart}
    → IsGivenAs a piece.before piece.front part
    → IsFrontOf here piece.before
    → IsRow a rules (piece.before ++ piece.front) piece.following rests → 0 < length piece.following
    → length (piece.front ++ piece.following) ≤ 2 ^ 64 - 1
    → behind.is_end ≡ false
    → ((way : Way) → fewest (map (λ rest. count_of rest way) (rests_at behind.rests.now))
    ≡ number_before a part way rests)
    → IsBefore a rules here here (piece.front ++ piece.following) part behind
inner-before {a} {rules} {here} piece {part} {behind} {rests} given first row some fits end are = record {
  stands =
      λ stands more rest. by stands more (behind-first a text front part more given.writes rest);
  fewest =
      λ way. subst (IsFewest (HasPartsBehind a (front ++ text) (holds a rules Middle way) part))
      (sym (number way)) (fewest-of way);
  bound = λ more rest.
      let long = count-within a more rest.given.1 in
      let same = ap length (behind-first a text front part more given.writes rest) in
      omega (
        arith,
        long,
        same,
        fits,
        length-append front text,
        given-some a part given.given,
        ap length given.writes,
      );
}
  where
    text : List ℕ
    text = piece.following

    front : List ℕ
    front = piece.front

    by : (stands : Derivation → Place → Bool) (more : List Part) → written more ≡ text
        → stand_from stands here (part ∷ more)
        ≡ (stands part.d here && stand_from stands Middle more)
    by stands [] is = absurd (omega (arith, some, ap length is))
    by stands (next ∷ more) is =
        ap (λ b. b && all_stand stands here (part ∷ next ∷ more))
        (enough here part next more
        (first-whole a.lexicon here piece.before part first given.begins))

    number : (way : Way) → number_behind rules behind way
        ≡ fewest (map (λ rest. count_of rest way) (filter (may_precede a part) rests))
    number way =
        ap (λ b. cond b (number_at_end rules way)
        (fewest (map (λ rest. count_of rest way) (rests_at behind.rests.now)))) end
        ∙ are way

    fewest-of : (way : Way)
        → IsFewest (HasPartsBehind a (front ++ text) (holds a rules Middle way) part)
        (fewest (map (λ rest. count_of rest way) (filter (may_precede a part) rests)))
    fewest-of way =
        fewest-same (λ n. OneOf (λ rest. Leads a text (holds a rules Middle way) rest.part n)
        (filter (may_precede a part) rests)) (HasPartsBehind a (front ++ text)
        (holds a rules Middle way) part)
        there back (fewest (map (λ rest. count_of rest way) (filter (may_precede a part) rests)))
        (fewest-list (λ rest n. Leads a text (holds a rules Middle way) rest.part n)
        (λ rest. count_of rest way) (filter (may_precede a part) rests)
        (each-kept (IsRight a rules Middle text)
        (λ rest. IsFewest (Leads a text (holds a rules Middle way) rest.part) (count_of rest way))
        (may_precede a part) (λ rest right. right way) rests row.right))
      where
        there : (n : ℕ) → OneOf (λ rest. Leads a text (holds a rules Middle way) rest.part n)
            (filter (may_precede a part) rests)
            → HasPartsBehind a (front ++ text) (holds a rules Middle way) part n
        there n one =
            from (one-passed (λ rest. Leads a text (holds a rules Middle way) rest.part n)
            (may_precede a part) rests one)
          where
            from : Passed (λ rest. Leads a text (holds a rules Middle way) rest.part n)
                (may_precede a part) → HasPartsBehind a (front ++ text) (holds a rules Middle way) part n
            from found = record {
              more = found.at.part ∷ found.holds.more;
              rest =
                  rest-cons a text front part found.at.part found.holds.more given.given
                  given.writes found.passed found.holds.rest;
              so = found.holds.so;
              long = found.holds.long;
            }

        back : (n : ℕ) → HasPartsBehind a (front ++ text) (holds a rules Middle way) part n
            → OneOf (λ rest. Leads a text (holds a rules Middle way) rest.part n)
            (filter (may_precede a part) rests)
        back n f = of f.more f.rest f.so f.long
          where
            of : (more : List Part) → AreRest a (front ++ text) (part ∷ more)
                → holds a rules Middle way more ≡ true → length more ≡ n
                → OneOf (λ rest. Leads a text (holds a rules Middle way) rest.part n)
                (filter (may_precede a part) rests)
            of [] rest so long =
                absurd (omega
                (arith, some, ap length (behind-first a text front part [] given.writes rest)))
            of (next ∷ more) rest so long =
                let tail = rest-tail a text front part next more given.writes rest in
                one-kept (λ other. other.part ≡ next)
                (λ other. Leads a text (holds a rules Middle way) other.part n) (may_precede a part)
                (λ other is. (
                  ap (are_joined a part) is ∙ rest-joint a (front ++ text) part next more rest,
                  subst (λ p. Leads a text (holds a rules Middle way) p n) (sym is)
                      (record { more = more; rest = tail; so = so; long = long }),
                ))
                rests (row.all next more way
                (joined-begins a piece.before front part next given
                (rest-joint a (front ++ text) part next more rest)) tail so)
