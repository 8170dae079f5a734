-- Which words are common misspellings: what a pair of texts makes of a word at a place.
use Rattle.std.proofs.Common.{◌≡◌, ◌∙◌, ◌↔◌, refl, sym, ap, subst, ℕ, ◌+◌, ◌<◌, ◌==◌, Bool, true}
use Rattle.std.proofs.Common.{false, not, ◌&&◌, ◌||◌, List, ◌++◌, length, take, drop, nat_eq}
use Rattle.std.proofs.Common.{Contains, Any, arith, length-append, eq-eqb}
use Rattle.std.specs.List.{AllByRecursion, filter, range_with_len, starts_with}
use Rattle.std.proofs.lemmas.Bool.{and_parts, and_from, eqb-true, true≢false}
use Rattle.std.proofs.lemmas.Bool.Decides.{Decides-eqb}
use Rattle.std.proofs.lemmas.List.{take-append-drop, take_at, drop_at, drop-drop, length-drop}
use Rattle.std.proofs.lemmas.List.Elements.{All-from_recursion, recursion_from_All, All-contains}
use Rattle.std.proofs.lemmas.List.Elements.{All-contains_itself, filter_passes}
use Rattle.std.proofs.lemmas.List.Folds.{Any-from_list_any, list_any_at}
use Rattle.std.proofs.lemmas.Slice.Eq.{starts_is}
use Rattle.lists.specs.Laws.{each-map, each-flat_map, each-weaker, contains-map, contains-flat_map}
use Rattle.lists.specs.Laws.{contains-filter, contains-range}
use Rattle.spell_types.specs.declared.Lexicon.{Lexicon}
use Rattle.spell_types.specs.declared.breaks.Anchored.{Anchored}
use Rattle.spell_types.specs.declared.conversions.Rep.{Rep}
use Rattle.spell_types.specs.Licences.{is_alone, is_derived}
use Rattle.spell_types.specs.Replacements.{stands_anchored, replaced_at, variants_by, rep_variants}
use Rattle.spell_types.specs.Replacements.{has_rep_fault, HasRepFault}
use Rattle.spell_types.specs.Sanity.{AreSaneAffixes}

-- ---- a text at a place of a word
-- the text stands there, and it is anchored right
record StandsAt (from : Anchored) (word : List ℕ) (place : ℕ) : Type 0 where
  there : drop place word ≡ from.text ++ drop (place + length from.text) word
  front : from.front ≡ true → place ≡ 0
  back : from.back ≡ true → place + length from.text ≡ length word

-- what is asked only where it is
asked-then : (asked : Bool) (a b : ℕ) → (not asked || (a == b)) ≡ true → asked ≡ true → a ≡ b
asked-then true a b holds is = eqb-true a b holds
asked-then false a b holds is = absurd (true≢false (sym is))

then-asked : (asked : Bool) (a b : ℕ) → (asked ≡ true → a ≡ b) → (not asked || (a == b)) ≡ true
then-asked true a b same = eq-eqb a b (same refl)
then-asked false a b same = refl

module _ (from : Anchored) (word : List ℕ) (place : ℕ) where
  abbrev at_front : Bool
  at_front = not from.front || (place == 0)

  abbrev at_back : Bool
  at_back = not from.back || (place + length from.text == length word)

  behind-text : drop (length from.text) (drop place word) ≡ drop (place + length from.text) word
  behind-text = drop-drop (length from.text) place word

  anchored-at : stands_anchored from word place ≡ true → StandsAt from word place
  anchored-at stands =
      let one =
      and_parts (starts_with nat_eq (drop place word) from.text) (at_front && at_back) stands in
      let two = and_parts at_front at_back one.1 in
      record {
        there =
            (starts_is Decides-eqb (drop place word) from.text
            (starts_with nat_eq (drop place word) from.text) refl).0 one.0
            ∙ ap (λ behind. from.text ++ behind) behind-text;
        front = asked-then from.front place 0 two.0;
        back = asked-then from.back (place + length from.text) (length word) two.1;
      }

  at-anchored : StandsAt from word place → stands_anchored from word place ≡ true
  at-anchored stands =
      and_from (starts_with nat_eq (drop place word) from.text) (at_front && at_back)
      ((starts_is Decides-eqb (drop place word) from.text
      (starts_with nat_eq (drop place word) from.text) refl).1 (drop
      (place + length from.text) word) stands.there)
      (and_from at_front at_back (then-asked from.front place 0 stands.front)
      (then-asked from.back (place + length from.text) (length word) stands.back))

-- ---- faults
abbrev IsAlone : Lexicon → List ℕ → Type 0
IsAlone lexicon word = is_derived is_alone lexicon word ≡ true

-- a pair at a place that gives a word which stands alone
place-fault : (lexicon : Lexicon) (word : List ℕ) (rep : Rep) → Contains lexicon.affixes.reps rep
    → (place : ℕ) → stands_anchored rep.from word place ≡ true
    → IsAlone lexicon (replaced_at rep word place) → HasRepFault lexicon word
place-fault lexicon word rep among place stands alone =
    let at = anchored-at rep.from word place stands in
    record {
      rep = rep;
      front = take place word;
      rest = drop (place + length rep.from.text) word;
      among = among;
      whole = sym (take-append-drop place word) ∙ ap (λ behind. take place word ++ behind) at.there;
      at_front = λ is. ap (λ here. length (take here word)) (at.front is);
      at_end =
          λ is. length-drop (place + length rep.from.text) word
          ∙ (let all : place + length rep.from.text ≡ length word = at.back is in omega arith);
      alone = alone;
    }

-- A fault is told by a word: if that stands alone.
abbrev Tells : Lexicon → List ℕ → List ℕ → Type 0
Tells lexicon word variant = IsAlone lexicon variant → HasRepFault lexicon word

-- the places of a word where a text stands
abbrev places_of : Anchored → List ℕ → List ℕ
places_of from word = filter (stands_anchored from word) (range_with_len 0 (length word))

-- a fault is told by each word that a pair makes, and so by each that some pair makes
tells-by : (lexicon : Lexicon) (word : List ℕ) (rep : Rep) → Contains lexicon.affixes.reps rep
    → AllByRecursion (Tells lexicon word) (variants_by word rep)
tells-by lexicon word rep among =
    each-map (Tells lexicon word) (replaced_at rep word) (places_of rep.from word)
    (each-weaker (λ place. stands_anchored rep.from word place ≡ true)
    (λ place. Tells lexicon word (replaced_at rep word place)) (place-fault lexicon word rep among)
    (places_of rep.from word)
    (recursion_from_All (λ place. stands_anchored rep.from word place ≡ true)
    (places_of rep.from word)
    (filter_passes (stands_anchored rep.from word) (range_with_len 0 (length word)))))

tells-some : (lexicon : Lexicon) (word : List ℕ)
    → AllByRecursion (Tells lexicon word) (rep_variants lexicon.affixes.reps word)
unfolding rep_variants
tells-some lexicon word =
    let reps = lexicon.affixes.reps in
    each-flat_map (Tells lexicon word) (variants_by word) reps
    (each-weaker (Contains reps) (λ rep. AllByRecursion (Tells lexicon word) (variants_by word rep))
    (tells-by lexicon word) reps
    (recursion_from_All (Contains reps) reps (All-contains_itself reps)))

has-fault : (lexicon : Lexicon) (word : List ℕ) → has_rep_fault lexicon word ≡ true
    → HasRepFault lexicon word
unfolding has_rep_fault
has-fault lexicon word has =
    found (Any-from_list_any (is_derived is_alone lexicon)
    (rep_variants lexicon.affixes.reps word) has)
  where
    found : Any (IsAlone lexicon) (rep_variants lexicon.affixes.reps word)
        → HasRepFault lexicon word
    found (k, variant, within, at, alone) =
        All-from_recursion (Tells lexicon word) (rep_variants lexicon.affixes.reps word)
        (tells-some lexicon word) k variant within (subst (IsAlone lexicon) (sym at) alone)

fault-has : (lexicon : Lexicon) (word : List ℕ) → AreSaneAffixes lexicon.affixes
    → HasRepFault lexicon word → has_rep_fault lexicon word ≡ true
unfolding has_rep_fault rep_variants
fault-has lexicon word sane fault = tried among
  where
    reps : List Rep
    reps = lexicon.affixes.reps

    rep : Rep
    rep = fault.rep

    place : ℕ
    place = length fault.front

    long : length word ≡ place + (length rep.from.text + length fault.rest)
    long =
        ap length fault.whole
        ∙ length-append fault.front (rep.from.text ++ fault.rest)
        ∙ ap (λ n. place + n) (length-append rep.from.text fault.rest)

    before : take place word ≡ fault.front
    before =
        ap (take place) fault.whole ∙ take_at fault.front (rep.from.text ++ fault.rest) place refl

    here : drop place word ≡ rep.from.text ++ fault.rest
    here =
        ap (drop place) fault.whole ∙ drop_at fault.front (rep.from.text ++ fault.rest) place refl

    behind : drop (place + length rep.from.text) word ≡ fault.rest
    behind =
        sym (drop-drop (length rep.from.text) place word)
        ∙ ap (drop (length rep.from.text)) here
        ∙ drop_at rep.from.text fault.rest (length rep.from.text) refl

    stands : StandsAt rep.from word place
    stands = record {
      there = here ∙ ap (λ after. rep.from.text ++ after) (sym behind);
      front = fault.at_front;
      back = λ is. let none : length fault.rest ≡ 0 = fault.at_end is in omega (arith, long);
    }

    variant : List ℕ
    variant = replaced_at rep word place

    alone : IsAlone lexicon variant
    alone =
        subst (λ front. IsAlone lexicon
        (front ++ (rep.to ++ drop (place + length rep.from.text) word))) (sym before)
        (subst (λ after. IsAlone lexicon (fault.front ++ (rep.to ++ after)))
        (sym behind) fault.alone)

    among : Contains (rep_variants reps word) variant
    among =
        contains-flat_map (variants_by word) reps rep variant fault.among
        (contains-map (replaced_at rep word) (places_of rep.from word) place
        (contains-filter (stands_anchored rep.from word) (range_with_len 0 (length word)) place
        (contains-range (length word) place
        (omega (
          arith,
          long,
          All-contains
              (λ (rep : Rep). 0 < length rep.from.text) reps rep sane.reps fault.among,
        )))
        (at-anchored rep.from word place stands)))

    tried : Contains (rep_variants reps word) variant → has_rep_fault lexicon word ≡ true
    tried (k, within, at) =
        list_any_at (is_derived is_alone lexicon) (rep_variants reps word) k variant within
        (ap (is_derived is_alone lexicon) at ∙ alone)

pub fault-relation : (lexicon : Lexicon) (word : List ℕ) → AreSaneAffixes lexicon.affixes
    → (has_rep_fault lexicon word ≡ true) ↔ HasRepFault lexicon word
fault-relation lexicon word sane = (has-fault lexicon word, fault-has lexicon word sane)
