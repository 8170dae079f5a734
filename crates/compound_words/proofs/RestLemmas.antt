-- Lists of parts that write the rest of a word, and how few parts they have.
use Rattle.std.proofs.Common.{◌≡◌, ◌∙◌, refl, sym, ap, subst, ℕ, ◌+◌, ◌-◌, ◌^◌, ◌<◌, ◌≤◌, min, Bool}
use Rattle.std.proofs.Common.{true, ◌&&◌, List, [], ◌∷◌, ◌++◌, length, Option, None, Some, arith}
use Rattle.std.proofs.Common.{length-append}
use Rattle.std.specs.List.{AllByRecursion}
use Rattle.std.proofs.lemmas.Bool.{and_parts, and_from}
use Rattle.std.proofs.lemmas.List.{append_cancel_left}
use Rattle.spell_types.specs.declared.derivations.Derivation.{Derivation}
use Rattle.spell_types.specs.declared.parts.Part.{Part}
use Rattle.spell_types.specs.declared.parts.Place.{Place}
use Rattle.spell_types.specs.declared.parts.Place.TheVariants.{Middle}
use Rattle.spell_types.specs.declared.patterns.PatternStep.{PatternStep}
use Rattle.spell_types.specs.Compounds.{Asked, IsGiven, are_joined, stretch, written, do_meet}
use Rattle.spell_types.specs.CompoundLaws.{given-keeps, stretch-some}
use Rattle.compound_words.specs.declared.rests.Behind.{Behind}
use Rattle.compound_words.specs.Counting.{one_more, IsFewest}
use Rattle.compound_words.specs.Rests.{stand_from, Way, holds, AreRest, HasPartsBehind}
use Rattle.compound_words.specs.Rests.{number_behind}

-- ---- each part keeps a character
pub given-some : (a : Asked) (part : Part) → IsGiven a part → 0 < length (stretch part)
given-some a part given = stretch-some part (given-keeps a part given)

pub count-within : (a : Asked) (parts : List Part) → AllByRecursion (IsGiven a) parts
    → length parts ≤ length (written parts)
count-within a [] given = omega arith
count-within a (part ∷ parts) given =
    omega (
      arith,
      length-append (stretch part)
          (written parts),
      given-some a part given.0,
      count-within a parts given.1,
    )

-- what writes nothing has no part
pub none-written : (a : Asked) (parts : List Part) → AllByRecursion (IsGiven a) parts
    → written parts ≡ [] → parts ≡ []
none-written a [] given nothing = refl
none-written a (part ∷ parts) given nothing =
    absurd (omega (arith, count-within a (part ∷ parts) given, ap length nothing))

-- ---- parts behind a first one
pub behind-first : (a : Asked) (text front : List ℕ) (part : Part) (more : List Part)
    → stretch part ≡ front → AreRest a (front ++ text) (part ∷ more) → written more ≡ text
behind-first a text front part more is rest =
    append_cancel_left front (written more) text
    (ap (λ t. t ++ written more) (sym is) ∙ rest.joined)

pub rest-tail : (a : Asked) (text front : List ℕ) (part next : Part) (more : List Part)
    → stretch part ≡ front → AreRest a (front ++ text) (part ∷ next ∷ more)
    → AreRest a text (next ∷ more)
rest-tail a text front part next more is rest = record {
  given = rest.given.1;
  joined = behind-first a text front part (next ∷ more) is rest;
  meet = (and_parts (are_joined a part next) (do_meet a (next ∷ more)) rest.meet).1;
  ends = rest.ends;
}

pub rest-joint : (a : Asked) (text : List ℕ) (part next : Part) (more : List Part)
    → AreRest a text (part ∷ next ∷ more) → are_joined a part next ≡ true
rest-joint a text part next more rest =
    (and_parts (are_joined a part next) (do_meet a (next ∷ more)) rest.meet).0

pub rest-cons : (a : Asked) (text front : List ℕ) (part next : Part) (more : List Part)
    → IsGiven a part → stretch part ≡ front → are_joined a part next ≡ true
    → AreRest a text (next ∷ more) → AreRest a (front ++ text) (part ∷ next ∷ more)
rest-cons a text front part next more given is joint rest = record {
  given = (given, rest.given);
  joined = ap (λ t. t ++ written (next ∷ more)) is ∙ ap (λ t. front ++ t) rest.joined;
  meet = and_from (are_joined a part next) (do_meet a (next ∷ more)) joint rest.meet;
  ends = rest.ends;
}

-- ---- what a part at its place adds
-- what is known of a part and of what stands behind it
pub record IsBefore (a : Asked) (rules : List (List PatternStep)) (here place : Place)
    (text : List ℕ) (part : Part) (behind : Behind) : Type 0 where
  pub stands : (stands : Derivation → Place → Bool) (more : List Part)
      → AreRest a text (part ∷ more) → stand_from stands here (part ∷ more)
      ≡ (stands part.d place && stand_from stands Middle more)
  pub fewest : (way : Way) → IsFewest (HasPartsBehind a text (holds a rules Middle way) part)
      (number_behind rules behind way)
  pub bound : (more : List Part) → AreRest a text (part ∷ more) → length more + 1 ≤ 2 ^ 64 - 1

-- a number that is one more than another for which it holds
pub record OneLess (P : ℕ → Type 0) (number : ℕ) : Type 0 where
  pub less : ℕ
  pub holds : P less
  pub same : number ≡ less + 1

-- one part more
pub one-more : (P Q : ℕ → Type 0) (number : Option ℕ) → ((n : ℕ) → P n → n + 1 ≤ 2 ^ 64 - 1)
    → ((n : ℕ) → P n → Q (n + 1)) → ((n : ℕ) → Q n → OneLess P n) → IsFewest P number
    → IsFewest Q (one_more number)
one-more P Q None bound there back none = λ n holds. none (back n holds).less (back n holds).holds
one-more P Q (Some m) bound there back is = (
  subst Q same (there m is.0),
  λ n holds. omega
      (arith, is.1 (back n holds).less (back n holds).holds, (back n holds).same),
)
  where
    same : m + 1 ≡ min (m + 1) (2 ^ 64 - 1)
    same = omega (arith, bound m is.0)
