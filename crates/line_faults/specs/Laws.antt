-- Laws of the order of faults, of the earliest of some, and of the first of passes.
use Rattle.std.proofs.Common.{◌≡◌, ℕ, zero, suc, ◌<◌, ◌≤◌, Bool, true, false, cond, inl, inr, List}
use Rattle.std.proofs.Common.{[], ◌∷◌, ◌++◌, Option, Some, None, refl, sym, ap, ◌∙◌, subst, arith}
use Rattle.std.specs.List.{AllByRecursion}
use Rattle.std.specs.Option.{option_or}
use Rattle.std.proofs.lemmas.Bool.Decides.{nat_tests}
use Rattle.line_faults.specs.declared.Fault.{Fault}
use Rattle.line_faults.specs.Faults.{is_before, sooner, least_of, first_fault, FaultsJoin}
use Rattle.line_faults.specs.Faults.{FindsLeast, IsAmong, IsFault, IsFirstFault, IsLeast, LeastIs}

module _ {W : Type 0} (number : W → ℕ) where
  -- ---- the order

  itself : (a : Fault W) → is_before number a a ≡ false
  itself a = grind (arith, nat_tests)

  other-way : (a b : Fault W) → is_before number a b ≡ true → is_before number b a ≡ false
  other-way a b h = grind (arith, nat_tests)

  goes : (a b c : Fault W) → is_before number b a ≡ true → is_before number c b ≡ true
      → is_before number c a ≡ true
  goes a b c p q = grind (arith, nat_tests)

  keeps : (a b c : Fault W) → is_before number b a ≡ false → is_before number c b ≡ false
      → is_before number c a ≡ false
  keeps a b c p q = grind (arith, nat_tests)

  -- a fault at a lower line goes before, and of two at one line none goes before the one with the
  -- lower cause
  pub lower-line : (a b : Fault W) → a.line < b.line → is_before number a b ≡ true
  lower-line a b lower = grind (arith, nat_tests)

  pub higher-line : (a b : Fault W) → a.line < b.line → is_before number b a ≡ false
  higher-line a b lower = grind (arith, nat_tests)

  pub lower-cause : (a b : Fault W) → a.line ≡ b.line → number a.why ≤ number b.why
      → is_before number b a ≡ false
  lower-cause a b same lower = grind (arith, nat_tests)

  -- ---- the earlier of two, and the earliest of some

  pub sooner_none : (found : Option (Fault W)) → sooner number found None ≡ found
  sooner_none None = refl
  sooner_none (Some found) = refl

  pub sooner_assoc : (a b c : Option (Fault W)) → sooner number (sooner number a b) c
      ≡ sooner number a (sooner number b c)
  sooner_assoc None b c = refl
  sooner_assoc (Some a) None c = refl
  sooner_assoc (Some a) (Some b) None = sooner_none (sooner number (Some a) (Some b))
  sooner_assoc (Some a) (Some b) (Some c) =
      by-tests (is_before number b a) (is_before number c b) refl refl
    where
      by-tests : (ba cb : Bool) → is_before number b a ≡ ba → is_before number c b ≡ cb
          → sooner number (sooner number (Some a) (Some b)) (Some c) ≡ sooner number (Some a)
          (sooner number (Some b) (Some c))
      by-tests true true p q = rw (p, q, goes a b c p q) refl
      by-tests true false p q = rw (p, q, p) refl
      by-tests false true p q = rw (p, q) refl
      by-tests false false p q = rw (p, q, keeps a b c p q, p) refl

  pub least_append : FaultsJoin number
  least_append [] more = refl
  least_append (fault ∷ faults) more =
      ap (sooner number (Some fault)) (least_append faults more)
      ∙ sym (sooner_assoc (Some fault) (least_of number faults) (least_of number more))

  -- A turn of a loop over lines: what was found so far, merged with what the rest has, goes on to
  -- be all.
  pub found_more : {here now total : Option (Fault W)} {all : List (Fault W)}
      (found : Option (Fault W)) (own rest : List (Fault W))
      → now ≡ sooner number found here → here ≡ least_of number own → all ≡ own ++ rest
      → sooner number found (least_of number all) ≡ total → sooner number now (least_of number rest)
      ≡ total
  found_more found own rest merged told is so_far =
      ap (λ f. sooner number f (least_of number rest)) (merged ∙ ap (sooner number found) told)
      ∙ sooner_assoc found (least_of number own) (least_of number rest)
      ∙ ap (sooner number found) (sym (least_append own rest) ∙ ap (least_of number) (sym is))
      ∙ so_far

  -- no fault of a list goes before this one
  abbrev pub NoneBefore : Fault W → List (Fault W) → Type 0
  NoneBefore fault faults = AllByRecursion (λ other. is_before number other fault ≡ false) faults

  -- this fault goes before each of a list
  abbrev pub BeforeEach : Fault W → List (Fault W) → Type 0
  BeforeEach fault faults = AllByRecursion (λ other. is_before number fault other ≡ true) faults

  pub none-before-stays : (fault : Fault W) (faults : List (Fault W)) → NoneBefore fault faults
      → sooner number (Some fault) (least_of number faults) ≡ Some fault
  none-before-stays fault [] none = refl
  none-before-stays fault (other ∷ more) none =
      sym (sooner_assoc (Some fault) (Some other) (least_of number more))
      ∙ ap (λ t. sooner number (cond t (Some other) (Some fault)) (least_of number more)) none.0
      ∙ none-before-stays fault more none.1

  pub before-each-wins : (fault : Fault W) (faults : List (Fault W)) → BeforeEach fault faults
      → sooner number (least_of number faults) (Some fault) ≡ Some fault
  before-each-wins fault [] each = refl
  before-each-wins fault (other ∷ more) each =
      sooner_assoc (Some other) (least_of number more) (Some fault)
      ∙ ap (sooner number (Some other)) (before-each-wins fault more each.1)
      ∙ ap (λ t. cond t (Some fault) (Some other)) each.0

  -- ---- the earliest of some, read as a set

  is-self : (fault other : Fault W) → fault ≡ other → is_before number other fault ≡ false
  is-self fault other same = ap (λ f. is_before number f fault) (sym same) ∙ itself fault

  none-among : (faults : List (Fault W)) → faults ≡ [] → (fault : Fault W) → IsAmong faults fault
      → ⊥
  none-among faults none fault = subst (λ (fs : List (Fault W)). IsAmong fs fault) none

  least-cons : (fault : Fault W) (more : List (Fault W)) (found : Option (Fault W))
      → LeastIs number more found
      → LeastIs number (fault ∷ more) (sooner number (Some fault) found)
  least-cons fault more None none = record {
    among = inl refl;
    first = λ other. elim [
      | inl same ↦ is-self fault other same
      | inr later ↦ absurd (none-among more none other later)
    ];
  }
  least-cons fault more (Some found) least = by-test (is_before number found fault) refl
    where
      by-test : (b : Bool) → is_before number found fault ≡ b
          → LeastIs number (fault ∷ more) (cond b (Some found) (Some fault))
      by-test true before_it = record {
        among = inr least.among;
        first = λ other. elim [
          | inl same ↦ ap (λ f. is_before number f found) (sym same)
              ∙ other-way found fault before_it
          | inr later ↦ least.first other later
        ];
      }
      by-test false not_before = record {
        among = inl refl;
        first = λ other. elim [
          | inl same ↦ is-self fault other same
          | inr later ↦ keeps fault found other not_before (least.first other later)
        ];
      }

  pub least_law : FindsLeast number
  least_law [] = refl
  least_law (fault ∷ more) = least-cons fault more (least_of number more) (least_law more)

  pub least-none : (faults : List (Fault W)) → least_of number faults ≡ None → faults ≡ []
  least-none faults is = subst (LeastIs number faults) is (least_law faults)

  -- what holds of each fault holds of the earliest
  each-among : (P : Fault W → Type 0) (faults : List (Fault W)) (fault : Fault W)
      → AllByRecursion P faults → IsAmong faults fault → P fault
  each-among P [] fault each among = absurd among
  each-among P (first ∷ more) fault each (inl same) = subst P same each.0
  each-among P (first ∷ more) fault each (inr later) = each-among P more fault each.1 later

  pub each-least : (P : Fault W → Type 0) (faults : List (Fault W)) (fault : Fault W)
      → AllByRecursion P faults
      → least_of number faults ≡ Some fault → P fault
  each-least P faults fault each is =
      let least : IsLeast number (IsAmong faults) fault =
      subst (LeastIs number faults) is (least_law faults) in
      each-among P faults fault each least.among

  -- ---- the first fault of passes, read as a set

  abbrev FirstIs : List (List (Fault W)) → Option (Fault W) → Type 0
  FirstIs passes None = (pass : ℕ) (fault : Fault W) → ¬ IsFault passes pass fault
  FirstIs passes (Some fault) = IsFirstFault number passes fault

  first-later : (faults : List (Fault W)) (later : List (List (Fault W))) (found : Option (Fault W))
      → faults ≡ [] → FirstIs later found
      → FirstIs (faults ∷ later) found
  first-later faults later None none fine = at-pass
    where
      at-pass : (pass : ℕ) (fault : Fault W) → ¬ IsFault (faults ∷ later) pass fault
      at-pass zero fault bad = none-among faults none fault bad
      at-pass (suc pass) fault bad = fine pass fault bad.1
  first-later faults later (Some fault) none told = (
    suc told.0,
    record {
      among = (none, told.1.among);
      first = λ other bad. told.1.first other bad.1;
    },
  )

  first-cons : (faults : List (Fault W)) (later : List (List (Fault W))) (found : Option (Fault W))
      → LeastIs number faults found
      → FirstIs later (first_fault number later)
      → FirstIs (faults ∷ later) (option_or found (first_fault number later))
  first-cons faults later None none told =
      first-later faults later (first_fault number later) none told
  first-cons faults later (Some fault) least told = (zero, least)

  first-law : (passes : List (List (Fault W))) → FirstIs passes (first_fault number passes)
  first-law [] = λ pass fault bad. bad
  first-law (faults ∷ later) =
      first-cons faults later (least_of number faults) (least_law faults) (first-law later)

  pub no-first : (passes : List (List (Fault W))) → first_fault number passes ≡ None
      → (pass : ℕ) (fault : Fault W) → ¬ IsFault passes pass fault
  no-first passes none = subst (FirstIs passes) none (first-law passes)

  pub first-least : (passes : List (List (Fault W))) (fault : Fault W)
      → first_fault number passes ≡ Some fault → IsFirstFault number passes fault
  first-least passes fault first = subst (FirstIs passes) first (first-law passes)
