-- Faults at lines, which of some is told, and which of those of passes.
use Rattle.std.specs.Prelude.{◌≡◌, ℕ, zero, suc, ◌==◌, ◌||◌, ◌&&◌, ◌⊎◌, nat_lt, Bool, false, List}
use Rattle.std.specs.Prelude.{[], ◌∷◌, ◌++◌, Option, None, Some, Result, Ok, Err, if◌then◌else◌}
use Rattle.std.specs.Option.{option_or}
use Rattle.line_faults.specs.declared.Fault.{Fault}

abbrev pub fault_at : {W : Type 0} → ℕ → W → Fault W
fault_at line why = record { line = line; why = why }

abbrev pub IsAmong : {W : Type 0} → List (Fault W) → Fault W → Type 0
IsAmong [] fault = ⊥
IsAmong (first ∷ more) fault = (first ≡ fault) ⊎ IsAmong more fault

-- the fault is one of the pass with this number, from 0; a pass counts only where the passes before
-- it have no fault
abbrev pub IsFault : {W : Type 0} → List (List (Fault W)) → ℕ → Fault W → Type 0
IsFault [] pass fault = ⊥
IsFault (faults ∷ later) zero fault = IsAmong faults fault
IsFault (faults ∷ later) (suc pass) fault = (faults ≡ []) × IsFault later pass fault

-- what is read of a file, or its first fault
abbrev pub unless_fault : {W A : Type 0} → Option (Fault W) → A → Result A (Fault W)
unless_fault None read = Ok read
unless_fault (Some fault) read = Err fault

-- Each cause has a number, its place among all causes.
module _ {W : Type 0} (number : W → ℕ) where
  -- whether a fault goes before another: it is at a lower line, or at the same line with a lower
  -- cause
  abbrev pub is_before : Fault W → Fault W → Bool
  is_before fault other =
      nat_lt fault.line other.line
      || (fault.line == other.line && nat_lt (number fault.why) (number other.why))

  -- the earlier of two faults
  abbrev pub sooner : Option (Fault W) → Option (Fault W) → Option (Fault W)
  sooner None other = other
  sooner (Some first) None = Some first
  sooner (Some first) (Some other) = if is_before other first then Some other else Some first

  -- the earliest of these faults
  abbrev pub least_of : List (Fault W) → Option (Fault W)
  least_of [] = None
  least_of (fault ∷ more) = sooner (Some fault) (least_of more)

  -- the earliest fault of the first pass that has one
  abbrev pub first_fault : List (List (Fault W)) → Option (Fault W)
  first_fault [] = None
  first_fault (faults ∷ later) = option_or (least_of faults) (first_fault later)

  -- the fault is one of the bad ones, and none of them goes before it
  pub record IsLeast (bad : Fault W → Type 0) (fault : Fault W) : Type 0 where
    pub among : bad fault
    pub first : (other : Fault W) → bad other → is_before other fault ≡ false

  -- the fault is the least of a pass before which no pass has a fault
  abbrev pub IsFirstFault : List (List (Fault W)) → Fault W → Type 0
  IsFirstFault passes fault = (pass : ℕ) × IsLeast (IsFault passes pass) fault

  -- what is found is the least of these faults, or they are none
  abbrev pub LeastIs : List (Fault W) → Option (Fault W) → Type 0
  LeastIs faults None = faults ≡ []
  LeastIs faults (Some fault) = IsLeast (IsAmong faults) fault

  -- what is found of each list is its least fault
  abbrev pub FindsLeast : Type 0
  FindsLeast = (faults : List (Fault W)) → LeastIs faults (least_of faults)

  -- the earliest fault of two lists is the earlier of those of each
  abbrev pub FaultsJoin : Type 0
  FaultsJoin = (faults more : List (Fault W))
      → least_of (faults ++ more) ≡ sooner (least_of faults) (least_of more)
