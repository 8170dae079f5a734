-- What a call answers that goes wrong.
use Rattle.std.specs.Prelude.{◌≡◌, ◌⊎◌, Option, Some, Result, Ok, Err}

-- what is told is what is due, or that memory is wanting, which alone may be told at any time
abbrev pub IsDueOr : {F : Type 0} → F → Option F → F → Type 0
IsDueOr wanting due told = (told ≡ wanting) ⊎ (due ≡ Some told)

-- one thing that is due after another, up to the first fault
infixl 10 ◌>>=◌
abbrev pub ◌>>=◌ : {F A B : Type 0} → Result A F → (A → Result B F) → Result B F
(Ok given) >>= next = next given
(Err fault) >>= next = Err fault

-- what is due, where a fault is told as another one
abbrev pub failing : {A E F : Type 0} → (E → F) → Result A E → Result A F
failing to (Ok given) = Ok given
failing to (Err fault) = Err (to fault)

-- a call fails with what is due, or with what may come at any time
abbrev pub FailsAs : {A F : Type 0} → (F → Type 0) → Result A F → F → Type 0
FailsAs MayCome due fault = MayCome fault ⊎ (due ≡ Err fault)

-- a call gives what is due, seen by `view`, or fails so
abbrev pub GivesDue : {A B F : Type 0} → (F → Type 0) → (A → B) → Result B F → Result A F
    → Type 0
GivesDue MayCome view due (Ok given) = due ≡ Ok (view given)
GivesDue MayCome view due (Err fault) = FailsAs MayCome due fault
