-- Laws of what calls answer that go wrong, which the proofs of several crates cite.
use Rattle.std.proofs.Common.{◌≡◌, inl, inr, Result, Ok, Err, IsErrAnd, sym, ap, subst}
use Rattle.lists.specs.Answers.{◌>>=◌, failing, FailsAs, GivesDue}

-- a step that fails ends all that follows
pub fails-then : {A B F : Type 0} (MayCome : F → Type 0) {due : Result A F} {fault : F}
    (next : A → Result B F) → FailsAs MayCome due fault → FailsAs MayCome (due >>= next) fault
fails-then MayCome next (inl comes) = inl comes
fails-then MayCome next (inr is) = inr (ap (λ d. d >>= next) is)

-- behind a step that gives something, what follows decides
pub fails-behind : {A B F : Type 0} (MayCome : F → Type 0) {due : Result A F} {given : A}
    {fault : F}
    (next : A → Result B F) → due ≡ Ok given → FailsAs MayCome (next given) fault
    → FailsAs MayCome (due >>= next) fault
fails-behind MayCome {fault = fault} next is fails =
    subst (λ d. FailsAs MayCome (d >>= next) fault) (sym is) fails

pub gives-then : {A B C F : Type 0} (MayCome : F → Type 0) {due : Result A F} {given : A}
    (next : A → Result B F) (view : C → B) (result : Result C F) → due ≡ Ok given
    → GivesDue MayCome view (next given) result → GivesDue MayCome view (due >>= next) result
gives-then MayCome next view result is gives =
    subst (λ d. GivesDue MayCome view (d >>= next) result) (sym is) gives

-- a failure that is told as another one
pub fails-told : {A E F : Type 0} (MayCome : E → Type 0) (MayBeTold : F → Type 0) {due : Result A E}
    {fault : E} (to : E → F) → ((e : E) → MayCome e → MayBeTold (to e)) → FailsAs MayCome due fault
    → FailsAs MayBeTold (failing to due) (to fault)
fails-told MayCome MayBeTold {fault = fault} to told (inl comes) = inl (told fault comes)
fails-told MayCome MayBeTold to told (inr is) = inr (ap (failing to) is)

-- the fault of a result is one that is told
pub gives-fault : {A B F : Type 0} (MayCome : F → Type 0) {due : Result B F} {fault : F}
    (view : A → B) (result : Result A F) → FailsAs MayCome due fault
    → IsErrAnd result (λ told. told ≡ fault) → GivesDue MayCome view due result
gives-fault MayCome view (Ok given) fails is = absurd is
gives-fault MayCome {due = due} view (Err told) fails is =
    subst (FailsAs MayCome due) (sym is) fails
