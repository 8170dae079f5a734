-- Why a session is stopped, and how much it has asked for.
use Rattle.std.proofs.Common.{◌≡◌, ◌∙◌, refl, sym, ap, subst, ℕ, ◌+◌, ◌≤◌, Option, None, Result, Ok}
use Rattle.std.proofs.Common.{Err, IfOk, IfErr, OnOk, IfSome, arith}
use Rattle.std.specs.Result.{result_err}
use Rattle.board_share.specs.Eyes.{EyeSeen, events_in}
use Rattle.desk_console.specs.Consoles.{IsCutOff}
use Rattle.desk_console.specs.declared.stop.Stop.{Stop}
use Rattle.desk_console.specs.declared.stop.Stop.TheVariants as stop
use Rattle.team_history.specs.Eyes.{AsksAtMost}
use Rattle.team_forms.specs.Sessions.{MayStop}

-- ---- one command that was cut off
cut-asks : (old new : EyeSeen) (why : Stop) → IsCutOff old new why → AsksAtMost 1 old new
cut-asks old new why cut = record { number = cut.goes.later.number; asked = cut.goes.one }

may-stop : (old new : EyeSeen) (why : Stop) → IsCutOff old new why → MayStop new why
may-stop old new stop.Wanting cut = tt
may-stop old new (stop.Spent point) cut = cut.spent point refl

-- ---- one command, done or cut off
pub ended-asks : {R : Type 0} (P : R → Type 0) (old new : EyeSeen) (result : Result R Stop)
    → ((told : R) → P told → AsksAtMost 1 old new) → IfOk result P
    → IfErr result (IsCutOff old new) → AsksAtMost 1 old new
ended-asks P old new (Ok told) asks done cut = asks told done
ended-asks P old new (Err why) asks done cut = cut-asks old new why cut

pub ended-may : {R : Type 0} (old new : EyeSeen) (result : Result R Stop)
    → IfErr result (IsCutOff old new) → IfErr result (MayStop new)
ended-may old new (Ok told) cut = tt
ended-may old new (Err why) cut = may-stop old new why cut

pub ended-told : {R : Type 0} (P Q : R → Type 0) (result : Result R Stop)
    → ((told : R) → P told → Q told) → IfOk result P → IfOk result Q
ended-told P Q (Ok told) tells done = tells told done
ended-told P Q (Err why) tells done = tt

-- ---- how much is asked for
pub asks-nothing : (most : ℕ) (old new : EyeSeen) → new ≡ old → AsksAtMost most old new
asks-nothing most old new same = record {
  number = ap (λ (eye : EyeSeen). eye.number) same;
  asked = more (events_in new.counts) (events_in old.counts)
      (ap (λ (eye : EyeSeen). events_in eye.counts) same);
}
  where
    more : (n m : ℕ) → n ≡ m → n ≤ m + most
    more n m is = omega (arith, is)

-- one line behind others
pub asks-more : (lines most : ℕ) (first old new : EyeSeen) → AsksAtMost lines first old
    → AsksAtMost 1 old new → lines + 1 ≤ most → AsksAtMost most first new
asks-more lines most first old new before one few = record {
  number = one.number ∙ before.number;
  asked = more (events_in new.counts) (events_in old.counts) (events_in first.counts) before.asked
      one.asked;
}
  where
    more : (n m k : ℕ) → m ≤ k + lines → n ≤ m + 1 → n ≤ k + most
    more n m k before one = omega (arith, before, one, few)

pub asks-most : (lines most : ℕ) (first new : EyeSeen) → AsksAtMost lines first new → lines ≤ most
    → AsksAtMost most first new
asks-most lines most first new before few = record {
  number = before.number;
  asked = more (events_in new.counts) (events_in first.counts) before.asked;
}
  where
    more : (n k : ℕ) → n ≤ k + lines → n ≤ k + most
    more n k before = omega (arith, before, few)

-- ---- what is kept of an answer
pub cut-kept : {R : Type 0} (P : Stop → Type 0) (result : Result R Stop) (stopped : Option Stop)
    → stopped ≡ result_err result → IfErr result P → IfSome stopped P
cut-kept P (Ok done) stopped is cut = subst (λ s. IfSome s P) (sym is) tt
cut-kept P (Err why) stopped is cut = subst (λ s. IfSome s P) (sym is) cut

pub done-kept : {R Q : Type 0} (result : Result R Stop) (stopped : Option Stop)
    → stopped ≡ result_err result → OnOk result Q → stopped ≡ None → Q
done-kept (Ok done) stopped is all none = all
done-kept (Err why) stopped is all none = absurd (cc)
