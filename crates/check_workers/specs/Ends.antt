-- Why the check of a claim stops, and why a worker does.
use Rattle.std.specs.Prelude.{◌≡◌, ℕ, ◌<◌, ◌^◌, ◌⊎◌, Bool, ◌==◌, if◌then◌else◌, Option, None, Some}
use Rattle.std.specs.Option.{option_map_or}
use Rattle.board_share.specs.edit_core.Seen.{Seen}
use Rattle.board_share.specs.edit_core.Steps.{found}
use Rattle.board_share.specs.edit_core.Views.{is_parked}
use Rattle.board_share.specs.edit_core.declared.refusal.Refusal.{Refusal}
use Rattle.board_share.specs.edit_core.declared.refusal.Refusal.TheVariants as refusal
use Rattle.board_share.specs.Events.{IsSpent}
use Rattle.board_share.specs.Eyes.{EyeSeen, last_of}
use Rattle.board_share.specs.declared.claim.Claim.{Claim}
use Rattle.board_share.specs.declared.claim.ClaimFault.{ClaimFault}
use Rattle.board_share.specs.declared.claim.ClaimFault.TheVariants as fault
use Rattle.check_workers.specs.declared.ends.CheckEnd.{CheckEnd}
use Rattle.check_workers.specs.declared.ends.CheckEnd.TheVariants as end
use Rattle.check_workers.specs.declared.ends.Why.{Why}
use Rattle.check_workers.specs.declared.ends.Why.TheVariants as why
use Rattle.check_workers.specs.declared.ends.WorkEnd.{WorkEnd}
use Rattle.check_workers.specs.declared.ends.WorkEnd.TheVariants as work

-- the first cause to stop a check for a rev and a dictionary version, where these are in force now
abbrev pub why_for : (rev dict rev_now dict_now : ℕ) → (parked : Bool) → Option Why
why_for rev dict rev_now dict_now parked =
    if rev_now == rev
    then (if dict_now == dict then (if parked then Some (why.Parked rev_now) else None)
    else Some (why.Reloaded dict_now)) else Some (why.Behind rev_now)

-- the first cause that a board shows to stop the check of a claim
abbrev pub why_of : {J : Type 0} → Seen → Claim J → Option Why
why_of board claim =
    option_map_or
    (λ row. why_for claim.rev claim.dict row.0.rev board.dict_version (is_parked row.1))
    (found claim.id board) (Some why.Gone)

-- a check ends so where this is the last board that was looked at
abbrev pub IsCheckEnd : {J : Type 0} → Seen → Claim J → CheckEnd → Type 0
IsCheckEnd board claim (end.Stopped why) = why_of board claim ≡ Some why
IsCheckEnd board claim end.NoMemory = Unit {0}

-- ---- where a history ends

-- no event may come behind this point, which is the board's
pub record IsLastPoint (board : Seen) (point : ℕ) : Type 0 where
  pub point_is : point ≡ board.point
  pub last : board.point ≡ 2 ^ 62

-- why a call that claims or finishes ends early
abbrev pub IsCutShort : Seen → ClaimFault → Type 0
IsCutShort board (fault.Spent point) = IsLastPoint board point
IsCutShort board fault.NoMemory = Unit {0}

-- the refusal that cuts such a call short
abbrev pub refusal_of_claim : ClaimFault → Refusal
refusal_of_claim (fault.Spent point) = refusal.Spent point
refusal_of_claim fault.NoMemory = refusal.NoMemory

-- a refusal that cuts none short: the check is not wanted any more
pub record IsPassedOver (told : Refusal) : Type 0 where
  pub spent : (point : ℕ) → ¬ (told ≡ refusal.Spent point)
  pub wanting : ¬ (told ≡ refusal.NoMemory)

-- ---- what a worker's turns end with

-- An event of the worker's may not come any more: a claim of a paragraph that waits, or, behind a
-- claim or a finish that was counted, another event.
abbrev pub IsSpentWorking : (old new : EyeSeen) → (point : ℕ) → Type 0
IsSpentWorking old new point =
    IsSpent (last_of new.run) point
    ⊎ (IsLastPoint (last_of new.run) point × (old.counts.checks < new.counts.checks))

-- why a turn of a worker fails
abbrev pub IsTurnFault : EyeSeen → EyeSeen → ClaimFault → Type 0
IsTurnFault old new (fault.Spent point) = IsSpentWorking old new point
IsTurnFault old new fault.NoMemory = Unit {0}

-- why a worker ends: its bell is closed, or an event of its own may not come any more
abbrev pub IsWorkEnd : EyeSeen → EyeSeen → WorkEnd → Type 0
IsWorkEnd old new work.Closed = Unit {0}
IsWorkEnd old new (work.Spent point) = IsSpentWorking old new point
IsWorkEnd old new work.NoMemory = Unit {0}
