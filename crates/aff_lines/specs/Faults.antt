-- Which faults a file has, and which of them is told.
use Rattle.std.specs.Prelude.{ℕ, Bool, List, Option, codes}
use Rattle.line_faults.specs.Faults as order
use Rattle.line_faults.specs.Faults.{IsFault, fault_at}
use Rattle.line_faults.specs.declared.Fault.{Fault as LineFault}
use Rattle.aff_lines.specs.declared.faults.AffWhy.{AffWhy}
use Rattle.aff_lines.specs.declared.faults.AffWhy.TheVariants.{NotUtf8, OtherEncoding, LeftOut}
use Rattle.aff_lines.specs.declared.faults.AffWhy.TheVariants.{MissingField, Twice, BadNumber}
use Rattle.aff_lines.specs.declared.faults.AffWhy.TheVariants.{TooMany, TableShort, OtherFlag}
use Rattle.aff_lines.specs.declared.faults.AffWhy.TheVariants.{BadCross, BadFlag, BadAlias}
use Rattle.aff_lines.specs.declared.faults.AffWhy.TheVariants.{BadCondition, BadPattern}
use Rattle.aff_lines.specs.declared.faults.AffFault.{AffFault}
use Rattle.aff_lines.specs.declared.faults.AffFault.TheVariants.{At, NoMemory}

-- the place of a cause among all causes, from 1
unfoldable pub cause_number : AffWhy → ℕ
cause_number NotUtf8 = 1
cause_number OtherEncoding = 2
cause_number LeftOut = 3
cause_number MissingField = 4
cause_number Twice = 5
cause_number BadNumber = 6
cause_number TooMany = 7
cause_number TableShort = 8
cause_number OtherFlag = 9
cause_number BadCross = 10
cause_number BadFlag = 11
cause_number BadAlias = 12
cause_number BadCondition = 13
cause_number BadPattern = 14

-- the cause as it is printed
unfoldable pub why_name : AffWhy → List ℕ
why_name NotUtf8 = codes "NotUtf8"
why_name OtherEncoding = codes "OtherEncoding"
why_name LeftOut = codes "LeftOut"
why_name MissingField = codes "MissingField"
why_name Twice = codes "Twice"
why_name BadNumber = codes "BadNumber"
why_name TooMany = codes "TooMany"
why_name TableShort = codes "TableShort"
why_name OtherFlag = codes "OtherFlag"
why_name BadCross = codes "BadCross"
why_name BadFlag = codes "BadFlag"
why_name BadAlias = codes "BadAlias"
why_name BadCondition = codes "BadCondition"
why_name BadPattern = codes "BadPattern"

abbrev pub Fault : Type 0
Fault = LineFault AffWhy

-- ---- which fault is told: by line, and at one line by the place of its cause

abbrev pub is_before : Fault → Fault → Bool
is_before = order.is_before cause_number

abbrev pub sooner : Option Fault → Option Fault → Option Fault
sooner = order.sooner cause_number

abbrev pub least_of : List Fault → Option Fault
least_of = order.least_of cause_number

abbrev pub first_fault : List (List Fault) → Option Fault
first_fault = order.first_fault cause_number

abbrev pub IsLeast : (Fault → Type 0) → Fault → Type 0
IsLeast = order.IsLeast cause_number

abbrev pub LeastIs : List Fault → Option Fault → Type 0
LeastIs = order.LeastIs cause_number

abbrev pub FaultsJoin : Type 0
FaultsJoin = order.FaultsJoin cause_number

abbrev pub FindsLeast : Type 0
FindsLeast = order.FindsLeast cause_number

-- what is told of a file whose passes have these faults
abbrev pub Refuses : List (List Fault) → AffFault → Type 0
Refuses passes (At line why) = order.IsFirstFault cause_number passes (fault_at line why)
Refuses passes NoMemory = Unit {0}
