-- The order of causes; what is read, or the fault, taken apart.
use Rattle.std.proofs.Common.{◌≡◌, ℕ, ◌≤◌, false, map, refl, arith, Option, Some, None, Result, Ok}
use Rattle.std.proofs.Common.{Err, List}
use Rattle.line_faults.specs.Faults.{is_before, fault_at, unless_fault}
use Rattle.line_faults.specs.Laws.{NoneBefore, lower-cause, no-first, first-least}
use Rattle.spell_types.specs.declared.Affixes.{Affixes}
use Rattle.spell_types.specs.declared.Entry.{Entry}
use Rattle.spell_types.specs.declared.flags.Flag.{Flag}
use Rattle.flag_sets.specs.declared.FlagFault.{FlagFault}
use Rattle.flag_sets.specs.declared.FlagFault.TheVariants.{BadFlag as NoFlag, BadAlias as NoAlias}
use Rattle.flag_sets.specs.declared.FlagFault.TheVariants.{NoMemory as Wanting}
use Rattle.text_lines.specs.Lines.{good_lines}
use Rattle.dic_reader.specs.declared.faults.DicFault.{DicFault}
use Rattle.dic_reader.specs.declared.faults.DicFault.TheVariants.{At, NoMemory}
use Rattle.dic_reader.specs.declared.faults.DicWhy.{DicWhy}
use Rattle.dic_reader.specs.declared.faults.DicWhy.TheVariants.{NotUtf8, BadCount, EmptyWord}
use Rattle.dic_reader.specs.declared.faults.DicWhy.TheVariants.{BadFlag, BadAlias, TooMany}
use Rattle.dic_reader.specs.Faults.{DicFaultAtLine, dic_cause_number, flag_whys, first_dic_fault}
use Rattle.dic_reader.specs.Faults.{dic_passes}
use Rattle.dic_reader.specs.Faults.{entries_said, dic_read, AreEntriesRead, DicReads, DicRefuses}
use Rattle.std.specs.Result.{IfOk, IfErr}

-- ---- the order of causes

cause-at-most : (why : DicWhy) → dic_cause_number why ≤ dic_cause_number TooMany
unfolding dic_cause_number
cause-at-most NotUtf8 = omega arith
cause-at-most BadCount = omega arith
cause-at-most EmptyWord = omega arith
cause-at-most BadFlag = omega arith
cause-at-most BadAlias = omega arith
cause-at-most TooMany = omega arith

pub too-many-last : (fault : DicFaultAtLine) (line : ℕ) → fault.line ≡ line
    → is_before dic_cause_number (fault_at line TooMany) fault ≡ false
too-many-last fault line same =
    lower-cause dic_cause_number fault (fault_at line TooMany) same (cause-at-most fault.why)

pub flags-behind-word : (line : ℕ) (found : Result (List Flag) FlagFault)
    → NoneBefore dic_cause_number (fault_at line EmptyWord) (map (fault_at line) (flag_whys found))
unfolding dic_cause_number
flags-behind-word line (Ok set) = tt
flags-behind-word line (Err NoAlias) = (
  lower-cause dic_cause_number (fault_at line EmptyWord) (fault_at line BadAlias) refl (omega arith),
  tt,
)
flags-behind-word line (Err NoFlag) = (
  lower-cause dic_cause_number (fault_at line EmptyWord) (fault_at line BadFlag) refl (omega arith),
  tt,
)
flags-behind-word line (Err Wanting) = (
  lower-cause dic_cause_number (fault_at line EmptyWord) (fault_at line BadFlag) refl (omega arith),
  tt,
)

-- ---- what is read, or the fault, taken apart

pub read-fault : {A : Type 0} (due : Option DicFaultAtLine) (said made : A)
    → unless_fault due said ≡ Ok made
    → due ≡ None
read-fault None said made is = refl
read-fault (Some fault) said made is = absurd cc

pub read-said : {A : Type 0} (due : Option DicFaultAtLine) (said made : A)
    → unless_fault due said ≡ Ok made
    → made ≡ said
read-said None said made is = cc
read-said (Some fault) said made is = absurd cc

pub told-fault : {A : Type 0} (due : Option DicFaultAtLine) (said : A) (fault : DicFaultAtLine)
    → unless_fault due said ≡ Err fault → due ≡ Some fault
told-fault None said fault is = absurd cc
told-fault (Some own) said fault is = cc

-- what the public call promises, from what is read
pub reads-as-said : (affixes : Affixes) (bytes : List ℕ) (result : Result (List Entry) DicFault)
    → AreEntriesRead (dic_read affixes bytes) result → IfOk result (DicReads affixes bytes)
unfolding dic_read
reads-as-said affixes bytes (Err fault) is = tt
reads-as-said affixes bytes (Ok entries) is =
    let passes = dic_passes affixes bytes in
    let due = first_dic_fault passes in
    let said = entries_said affixes bytes (good_lines bytes) in
    record {
      no_fault = no-first dic_cause_number passes (read-fault due said entries is);
      says = read-said due said entries is;
    }

pub refuses-at-first : (affixes : Affixes) (bytes : List ℕ) (result : Result (List Entry) DicFault)
    → AreEntriesRead (dic_read affixes bytes) result → IfErr result (DicRefuses affixes bytes)
unfolding dic_read
refuses-at-first affixes bytes (Ok entries) is = tt
refuses-at-first affixes bytes (Err NoMemory) is = tt
refuses-at-first affixes bytes (Err (At line why)) is =
    let passes = dic_passes affixes bytes in
    let said = entries_said affixes bytes (good_lines bytes) in
    first-least dic_cause_number passes (fault_at line why)
    (told-fault (first_dic_fault passes) said (fault_at line why) is)
