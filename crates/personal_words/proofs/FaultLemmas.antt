-- The order of causes; what is read, or the fault, taken apart.
use Rattle.std.proofs.Common.{◌≡◌, ℕ, ◌≤◌, false, refl, arith, Option, Some, None, Result, Ok, Err}
use Rattle.std.proofs.Common.{List}
use Rattle.std.specs.Result.{IfOk, IfErr}
use Rattle.line_faults.specs.Faults.{is_before, fault_at, unless_fault}
use Rattle.line_faults.specs.Laws.{lower-cause, no-first, first-least}
use Rattle.mark_types.specs.spell_types.declared.Affixes.{Affixes}
use Rattle.mark_types.specs.text_lines.Lines.{good_lines}
use Rattle.personal_words.specs.declared.faults.OwnFault.{OwnFault}
use Rattle.personal_words.specs.declared.faults.OwnFault.TheVariants.{At, NoMemory}
use Rattle.personal_words.specs.declared.faults.OwnWhy.{OwnWhy}
use Rattle.personal_words.specs.declared.faults.OwnWhy.TheVariants.{NotUtf8, EmptyWord, TooMany}
use Rattle.personal_words.specs.declared.items.OwnItem.{OwnItem}
use Rattle.personal_words.specs.Faults.{OwnFaultAtLine, own_cause_number, first_own_fault}
use Rattle.personal_words.specs.Faults.{own_passes, items_said}
use Rattle.personal_words.specs.Faults.{own_read, IsOwnListRead, OwnReads, OwnRefuses}

-- ---- the order of causes

cause-at-most : (why : OwnWhy) → own_cause_number why ≤ own_cause_number TooMany
unfolding own_cause_number
cause-at-most NotUtf8 = omega arith
cause-at-most EmptyWord = omega arith
cause-at-most TooMany = omega arith

pub too-many-last : (fault : OwnFaultAtLine) (line : ℕ) → fault.line ≡ line
    → is_before own_cause_number (fault_at line TooMany) fault ≡ false
too-many-last fault line same =
    lower-cause own_cause_number fault (fault_at line TooMany) same (cause-at-most fault.why)

-- ---- what is read, or the fault, taken apart

pub read-fault : {A : Type 0} (due : Option OwnFaultAtLine) (said made : A)
    → unless_fault due said ≡ Ok made
    → due ≡ None
read-fault None said made is = refl
read-fault (Some fault) said made is = absurd cc

pub read-said : {A : Type 0} (due : Option OwnFaultAtLine) (said made : A)
    → unless_fault due said ≡ Ok made
    → made ≡ said
read-said None said made is = cc
read-said (Some fault) said made is = absurd cc

pub told-fault : {A : Type 0} (due : Option OwnFaultAtLine) (said : A) (fault : OwnFaultAtLine)
    → unless_fault due said ≡ Err fault → due ≡ Some fault
told-fault None said fault is = absurd cc
told-fault (Some own) said fault is = cc

-- what the public call promises, from what is read
pub reads-as-said : (affixes : Affixes) (bytes : List ℕ) (result : Result (List OwnItem) OwnFault)
    → IsOwnListRead (own_read affixes bytes) result → IfOk result (OwnReads affixes bytes)
unfolding own_read
reads-as-said affixes bytes (Err fault) is = tt
reads-as-said affixes bytes (Ok items) is =
    let passes = own_passes affixes bytes in
    let due = first_own_fault passes in
    let said = items_said affixes bytes (good_lines bytes) in
    record {
      no_fault = no-first own_cause_number passes (read-fault due said items is);
      says = read-said due said items is;
    }

pub refuses-at-first : (affixes : Affixes) (bytes : List ℕ)
    (result : Result (List OwnItem) OwnFault)
    → IsOwnListRead (own_read affixes bytes) result → IfErr result (OwnRefuses affixes bytes)
unfolding own_read
refuses-at-first affixes bytes (Ok items) is = tt
refuses-at-first affixes bytes (Err NoMemory) is = tt
refuses-at-first affixes bytes (Err (At line why)) is =
    let passes = own_passes affixes bytes in
    let said = items_said affixes bytes (good_lines bytes) in
    first-least own_cause_number passes (fault_at line why)
    (told-fault (first_own_fault passes) said (fault_at line why) is)
