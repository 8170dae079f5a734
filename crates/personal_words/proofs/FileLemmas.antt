-- What is read of a file, from what is read of its lines.
use Rattle.std.proofs.Common.{◌≡◌, ℕ, List, [], ◌∷◌, Some, None, Result, Ok, Err, sym, ap, ◌∙◌}
use Rattle.std.proofs.Common.{subst}
use Rattle.std.specs.Result.{IsErrAnd}
use Rattle.mark_types.specs.text_lines.declared.found.Line.{Line}
use Rattle.mark_types.specs.text_lines.Lines.{good_lines, bad_line}
use Rattle.line_faults.specs.Faults.{fault_at, unless_fault}
use Rattle.mark_types.specs.lists.Laws.{or-none}
use Rattle.mark_types.specs.spell_types.declared.Affixes.{Affixes}
use Rattle.personal_words.specs.declared.faults.OwnFault.{OwnFault}
use Rattle.personal_words.specs.declared.faults.OwnWhy.TheVariants.{NotUtf8}
use Rattle.personal_words.specs.declared.items.OwnItem.{OwnItem}
use Rattle.personal_words.specs.Lists.{item_limit}
use Rattle.personal_words.specs.Faults.{OwnFaultAtLine, listed_items, bad_faults, least_own_fault}
use Rattle.personal_words.specs.Faults.{first_own_fault}
use Rattle.personal_words.specs.Faults.{own_lines_faults, items_said, items_read, own_read}
use Rattle.personal_words.specs.Faults.{IsOwnFaultTold}
use Rattle.personal_words.specs.Faults.{IsOwnListRead}

pub bad-told : (affixes : Affixes) (bytes : List ℕ) (line : ℕ) → bad_line bytes ≡ Some line
    → own_read affixes bytes ≡ Err (fault_at line NotUtf8)
unfolding own_read
bad-told affixes bytes line bad =
    ap (λ b. unless_fault
    (first_own_fault (bad_faults b ∷ own_lines_faults affixes bytes (good_lines bytes) ∷ []))
    (items_said affixes bytes (good_lines bytes))) bad

-- where all lines are UTF-8, the file says what its lines say
pub of-lines : (affixes : Affixes) (bytes : List ℕ) (lines : List Line)
    → lines ≡ good_lines bytes → bad_line bytes ≡ None
    → items_read affixes item_limit (listed_items bytes lines) ≡ own_read affixes bytes
unfolding items_read own_read
of-lines affixes bytes lines is none =
    let good = good_lines bytes in
    let said = items_said affixes bytes good in
    ap (λ all. unless_fault (least_own_fault (own_lines_faults affixes bytes all))
    (items_said affixes bytes all)) is
    ∙ ap (λ o. unless_fault o said) (sym (or-none (least_own_fault (own_lines_faults affixes bytes good))))
    ∙ sym (ap (λ b. unless_fault (first_own_fault (bad_faults b ∷ own_lines_faults affixes bytes good ∷ []))
    said) none)

-- a fault that is handed on
pub handed : {A : Type 0} (read : Result A OwnFaultAtLine) (result : Result A OwnFault) (fault : OwnFault)
    → IsErrAnd result (λ given. given ≡ fault) → IsOwnFaultTold read fault
    → IsOwnListRead read result
handed read (Ok made) fault same told = absurd same
handed read (Err given) fault same told = subst (IsOwnFaultTold read) (sym same) told

pub told-of-lines : (affixes : Affixes) (bytes : List ℕ) (lines : List Line) (fault : OwnFault)
    → lines ≡ good_lines bytes → bad_line bytes ≡ None
    → IsOwnFaultTold (items_read affixes item_limit (listed_items bytes lines)) fault
    → IsOwnFaultTold (own_read affixes bytes) fault
told-of-lines affixes bytes lines fault is none told =
    subst (λ (read : Result (List OwnItem) OwnFaultAtLine). IsOwnFaultTold read fault)
    (of-lines affixes bytes lines is none) told
