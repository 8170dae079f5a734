-- The first fault of a file, read as a set.
use Rattle.std.proofs.Common.{◌≡◌, ℕ, List, Option, None, sym, ap, ◌∙◌, Result, Ok, Err, IfOk}
use Rattle.std.proofs.Common.{IfErr}
use Rattle.std.specs.List.{filter_map}
use Rattle.text_lines.specs.declared.found.Line.{Line}
use Rattle.text_lines.specs.Lines.{bad_line, good_lines}
use Rattle.line_faults.specs.Faults.{fault_at}
use Rattle.line_faults.specs.Laws.{first-least, no-first}
use Rattle.aff_lines.specs.declared.faults.AffFault.{AffFault}
use Rattle.aff_lines.specs.declared.faults.AffFault.TheVariants.{At, NoMemory}
use Rattle.aff_lines.specs.Faults.{Fault, cause_number, first_fault, Refuses}
use Rattle.aff_lines.specs.declared.Directives.{Directives}
use Rattle.aff_lines.specs.declared.rows.DirectiveLine.{DirectiveLine}
use Rattle.aff_lines.specs.Passes.{IsFirst, SaysDirectives, Reads, early_passes, passes_of}
use Rattle.aff_lines.specs.Rows.{row_in}

pub refuses-first : (passes : List (List Fault)) (fault : AffFault) → IsFirst passes fault
    → Refuses passes fault
refuses-first passes (At line why) first = first-least cause_number passes (fault_at line why) first
refuses-first passes NoMemory first = tt

pub reads_first : (bytes : List ℕ) (found : Result Directives AffFault)
    → IfOk found (λ read. first_fault (early_passes bytes) ≡ None)
    → IfOk found (SaysDirectives bytes)
    → IfOk found (Reads bytes)
reads_first bytes (Ok read) fine says =
    record { no_fault = no-first cause_number (early_passes bytes) fine; says = says }
reads_first bytes (Err fault) fine says = tt

pub refuses_first : (bytes : List ℕ) (found : Result Directives AffFault)
    → IfErr found (IsFirst (early_passes bytes)) → IfErr found (Refuses (early_passes bytes))
refuses_first bytes (Ok read) first = tt
refuses_first bytes (Err fault) first = refuses-first (early_passes bytes) fault first

-- what is found among the rows is the first fault of the file
pub first_of_file : (bytes : List ℕ) (bad : Option ℕ) (lines : List Line)
    (rows : List DirectiveLine) (found : Option Fault)
    → bad ≡ bad_line bytes → lines ≡ good_lines bytes → rows ≡ filter_map (row_in bytes) lines
    → found ≡ first_fault (passes_of bad rows) → first_fault (early_passes bytes) ≡ found
first_of_file bytes bad lines rows found same_bad same_lines same_rows told =
    sym
    (told
    ∙ ap (λ own. first_fault (passes_of bad own)) same_rows
    ∙ ap (λ b. first_fault (passes_of b (filter_map (row_in bytes) lines))) same_bad
    ∙ ap (λ own. first_fault (passes_of (bad_line bytes) (filter_map (row_in bytes) own)))
    same_lines)
