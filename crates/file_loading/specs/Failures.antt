-- Why a call fails: its status, and its last line.
use Rattle.std.specs.Prelude.{ℕ, Bool, true, false, List, ◌++◌, codes}
use Rattle.std.specs.Fmt.{decimal}
use Rattle.aff_lines.specs.Faults.{why_name as aff_why_name}
use Rattle.dic_reader.specs.Faults.{dic_cause_name}
use Rattle.own_dictionary.specs.personal_words.Faults.{OwnFaultAtLine, own_cause_name}
use Rattle.own_dictionary.specs.personal_words.declared.faults.OwnFault.{OwnFault as ListFault}
use Rattle.own_dictionary.specs.personal_words.declared.faults.OwnFault.TheVariants.{At}
use Rattle.own_dictionary.specs.personal_words.declared.faults.OwnFault.TheVariants.{NoMemory as ListWanting}
use Rattle.own_dictionary.specs.dictionary_swap.declared.fault.LoadFault.{LoadFault}
use Rattle.own_dictionary.specs.dictionary_swap.declared.fault.LoadFault.TheVariants.{Failed}
use Rattle.own_dictionary.specs.dictionary_swap.declared.fault.LoadFault.TheVariants.{Missing}
use Rattle.own_dictionary.specs.dictionary_swap.declared.fault.LoadFault.TheVariants.{TooLong}
use Rattle.own_dictionary.specs.dictionary_swap.declared.fault.LoadFault.TheVariants.{Aff, Dic}
use Rattle.own_dictionary.specs.dictionary_swap.declared.fault.LoadFault.TheVariants.{NoMemory as LoadWanting}
use Rattle.document_report.specs.declared.fault.DocumentFault.{DocumentFault}
use Rattle.document_report.specs.declared.fault.DocumentFault.TheVariants.{NotUtf8}
use Rattle.document_report.specs.declared.fault.DocumentFault.TheVariants.{TooManyParagraphs}
use Rattle.document_report.specs.declared.fault.DocumentFault.TheVariants.{LongParagraph}
use Rattle.document_report.specs.declared.fault.DocumentFault.TheVariants.{NoMemory as ReportWanting}
use Rattle.file_loading.specs.declared.failure.Failure.{Failure}
use Rattle.file_loading.specs.declared.failure.Failure.TheVariants.{Words, Load, Own, Document}
use Rattle.file_loading.specs.declared.failure.Failure.TheVariants.{Input, Limit, NoMemory}
use Rattle.file_loading.specs.declared.failure.Failure.TheVariants.{ManyForms, Script}

-- ---- the exit status

abbrev pub load_status : LoadFault → ℕ
load_status (Aff line why) = 3
load_status (Dic line why) = 3
load_status Failed = 5
load_status Missing = 5
load_status LoadWanting = 7
load_status (TooLong limit) = 8

abbrev pub document_status : DocumentFault → ℕ
document_status (NotUtf8 line) = 4
document_status ReportWanting = 7
document_status (TooManyParagraphs limit) = 8
document_status (LongParagraph limit) = 8

abbrev pub status_of : Failure → ℕ
status_of Words = 2
status_of (Load fault) = load_status fault
status_of (Own line why) = 3
status_of (Document fault) = document_status fault
status_of (ManyForms limit) = 8
status_of (Script line) = 4
status_of Input = 5
status_of (Limit limit) = 8
status_of NoMemory = 7

-- ---- the last line that is written

-- a file's fault: which file, the line, and the cause
abbrev pub fault_line : List ℕ → ℕ → List ℕ → List ℕ
fault_line file line why =
    file ++ (codes " " ++ (decimal line ++ (codes " " ++ (why ++ codes "\n"))))

abbrev pub limit_line : ℕ → List ℕ
limit_line limit = codes "limit " ++ (decimal limit ++ codes "\n")

abbrev pub load_line : LoadFault → List ℕ
load_line Failed = codes "files\n"
load_line Missing = codes "missing\n"
load_line (TooLong limit) = limit_line limit
load_line (Aff line why) = fault_line (codes "aff") line (aff_why_name why)
load_line (Dic line why) = fault_line (codes "dic") line (dic_cause_name why)
load_line LoadWanting = codes "memory\n"

abbrev pub document_line : DocumentFault → List ℕ
document_line (NotUtf8 line) = codes "doc " ++ (decimal line ++ codes "\n")
document_line (TooManyParagraphs limit) = limit_line limit
document_line (LongParagraph limit) = limit_line limit
document_line ReportWanting = codes "memory\n"

unfoldable pub last_line : Failure → List ℕ
last_line Words = codes "affedit: words\n"
last_line (Load fault) = load_line fault
last_line (Own line why) = fault_line (codes "own") line (own_cause_name why)
last_line (Document fault) = document_line fault
last_line (ManyForms limit) = limit_line limit
last_line (Script line) = codes "script " ++ (decimal line ++ codes "\n")
last_line Input = codes "input\n"
last_line (Limit limit) = limit_line limit
last_line NoMemory = codes "memory\n"

-- ---- faults as failures: want of memory is one thing

abbrev pub failure_of : LoadFault → Failure
failure_of Failed = Load Failed
failure_of Missing = Load Missing
failure_of (TooLong limit) = Load (TooLong limit)
failure_of (Aff line why) = Load (Aff line why)
failure_of (Dic line why) = Load (Dic line why)
failure_of LoadWanting = NoMemory

abbrev pub own_failure : OwnFaultAtLine → Failure
own_failure fault = Own fault.line fault.why

-- the failure that a fault of a personal list is told as; want of memory is one thing
abbrev pub failure_of_own : ListFault → Failure
failure_of_own (At line why) = Own line why
failure_of_own ListWanting = NoMemory

abbrev pub document_failure : DocumentFault → Failure
document_failure (NotUtf8 line) = Document (NotUtf8 line)
document_failure (TooManyParagraphs limit) = Document (TooManyParagraphs limit)
document_failure (LongParagraph limit) = Document (LongParagraph limit)
document_failure ReportWanting = NoMemory

-- whether a failure is one of the files or of the document themselves: one is not there or too
-- large, something in it is wrong, or a dictionary has too many forms to be listed
abbrev pub is_fault : Failure → Bool
is_fault (Load Failed) = false
is_fault (Load LoadWanting) = false
is_fault (Load fault) = true
is_fault (Own line why) = true
is_fault (Document ReportWanting) = false
is_fault (Document fault) = true
is_fault (ManyForms limit) = true
is_fault (Script line) = true
is_fault _ = false
