-- What `check`, `forms` and `make` give or fail with, step by step, is what is due.
use Rattle.std.proofs.Common.{◌≡◌, ◌∙◌, inl, inr, ℕ, ◌≤◌, length, nat_le, true, List, Option, Some}
use Rattle.std.proofs.Common.{Result, Ok, Err, IfErr, IsErrAnd, refl, sym, ap, subst, if◌then◌else◌}
use Rattle.std.proofs.lemmas.Bool.{le-leb}
use Rattle.outside.specs.lists.AnswerLaws.{fails-then, gives-fault, gives-then}
use Rattle.outside.specs.lists.Answers.{◌>>=◌, failing, FailsAs, GivesDue}
use Rattle.outside.specs.Files.{Folder, file_due}
use Rattle.outside.specs.declared.faults.FileFault.TheVariants.{TooLong as FileTooLong}
use Rattle.spell_types.specs.declared.Lexicon.{Lexicon}
use Rattle.personal_words.specs.Dictionaries.{OwnSeen, in_force}
use Rattle.document_report.specs.Documents.{MayComeOfDocuments}
use Rattle.document_report.specs.Given.{printed_by}
use Rattle.document_report.specs.Reports.{Printed, report_of}
use Rattle.document_report.specs.declared.fault.DocumentFault.{DocumentFault}
use Rattle.document_report.specs.declared.fault.DocumentFault.TheVariants.{NoMemory as ReportWanting}
use Rattle.document_report.specs.declared.printing.Report.{Report}
use Rattle.report_forms.specs.Due.{Found, AreInputsFound, check_due, checked_due, printed_due}
use Rattle.file_loading.specs.Due.{IsFileThere, IsOwnThere, MayCome, OwnFiles, bytes_due_of_file}
use Rattle.file_loading.specs.Due.{dictionary_due, in_force_due}
use Rattle.file_loading.specs.Failures.{document_failure}
use Rattle.report_forms.specs.Operands.{CheckedFiles}
use Rattle.file_loading.specs.Operands.{DictionaryNamed}
use Rattle.file_loading.specs.declared.failure.Failure.{Failure}
use Rattle.report_forms.specs.declared.limits.TheConstants.{DOCUMENT_LIMIT}
use Rattle.file_loading.specs.DueLaws.{IsTold, any-file, bytes-told, file_failure, in-force-told}
use Rattle.file_loading.specs.DueLaws.{then-told}
use Rattle.file_loading.specs.DueLaws.{failing-told}

-- ---- the document

pub report-comes : (fault : DocumentFault) → MayComeOfDocuments fault
    → MayCome (document_failure fault)
report-comes ReportWanting comes = tt
report-comes _ comes = absurd comes

report-told : (fault : DocumentFault) → IsTold (document_failure fault)
report-told ReportWanting = inl tt
report-told _ = inr refl

pub checked-told : (printed : Lexicon → List (List ℕ) → Printed) (found : Found)
    → IfErr (checked_due printed found) IsTold
unfolding checked_due printed_due
checked-told printed found =
    then-told (in_force_due found.dictionary) _ (in-force-told found.dictionary) (λ lexicon.
    then-told (bytes_due_of_file DOCUMENT_LIMIT found.document) _
    (bytes-told DOCUMENT_LIMIT found.document)
    (λ document. failing-told document_failure report-told _))

-- ---- the files of a check

-- both together
found-both : (told : Option Folder) (names : CheckedFiles) (there : OwnFiles)
    (file : Option (List ℕ)) → IsOwnThere told names.dictionary there
    → IsFileThere told names.document file
    → AreInputsFound told names (record { dictionary = there; document = file })
found-both told names there file is also = record { dictionary = is; document = also }

-- what is due of the files that there are
abbrev pub IsChecked : Option Folder → CheckedFiles → Result Report Failure → Type 0
IsChecked told names result = (found : Found) × AreInputsFound told names found
    × GivesDue MayCome printed_by (check_due found) result

-- what is due of a base and a list is so of the dictionary in force, and so are their faults
pub parts-in-force : (told : Option Folder) (names : DictionaryNamed) {parts : OwnSeen}
    → (there : OwnFiles) × IsOwnThere told names there × (dictionary_due there ≡ Ok parts)
    → (there : OwnFiles) × IsOwnThere told names there
    × (in_force_due there ≡ Ok (in_force parts))
unfolding in_force_due
parts-in-force told names (there, is, due) =
    (there, is, ap (λ due. due >>= (λ dictionary. Ok (in_force dictionary))) due)

pub parts-not-loaded : (told : Option Folder) (names : DictionaryNamed) {failure : Failure}
    → (there : OwnFiles) × IsOwnThere told names there
    × FailsAs MayCome (dictionary_due there) failure
    → (there : OwnFiles) × IsOwnThere told names there
    × FailsAs MayCome (in_force_due there) failure
unfolding in_force_due
parts-not-loaded told names (there, is, fails) = (there, is, fails-then MayCome _ fails)

-- the dictionary is not loaded
pub check-not-loaded : (told : Option Folder) (names : CheckedFiles) {failure : Failure}
    (result : Result Report Failure)
    → (there : OwnFiles) × IsOwnThere told names.dictionary there
    × FailsAs MayCome (in_force_due there) failure
    → IsErrAnd result (λ other. other ≡ failure) → IsChecked told names result
unfolding checked_due
check-not-loaded told names result (there, is, fails) fault =
    let file = any-file told names.document in
    let due = fails-then MayCome _ fails in
    let both = found-both told names there file.0 is file.1 in
    (_, both, gives-fault MayCome printed_by result due fault)

-- the document is not loaded
pub check-no-document : (told : Option Folder) (names : CheckedFiles) {lexicon : Lexicon}
    {failure : Failure} (result : Result Report Failure)
    → (there : OwnFiles) × IsOwnThere told names.dictionary there
    × (in_force_due there ≡ Ok lexicon)
    → (file : Option (List ℕ)) × IsFileThere told names.document file
    × FailsAs MayCome (bytes_due_of_file DOCUMENT_LIMIT file) failure
    → IsErrAnd result (λ other. other ≡ failure) → IsChecked told names result
unfolding checked_due
check-no-document told names result (there, is, due) (file, also, fails) fault = (
  _,
  found-both told names there file is also,
  gives-then MayCome _ printed_by result due
      (gives-fault MayCome printed_by result (fails-then MayCome _ fails) fault),
)

-- both are, and the report is what is due
pub check-reported : (told : Option Folder) (names : CheckedFiles) {lexicon : Lexicon}
    {document : List ℕ} (result : Result Report Failure)
    → (there : OwnFiles) × IsOwnThere told names.dictionary there
    × (in_force_due there ≡ Ok lexicon)
    → (file : Option (List ℕ)) × IsFileThere told names.document file
    × (bytes_due_of_file DOCUMENT_LIMIT file ≡ Ok document)
    → GivesDue MayCome printed_by (printed_due report_of lexicon document) result
    → IsChecked told names result
unfolding checked_due
check-reported told names result (there, is, due) (file, also, bytes) gives =
    let document = gives-then MayCome _ printed_by result bytes gives in
    let both = found-both told names there file is also in
    (_, both, gives-then MayCome _ printed_by result due document)

-- bytes that are few enough are due
pub bytes-made : (bytes given : List ℕ) → given ≡ bytes → length given ≤ DOCUMENT_LIMIT
    → bytes_due_of_file DOCUMENT_LIMIT (Some bytes) ≡ Ok given
unfolding bytes_due_of_file file_due
bytes-made bytes given same few =
    let fits : nat_le (length bytes) DOCUMENT_LIMIT ≡ true =
    le-leb (length bytes) DOCUMENT_LIMIT (subst (λ b. length b ≤ DOCUMENT_LIMIT) same few)
    in
    ap (λ fits. failing (file_failure DOCUMENT_LIMIT) (if fits then Ok bytes else Err FileTooLong)) fits
    ∙ ap Ok (sym same)
