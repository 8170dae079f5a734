-- Each step gives what is due.
use Rattle.std.proofs.Common.{◌≡◌, ◌∙◌, ap, inl, subst, sym, Ok}
use Rattle.std.specs.Prelude.{IfOk}
use Rattle.std.specs.Arc.{arc_value}
use Rattle.outside.specs.lists.Answers.{GivesDue}
use Rattle.document_report.specs.Given.{printed_by}
use Rattle.document_report.specs.Reports.{report_of}
use Rattle.personal_words.specs.Dictionaries.{in_force}
use Rattle.file_loading.specs.Due.{MayCome, bytes_due_of_file}
use Rattle.report_forms.specs.Due.{printed_due}
use Rattle.report_forms.specs.Operands.{CheckedFiles}
use Rattle.file_loading.specs.declared.failure.Failure.TheVariants.{NoMemory}
use Rattle.report_forms.specs.declared.limits.TheConstants.{DOCUMENT_LIMIT}
use Rattle.report_forms.proofs.DueLemmas.{IsChecked, check-no-document, check-not-loaded}
use Rattle.report_forms.proofs.DueLemmas.{check-reported, parts-in-force, parts-not-loaded}
use Rattle.report_forms.proofs.check.outcome_of.Goals as goal

pub returns-in_err-parts-clause-due : goal.returns-in_err-parts-clause-due
returns-in_err-parts-clause-due g c =
    let told = g.F.Files.told c.args.files.now in
    subst (λ (names : CheckedFiles). IsChecked told names c.from_residual.result) c.names.view_is
    (check-not-loaded told _ c.from_residual.result
    (parts-not-loaded told _ c.in_err-parts.ensures.due) c.from_residual.ensures.1)

pub returns-in_err-judge-clause-due : goal.returns-in_err-judge-clause-due
returns-in_err-judge-clause-due g c =
    let told = g.F.Files.told c.args.files.now in
    let result = c.from_residual-in_err-judge.result in
    let there = parts-in-force told _ c.in_ok-parts.ensures.due in
    subst (λ (names : CheckedFiles). IsChecked told names result) c.names.view_is
    (check-not-loaded told _ {failure = NoMemory} result (there.0, there.1, inl tt)
    c.from_residual-in_err-judge.ensures.1)

pub returns-in_err-document-clause-due : goal.returns-in_err-document-clause-due
returns-in_err-document-clause-due g c =
    let told = g.F.Files.told c.args.files.now in
    let result = c.from_residual-in_err-document.result in
    let file = rw c.in_ok-parts.ensures.same at c.make_and_load-judge.ensures.due in
    subst (λ (names : CheckedFiles). IsChecked told names result) c.names.view_is
    (check-no-document told _ result (parts-in-force told _ c.in_ok-parts.ensures.due) (
      file.0,
      file.1,
      subst (GivesDue MayCome (λ bytes. bytes.items) (bytes_due_of_file DOCUMENT_LIMIT file.0))
          c.in_err-document.was file.2,
    )
    c.from_residual-in_err-document.ensures.1)

pub returns-clause-due : goal.returns-clause-due
returns-clause-due g c =
    let told = g.F.Files.told c.args.files.now in
    let result = c.report_by.result in
    let there = parts-in-force told _ c.in_ok-parts.ensures.due in
    let file = rw c.in_ok-parts.ensures.same at c.make_and_load-judge.ensures.due in
    let made = subst (λ judge. IfOk judge (λ judge. arc_value judge ≡ in_force c.in_ok-parts.parts))
    c.in_ok-judge.was c.make_and_load-judge.ensures.made in
    subst (λ (names : CheckedFiles). IsChecked told names result) c.names.view_is
    (check-reported told _ result (there.0, there.1, there.2 ∙ ap Ok (sym made)) (
      file.0,
      file.1,
      subst (GivesDue MayCome (λ bytes. bytes.items) (bytes_due_of_file DOCUMENT_LIMIT file.0))
          c.in_ok-document.was file.2,
    )
    (subst (λ document. GivesDue MayCome printed_by
    (printed_due report_of (arc_value c.in_ok-judge.judge) document) result)
    c.deref.ensures.value c.report_by.ensures.due))
