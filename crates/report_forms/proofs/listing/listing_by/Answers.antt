-- The tables are those of the dictionary.
use Rattle.std.proofs.Common.{inl}
use Rattle.outside.specs.lists.AnswerLaws.{gives-fault}
use Rattle.document_report.specs.Given.{printed_by}
use Rattle.file_loading.specs.Due.{MayCome}
use Rattle.file_loading.specs.declared.failure.Failure.TheVariants.{NoMemory}
use Rattle.report_forms.proofs.listing.listing_by.Goals as goal

pub returns-in_err-stems-clause-due : goal.returns-in_err-stems-clause-due
returns-in_err-stems-clause-due c =
    gives-fault MayCome {fault = NoMemory} printed_by c.from_residual.result (inl tt)
    c.from_residual.ensures.1

pub returns-clause-due : goal.returns-clause-due
returns-clause-due c = rw c.in_ok-stems.ensures at c.listing_from.ensures.due
