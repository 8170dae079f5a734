-- The dictionary is due, and then its listing.
use Rattle.std.proofs.Common.{subst}
use Rattle.outside.specs.lists.AnswerLaws.{fails-then, gives-fault, gives-then}
use Rattle.document_report.specs.Given.{printed_by}
use Rattle.file_loading.specs.Due.{MayCome}
use Rattle.report_forms.specs.Due.{forms_due, listing_due}
use Rattle.report_forms.specs.Operands.{ListedFiles}
use Rattle.report_forms.proofs.ListingLemmas.{IsListed}
use Rattle.report_forms.proofs.listing.outcome_of.Goals as goal

pub returns-in_err-base-clause-due : goal.returns-in_err-base-clause-due
unfolding forms_due
returns-in_err-base-clause-due g c =
    let told = g.F.Files.told c.args.files.now in
    let there = c.in_err-base.ensures.due in
    let result = c.from_residual.result in
    subst (λ (names : ListedFiles). IsListed told names result) c.names.view_is (
      there.0,
      there.1,
      gives-fault MayCome printed_by result (fails-then MayCome listing_due there.2)
          c.from_residual.ensures.1,
    )

pub returns-clause-due : goal.returns-clause-due
unfolding forms_due
returns-clause-due g c =
    let told = g.F.Files.told c.args.files.now in
    let there = c.in_ok-base.ensures.due in
    let result = c.listing_by.result in
    subst (λ (names : ListedFiles). IsListed told names result) c.names.view_is (
      there.0,
      there.1,
      gives-then MayCome listing_due printed_by result there.2 c.listing_by.ensures.due,
    )
