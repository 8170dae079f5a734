-- The forms are listed, or why they are not.
use Rattle.std.proofs.Common.{◌∙◌, ap, subst, sym, Ok}
use Rattle.outside.specs.lists.Answers.{FailsAs}
use Rattle.file_loading.specs.Due.{MayCome}
use Rattle.report_forms.specs.Due.{listing_due}
use Rattle.report_forms.specs.Listings.{listing}
use Rattle.report_forms.proofs.ListingLemmas.{listing-fails, listing-few}
use Rattle.report_forms.proofs.listing.listing_from.Goals as goal

pub returns-in_ok-printed-in-Ok-clause-due : goal.returns-in_ok-printed-in-Ok-clause-due
returns-in_ok-printed-in-Ok-clause-due c =
    listing-few c.args.stems.now c.in-Ok.ensures.few
    ∙ ap Ok (ap listing (sym (c.deref.ensures.value ∙ c.in-Ok.ensures.forms))
    ∙ sym c.in_ok-printed-in-Ok.ensures)

pub returns-in-Err-clause-due : goal.returns-in-Err-clause-due
returns-in-Err-clause-due c =
    subst (FailsAs MayCome (listing_due c.args.stems.now)) (sym c.failure_of_forms.ensures)
    (listing-fails c.args.stems.now c.in-Err.fault c.in-Err.ensures.fault)
