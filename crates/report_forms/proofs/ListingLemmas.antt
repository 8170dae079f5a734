-- What is due of a dictionary whose forms are listed.
use Rattle.std.proofs.Common.{◌≡◌, ◌≤◌, Bool, true, false, length, nat_le, refl, ap, inl, inr}
use Rattle.std.proofs.Common.{Option, Result, Ok, Err, IfErr, if◌then◌else◌}
use Rattle.std.proofs.lemmas.Bool.{le-leb, lt-leb}
use Rattle.outside.specs.lists.Answers.{FailsAs, GivesDue}
use Rattle.outside.specs.Files.{Folder}
use Rattle.spell_types.specs.declared.Lexicon.{Lexicon}
use Rattle.form_lister.specs.Forms.{IsFaultOf, forms_of}
use Rattle.form_lister.specs.declared.faults.FormsFault.{FormsFault}
use Rattle.form_lister.specs.declared.faults.FormsFault.TheVariants.{TooMany}
use Rattle.form_lister.specs.declared.faults.FormsFault.TheVariants.{NoMemory as ListingWanting}
use Rattle.console_board.specs.Transcripts.{IsThere}
use Rattle.dictionary_swap.specs.Loads.{DictionaryFiles}
use Rattle.document_report.specs.Given.{printed_by}
use Rattle.document_report.specs.Reports.{Printed}
use Rattle.document_report.specs.declared.printing.Report.{Report}
use Rattle.file_loading.specs.Due.{MayCome, base_due}
use Rattle.report_forms.specs.Due.{forms_due, listing_due}
use Rattle.report_forms.specs.Listings.{failure_of_forms, listing}
use Rattle.report_forms.specs.Operands.{ListedFiles}
use Rattle.file_loading.specs.declared.failure.Failure.{Failure}
use Rattle.file_loading.specs.declared.failure.Failure.TheVariants.{ManyForms}
use Rattle.report_forms.specs.declared.limits.TheConstants.{MOST_FORMS}
use Rattle.file_loading.specs.DueLaws.{IsTold, base-told, then-told}

-- the forms of a dictionary, where they are so few or not
abbrev few_or_not : Lexicon → Bool → Result Printed Failure
few_or_not lexicon few =
    if few then Ok (listing (forms_of lexicon)) else Err (ManyForms MOST_FORMS)

few-told : (lexicon : Lexicon) (few : Bool) → IfErr (few_or_not lexicon few) IsTold
few-told lexicon true = tt
few-told lexicon false = inr refl

listing-told : (lexicon : Lexicon) → IfErr (listing_due lexicon) IsTold
unfolding listing_due
listing-told lexicon = few-told lexicon (nat_le (length (forms_of lexicon)) MOST_FORMS)

pub forms-told : (there : DictionaryFiles) → IfErr (forms_due there) IsTold
unfolding forms_due
forms-told there = then-told (base_due there) _ (base-told there) listing-told

-- where they are few they are due
pub listing-few : (lexicon : Lexicon) → length (forms_of lexicon) ≤ MOST_FORMS
    → listing_due lexicon ≡ Ok (listing (forms_of lexicon))
unfolding listing_due
listing-few lexicon few =
    ap (few_or_not lexicon) (le-leb (length (forms_of lexicon)) MOST_FORMS few)

-- and where they are not listed, that is due, or memory is wanting
pub listing-fails : (lexicon : Lexicon) (fault : FormsFault) → IsFaultOf lexicon MOST_FORMS fault
    → FailsAs MayCome (listing_due lexicon) (failure_of_forms fault)
unfolding listing_due
listing-fails lexicon (TooMany limit) (is, many) =
    rw is (inr (ap (few_or_not lexicon) (lt-leb (length (forms_of lexicon)) MOST_FORMS many)))
listing-fails lexicon ListingWanting is = inl tt

-- what is due of the files that there are
abbrev pub IsListed : Option Folder → ListedFiles → Result Report Failure → Type 0
IsListed told names result = (there : DictionaryFiles) × IsThere told names.aff names.dic there
    × GivesDue MayCome printed_by (forms_due there) result
