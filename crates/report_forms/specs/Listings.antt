-- What is printed of the forms of a dictionary.
use Rattle.std.specs.Prelude.{ℕ, List, ◌++◌, codes, encode_utf8_all, length}
use Rattle.std.specs.Fmt.{decimal}
use Rattle.std.specs.List.{flat_map}
use Rattle.document_report.specs.Reports.{Printed}
use Rattle.form_lister.specs.declared.faults.FormsFault.{FormsFault}
use Rattle.form_lister.specs.declared.faults.FormsFault.TheVariants.{TooMany}
use Rattle.form_lister.specs.declared.faults.FormsFault.TheVariants.{NoMemory as ListingWanting}
use Rattle.file_loading.specs.declared.failure.Failure.{Failure}
use Rattle.file_loading.specs.declared.failure.Failure.TheVariants.{NoMemory, ManyForms}

-- a form stands on a line of its own
abbrev pub form_line : List ℕ → List ℕ
form_line word = encode_utf8_all word ++ codes "\n"

-- the lines of some forms, in their order
abbrev pub form_lines : List (List ℕ) → List ℕ
form_lines words = flat_map form_line words

-- how many forms there are
abbrev pub form_count_line : ℕ → List ℕ
form_count_line count = decimal count ++ codes " forms\n"

-- each form, and then how many there are; none is marked
abbrev pub listing : List (List ℕ) → Printed
listing words = record {
  text = form_lines words ++ form_count_line (length words);
  marks = 0;
  words = length words;
}

abbrev pub failure_of_forms : FormsFault → Failure
failure_of_forms (TooMany limit) = ManyForms limit
failure_of_forms ListingWanting = NoMemory
