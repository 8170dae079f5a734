-- What is due of files: what the program is to print of them, or why there is nothing to print.
use Rattle.std.specs.Prelude.{◌≡◌, ℕ, List, codes, Option, Some, None, IsSomeAnd, Result, Ok, Err}
use Rattle.std.specs.Prelude.{length, nat_le, if◌then◌else◌}
use Rattle.outside.specs.lists.Answers.{◌>>=◌, failing}
use Rattle.outside.specs.Files.{Folder}
use Rattle.spell_types.specs.declared.Lexicon.{Lexicon}
use Rattle.dictionary_swap.specs.Loads.{DictionaryFiles}
use Rattle.document_report.specs.Documents.{document_due}
use Rattle.document_report.specs.Reports.{Printed, report_of, summary_of}
use Rattle.form_lister.specs.Forms.{forms_of}
use Rattle.work_maker.specs.Made.{aff_bytes, dic_bytes, text_bytes}
use Rattle.file_loading.specs.Failures.{document_failure}
use Rattle.report_forms.specs.Listings.{listing}
use Rattle.report_forms.specs.Operands.{CheckedFiles, StartAndSize}
use Rattle.file_loading.specs.declared.failure.Failure.{Failure}
use Rattle.file_loading.specs.declared.failure.Failure.TheVariants.{ManyForms}
use Rattle.report_forms.specs.declared.limits.TheConstants.{DOCUMENT_LIMIT, MOST_FORMS}
use Rattle.file_loading.specs.Due.{IsFileThere, IsOwnThere, OwnFiles, base_due, bytes_due_of_file}
use Rattle.file_loading.specs.Due.{in_force_due}

-- what there is of these and of a document
pub record Found : Type 0 where
  pub dictionary : OwnFiles
  pub document : Option (List ℕ)

-- what is due of a document, by a dictionary
unfoldable pub printed_due : (Lexicon → List (List ℕ) → Printed) → Lexicon → List ℕ
    → Result Printed Failure
printed_due printed lexicon document =
    failing document_failure (document_due printed lexicon document)

-- the document is checked by the dictionary in force: the first thing that stops it, or what is to be
-- printed of it
unfoldable pub checked_due : (Lexicon → List (List ℕ) → Printed) → Found → Result Printed Failure
checked_due printed found = do
  lexicon ← in_force_due found.dictionary
  document ← bytes_due_of_file DOCUMENT_LIMIT found.document
  printed_due printed lexicon document

-- the words of `check` ask for the report on a document
abbrev pub check_due : Found → Result Printed Failure
check_due found = checked_due report_of found

-- the bytes that are made
abbrev pub bytes_made_by : StartAndSize → Found
bytes_made_by asked =
    record {
      dictionary = record {
        dictionary = record { aff = Some aff_bytes; dic = Some (dic_bytes asked.size) };
        own = None;
      };
      document = Some (text_bytes asked.start asked.size);
    }

-- a folder is told that has the files of the dictionary that is made, under the names that they are
-- given in memory
abbrev pub HasMade : ℕ → Option Folder → Type 0
HasMade size told =
    IsSomeAnd told
    (λ folder. (folder (codes "made.aff") ≡ Some aff_bytes)
    × (folder (codes "made.dic") ≡ Some (dic_bytes size)))

-- the words of `make` ask for a summary of what is made
abbrev pub make_due : StartAndSize → Result Printed Failure
make_due asked = checked_due (summary_of asked.size) (bytes_made_by asked)

-- what is due of a dictionary whose forms are to be listed: all of them, if they are no more than
-- are listed
unfoldable pub listing_due : Lexicon → Result Printed Failure
listing_due lexicon =
    if nat_le (length (forms_of lexicon)) MOST_FORMS then Ok (listing (forms_of lexicon))
    else Err (ManyForms MOST_FORMS)

-- the words of `forms` ask for that, of the two files of a dictionary
unfoldable pub forms_due : DictionaryFiles → Result Printed Failure
forms_due files = do
  lexicon ← base_due files
  listing_due lexicon

-- what there is of the names of `check`
pub record AreInputsFound (told : Option Folder) (names : CheckedFiles) (found : Found) : Type 0 where
  pub dictionary : IsOwnThere told names.dictionary found.dictionary
  pub document : IsFileThere told names.document found.document
