-- What there is to say of all forms of words.
use Rattle.std.specs.Prelude.{◌≡◌, ℕ, false, ◌||◌, List, Option, Some, None, is_some, if◌then◌else◌}
use Rattle.command_line.specs.declared.requests.Request.{Request}
use Rattle.command_line.specs.declared.requests.Request.TheVariants.{Check, Make, Edit, Listing}
use Rattle.command_line.specs.declared.requests.Request.TheVariants.{Pipe, Team}
use Rattle.file_loading.specs.declared.ending.End.{End}
use Rattle.file_loading.specs.declared.ending.End.TheVariants.{Failed}
use Rattle.file_loading.specs.declared.failure.Failure.TheVariants.{Words}
use Rattle.report_forms.specs.Forms.{check_form, listing_form, make_form}
use Rattle.line_forms.specs.Forms.{edit_form, pipe_form}
use Rattle.team_forms.specs.Forms.{team_form}
use Rattle.file_loading.specs.Forms.{Form, IsAnswerBy, Met}

abbrev pub command_form_of : Option Request → Form
-- words of no form
command_form_of None = record {
  names_files = false;
  reads_input = false;
  opens_desk = false;
  answers = λ met text end. end ≡ Failed Words;
  whole = λ met text end. Unit {0};
}
-- `check AFF DIC FILE` and options
command_form_of (Some (Check names workers)) = check_form names
-- `make START SIZE`
command_form_of (Some (Make asked)) = make_form asked
-- `edit AFF DIC` and options
command_form_of (Some (Edit names workers)) = edit_form names workers
-- `pipe AFF DIC`
command_form_of (Some (Pipe names)) = pipe_form names
-- `team AFF DIC SCRIPT` and `--workers N`
command_form_of (Some (Team names workers)) = team_form names workers
-- `forms AFF DIC`
command_form_of (Some (Listing names)) = listing_form names

-- what words ask for that do without an input and without a desk
abbrev pub without_input : Option Request → Option Request
without_input asked =
    if (command_form_of asked).reads_input || (command_form_of asked).opens_desk then None else asked

-- what words may be answered, by their form
abbrev pub IsAnswerTo : Option Request → Met → List ℕ → End → Type 0
IsAnswerTo asked met = IsAnswerBy (is_some asked) (command_form_of asked) met
