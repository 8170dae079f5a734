-- What is added already and the lines of the forms that are left are all that is added.
use Rattle.std.proofs.Common.{◌≡◌, ◌++◌, drop}
use Rattle.std.specs.String.{string_bytes}
use Rattle.report_forms.specs.Listings.{form_lines}
use Rattle.report_forms.proofs.listing.push_forms.Given as goal

abbrev pub invariant-loop-word : goal.invariant-loop-word
invariant-loop-word l = string_bytes l.text ++ form_lines (drop l.word-index l.words)
    ≡ string_bytes l.fn.text ++ form_lines l.words
