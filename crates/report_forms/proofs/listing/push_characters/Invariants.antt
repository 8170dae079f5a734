-- What is added already and what is left are all that is added.
use Rattle.std.proofs.Common.{◌≡◌, ◌++◌, drop, encode_utf8_all}
use Rattle.std.specs.String.{string_bytes}
use Rattle.report_forms.proofs.listing.push_characters.Given as goal

abbrev pub invariant-loop-c : goal.invariant-loop-c
invariant-loop-c l = string_bytes l.text ++ encode_utf8_all (drop l.c-index l.characters)
    ≡ string_bytes l.fn.text ++ encode_utf8_all l.characters
