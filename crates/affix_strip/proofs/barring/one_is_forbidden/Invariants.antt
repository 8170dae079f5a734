-- None before the loop's place passes.
use Rattle.std.proofs.Common.{◌≡◌, drop}
use Rattle.std.specs.List.{list_any}
use Rattle.affix_strip.specs.Tables.{is_forbidden_entry}
use Rattle.affix_strip.proofs.barring.one_is_forbidden.Given as goal

abbrev pub invariant-loop-place : goal.invariant-loop-place
invariant-loop-place l =
    list_any (is_forbidden_entry l.lexicon) (drop l.place l.lexicon.entries)
    ≡ list_any (is_forbidden_entry l.lexicon) l.lexicon.entries
