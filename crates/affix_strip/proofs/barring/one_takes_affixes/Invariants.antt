-- None before the loop's place passes.
use Rattle.std.proofs.Common.{◌≡◌, drop}
use Rattle.std.specs.List.{list_any}
use Rattle.affix_strip.specs.Tables.{takes_affixes}
use Rattle.affix_strip.proofs.barring.one_takes_affixes.Given as goal

abbrev pub invariant-loop-place : goal.invariant-loop-place
invariant-loop-place l =
    list_any (takes_affixes l.lexicon l.classes) (drop l.place l.lexicon.entries)
    ≡ list_any (takes_affixes l.lexicon l.classes) l.lexicon.entries
