-- So far the places of the groups before the loop's number are added.
use Rattle.std.proofs.Common.{◌≡◌, ◌++◌, take}
use Rattle.affix_tables.specs.Tables.{all_places}
use Rattle.affix_tables.proofs.add_places.Given as goal

abbrev pub invariant-loop-number : goal.invariant-loop-number
invariant-loop-number l =
    l.found.items ≡ l.initial.found.items ++ all_places (take l.number l.groups)
