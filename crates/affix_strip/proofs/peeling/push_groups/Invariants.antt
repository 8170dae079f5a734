-- So far what the groups before the loop's number leave is added.
use Rattle.std.proofs.Common.{◌≡◌, ◌++◌, map, take}
use Rattle.affix_strip.specs.Peeling.{peeled_by}
use Rattle.affix_strip.proofs.peeling.push_groups.Given as goal

abbrev pub invariant-loop-number : goal.invariant-loop-number
invariant-loop-number l =
    l.found.items ≡ l.initial.found.items ++ map (peeled_by l.side l.kept) (take l.number l.groups)
