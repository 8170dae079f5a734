-- So far the items are those of the lines before the loop's place, and none of them has a fault.
use Rattle.std.proofs.Common.{take}
use Rattle.personal_words.specs.Faults.{listed_items}
use Rattle.personal_words.proofs.TurnLemmas.{AreRead}
use Rattle.personal_words.proofs.read_items.Given as goal

abbrev pub invariant-loop-line : goal.invariant-loop-line
invariant-loop-line l =
    AreRead l.affixes l.limit (listed_items l.bytes (take l.line-index l.lines)) l.items
