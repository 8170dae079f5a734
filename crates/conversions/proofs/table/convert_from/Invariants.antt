-- What is written and the rest, converted, make the whole.
use Rattle.std.proofs.Common.{◌≡◌, ◌≤◌, ◌-◌, ◌++◌, length, take, drop}
use Rattle.spell_types.specs.Conversions.{converted}
use Rattle.conversions.proofs.table.convert_from.Given as goal

abbrev pub invariant-loop-place : goal.invariant-loop-place
invariant-loop-place l = record {
  within : l.place ≤ length l.word;
  whole : l.made ++ converted l.table (drop l.place l.word) ≡ take l.start l.word
      ++ converted l.table (drop l.start l.word);
}

abbrev pub decreases-loop-place : goal.decreases-loop-place
decreases-loop-place l = length l.word - l.place
