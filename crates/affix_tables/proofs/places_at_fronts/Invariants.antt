-- So far the places at the fronts that are shorter than this one are found.
use Rattle.std.proofs.Common.{◌≡◌}
use Rattle.affix_tables.specs.Tables.{fronts_below}
use Rattle.affix_tables.proofs.places_at_fronts.Given as goal

abbrev pub invariant-loop-count : goal.invariant-loop-count
invariant-loop-count l = l.found.items ≡ fronts_below l.table l.word l.count
