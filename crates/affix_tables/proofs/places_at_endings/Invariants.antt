-- So far the places at the endings that are shorter than this one are found.
use Rattle.std.proofs.Common.{◌≡◌}
use Rattle.affix_tables.specs.Tables.{endings_below}
use Rattle.affix_tables.proofs.places_at_endings.Given as goal

abbrev pub invariant-loop-count : goal.invariant-loop-count
invariant-loop-count l = l.found.items ≡ endings_below l.table l.word l.count
