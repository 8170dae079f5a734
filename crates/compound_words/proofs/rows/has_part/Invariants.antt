-- The rests behind the loop's place are left.
use Rattle.std.proofs.Common.{length, ◌-◌}
use Rattle.compound_words.proofs.rows.has_part.Given as goal

abbrev pub decreases-loop-place : goal.decreases-loop-place
decreases-loop-place l = length l.rests - l.place
