-- The entry goes on to the loop's place at least.
use Rattle.std.proofs.Common.{◌≡◌, ◌++◌, take, drop}
use Rattle.dic_reader.specs.Entries.{before_fields}
use Rattle.dic_reader.proofs.cutting.before_fields.Given as goal

abbrev pub invariant-loop-place : goal.invariant-loop-place
invariant-loop-place l =
    before_fields l.line ≡ take l.place l.line ++ before_fields (drop l.place l.line)
