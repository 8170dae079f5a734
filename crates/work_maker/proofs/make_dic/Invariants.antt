-- So far the first line and the entries before the loop's number are there.
use Rattle.std.proofs.Common.{◌≡◌, ◌≤◌, ◌+◌, ◌*◌, ◌∷◌, map, length}
use Rattle.std.specs.Fmt.{decimal}
use Rattle.std.specs.List.{range_with_len}
use Rattle.work_maker.specs.Made.{ended, made_entry}
use Rattle.work_maker.proofs.make_dic.Given as goal

abbrev pub invariant-loop-number : goal.invariant-loop-number
invariant-loop-number l = record {
  bytes : l.made.items ≡ ended (decimal l.fn.size ∷ map made_entry (range_with_len 0 l.number));
  small : length l.made.items ≤ 10 * l.number + 6;
}
