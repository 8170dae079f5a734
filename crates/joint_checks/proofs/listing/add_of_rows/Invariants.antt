-- So far the joints of the rows before the loop's place were added.
use Rattle.std.proofs.Common.{◌≡◌, fold, take}
use Rattle.joint_checks.specs.Listing.{is_joint_between, with_row}
use Rattle.joint_checks.proofs.listing.add_of_rows.Given as goal

abbrev pub invariant-loop-row : goal.invariant-loop-row
invariant-loop-row l =
    l.found.items ≡ fold (with_row (is_joint_between l.two)) l.initial.found.items (take l.row-index l.rows)
