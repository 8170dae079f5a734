-- By the count of what passes a test.
use Rattle.edit_core.specs.Runs.{is_entry, is_kind}
use Rattle.edit_core.specs.Events.{kind_of}
use Rattle.edit_core.proofs.RunLaws.{count-append, count-front, count-one}
use Rattle.edit_core.proofs.laws.entries_add_up.Goals as goal

pub returns-clause-by : goal.returns-clause-by
returns-clause-by c asked by front back = count-append (is_entry asked by) front back

pub returns-clause-of : goal.returns-clause-of
returns-clause-of c asked front back =
    count-append (λ entry. is_kind asked (kind_of entry.event)) front back

pub returns-clause-front_by : goal.returns-clause-front_by
returns-clause-front_by c asked by front back = count-front (is_entry asked by) front back

pub returns-clause-front_of : goal.returns-clause-front_of
returns-clause-front_of c asked front back =
    count-front (λ entry. is_kind asked (kind_of entry.event)) front back

pub returns-clause-one_by : goal.returns-clause-one_by
returns-clause-one_by c asked by entry = count-one (is_entry asked by) entry

pub returns-clause-one_of : goal.returns-clause-one_of
returns-clause-one_of c asked entry = count-one (λ entry. is_kind asked (kind_of entry.event)) entry
