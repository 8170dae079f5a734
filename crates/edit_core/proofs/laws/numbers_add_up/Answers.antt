-- By the count of what passes a test.
use Rattle.std.proofs.Common.{◌==◌, ◌&&◌, not}
use Rattle.edit_core.specs.Runs.{is_quiet}
use Rattle.edit_core.proofs.RunLaws.{count-append, count-front, count-one, numbers-all}
use Rattle.edit_core.proofs.laws.numbers_add_up.Goals as goal

pub returns-clause-through : goal.returns-clause-through
returns-clause-through c by = count-append (λ entry. entry.by == by)

pub returns-clause-asked_by : goal.returns-clause-asked_by
returns-clause-asked_by c by =
    count-append (λ entry. not (is_quiet entry.event) && (entry.by == by))

pub returns-clause-asked_of : goal.returns-clause-asked_of
returns-clause-asked_of c = count-append (λ entry. not (is_quiet entry.event))

pub returns-clause-front_through : goal.returns-clause-front_through
returns-clause-front_through c by = count-front (λ entry. entry.by == by)

pub returns-clause-front_asked_by : goal.returns-clause-front_asked_by
returns-clause-front_asked_by c by =
    count-front (λ entry. not (is_quiet entry.event) && (entry.by == by))

pub returns-clause-front_asked_of : goal.returns-clause-front_asked_of
returns-clause-front_asked_of c = count-front (λ entry. not (is_quiet entry.event))

pub returns-clause-one_through : goal.returns-clause-one_through
returns-clause-one_through c by = count-one (λ entry. entry.by == by)

pub returns-clause-one_asked_by : goal.returns-clause-one_asked_by
returns-clause-one_asked_by c by =
    count-one (λ entry. not (is_quiet entry.event) && (entry.by == by))

pub returns-clause-one_asked_of : goal.returns-clause-one_asked_of
returns-clause-one_asked_of c = count-one (λ entry. not (is_quiet entry.event))

pub returns-clause-all : goal.returns-clause-all
returns-clause-all c = numbers-all
