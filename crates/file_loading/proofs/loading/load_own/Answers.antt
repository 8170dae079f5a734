-- A list that is not named is empty.
use Rattle.std.proofs.Common.{ap, refl, sym, None, Ok, Some}
use Rattle.file_loading.specs.Due.{own_due}
use Rattle.file_loading.proofs.loading.load_own.Goals as goal

pub returns-in-None-clause-due : goal.returns-in-None-clause-due
unfolding own_due
returns-in-None-clause-due g c = (None, rw c.in-None.is refl, ap Ok (sym c.new.ensures))

pub returns-in-Some-clause-due : goal.returns-in-Some-clause-due
unfolding own_due
returns-in-Some-clause-due g c =
    let due = c.load_list.ensures.due in
    (Some due.0, rw c.in-Some.is (due.0, refl, due.1), due.2)
