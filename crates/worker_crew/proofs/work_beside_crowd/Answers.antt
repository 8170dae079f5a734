-- The eyes that are given back are those of the workers.
use Rattle.worker_crew.proofs.Eyes.{given-back}
use Rattle.worker_crew.proofs.work_beside_crowd.Goals as goal

pub returns-clause-worked : goal.returns-clause-worked
returns-clause-worked g c =
    given-back (λ shift. shift.worker.eye) c.crew.inside.shifts.items
    c.perform_crowds.new.others.items c.crew.invariant.0 c.give_back.ensures.items c.crew.view_is
    c.perform_crowds.ensures.others
