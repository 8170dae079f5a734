-- Of two boards of a history one is no later than the other.
use Rattle.check_workers.proofs.Known.{dictionaries-agree}
use Rattle.check_workers.proofs.laws.versions_name_dictionaries.Goals as goal

pub returns : goal.returns
returns c run dict one other is first second =
    dictionaries-agree c.fronts_are_runs.ensures.front c.runs_only_grow.ensures.run run dict one
    other is first second
