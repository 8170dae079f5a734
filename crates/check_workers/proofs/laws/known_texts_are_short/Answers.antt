-- The paragraphs of each board of a history are short.
use Rattle.check_workers.proofs.Known.{known-short}
use Rattle.check_workers.proofs.laws.known_texts_are_short.Goals as goal

pub returns : goal.returns
returns c run id rev dict text lexicon is knows =
    known-short c.fronts_are_runs.ensures.front c.fronts_are_runs.ensures.valid run id rev dict
    text lexicon is knows
