-- What is marked is reached from the place.
use Rattle.compound_words.proofs.ReachLemmas.{reaches-by}
use Rattle.compound_words.proofs.reach.reach_from.Goals as goal

pub returns : goal.returns
returns c =
    reaches-by c.place_at.result c.place_at.ensures c.reach_ends.ensures
