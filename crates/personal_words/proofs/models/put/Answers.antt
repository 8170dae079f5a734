-- The map after an insertion, at each text.
use Rattle.personal_words.proofs.models.put.Goals as goal

pub returns : goal.returns
returns c = λ text.
    c.in_ok-insert.ensures.updates.0 text
