-- A lemma on the definitions alone.
use Rattle.mark_types.proofs.Standing.{words_of-stand}
use Rattle.mark_types.proofs.words_stand_in_their_text.Goals as goal

pub returns : goal.returns
returns c = words_of-stand
