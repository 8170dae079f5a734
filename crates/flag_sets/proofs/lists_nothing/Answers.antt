-- Only the empty text lists nothing.
use Rattle.flag_sets.proofs.TextLemmas.{tells_nothing}
use Rattle.flag_sets.proofs.lists_nothing.Goals as goal

pub returns : goal.returns
returns c =
    tells_nothing c.args.kind c.args.text.now c.is_empty.result c.utf8.text c.is_empty.ensures
