-- A text may be cut behind its spaces.
use Rattle.personal_words.proofs.CuttingLemmas.{cut-behind_spaces}
use Rattle.personal_words.proofs.cutting.without_leading.Goals as goal

pub range_from-requires : goal.range_from-requires
range_from-requires c =
    cut-behind_spaces c.args.text.now c.as_bytes.result.now c.leading_spaces.result c.utf8.text
    c.as_bytes.ensures.value
    c.leading_spaces.ensures.spaces c.leading_spaces.ensures.within
