-- A text may be cut before its spaces.
use Rattle.std.proofs.Common.{ap, length, arith}
use Rattle.personal_words.proofs.CuttingLemmas.{cut-before_spaces}
use Rattle.personal_words.proofs.cutting.without_trailing.Goals as goal

pub range-requires-clause-end_boundary : goal.range-requires-clause-end_boundary
range-requires-clause-end_boundary c =
    cut-before_spaces c.args.text.now c.as_bytes.result.now c.end_of_text.result
    c.as_bytes.ensures.value
    (omega (arith, c.end_of_text.ensures.spaces, ap length c.as_bytes.ensures.value))
    c.end_of_text.ensures.begins
