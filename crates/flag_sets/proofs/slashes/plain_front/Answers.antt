-- The text is parted where its first slash or backslash stands.
use Rattle.std.proofs.Common.{◌∙◌, ap}
use Rattle.std.specs.List.{prefix_len}
use Rattle.flag_sets.specs.Slashes.{is_plain}
use Rattle.flag_sets.proofs.SlashLemmas.{front-cut, front-is, parted}
use Rattle.flag_sets.proofs.SlashLemmas.{parted-before, parted-behind}
use Rattle.flag_sets.proofs.slashes.plain_front.Goals as goal

pub range-requires-clause-end_boundary : goal.range-requires-clause-end_boundary
range-requires-clause-end_boundary c =
    front-cut c.args.text.now c.as_bytes.result.now c.plain_len-end.result c.as_bytes.ensures.value
    c.plain_len-end.ensures.plain c.plain_len-end.ensures.within

pub range_from-requires : goal.range_from-requires
range_from-requires c = λ _.
    front-cut c.args.text.now c.as_bytes.result.now c.plain_len-end.result c.as_bytes.ensures.value
    c.plain_len-end.ensures.plain c.plain_len-end.ensures.within

pub returns-clause-front : goal.returns-clause-front
returns-clause-front c =
    front-is c.args.text.now c.range.result.now c.plain_len-end.result
    (c.plain_len-end.ensures.plain ∙ ap (prefix_len is_plain) c.as_bytes.ensures.value)
    c.range.ensures.value

pub returns-clause-parts : goal.returns-clause-parts
returns-clause-parts c =
    parted c.args.text.now c.range.result.now c.range_from.result.now c.plain_len-end.result
    (c.plain_len-end.ensures.plain ∙ ap (prefix_len is_plain) c.as_bytes.ensures.value)
    (front-is c.args.text.now c.range.result.now c.plain_len-end.result
    (c.plain_len-end.ensures.plain ∙ ap (prefix_len is_plain) c.as_bytes.ensures.value)
    c.range.ensures.value)
    c.range_from.ensures.value

pub returns-clause-before : goal.returns-clause-before
returns-clause-before c =
    parted-before c.args.text.now c.range.result.now c.range_from.result.now
    (parted c.args.text.now c.range.result.now c.range_from.result.now c.plain_len-end.result
    (c.plain_len-end.ensures.plain ∙ ap (prefix_len is_plain) c.as_bytes.ensures.value)
    (front-is c.args.text.now c.range.result.now c.plain_len-end.result
    (c.plain_len-end.ensures.plain ∙ ap (prefix_len is_plain) c.as_bytes.ensures.value)
    c.range.ensures.value)
    c.range_from.ensures.value)
    c.range.utf8

pub returns-clause-behind : goal.returns-clause-behind
returns-clause-behind c =
    parted-behind c.args.text.now c.range_from.result.now c.plain_len-end.result
    (c.plain_len-end.ensures.plain ∙ ap (prefix_len is_plain) c.as_bytes.ensures.value)
    c.range_from.ensures.value
