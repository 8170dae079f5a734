-- The place of the first line feed is that of the word.
use Rattle.std.proofs.Common.{◌+◌, ◌∙◌, ap}
use Rattle.std.proofs.lemmas.List.{take_rest}
use Rattle.text_lines.specs.Lines.{is_line_feed}
use Rattle.std.specs.List.{position_or_len}
use Rattle.text_lines.proofs.LineLemmas.{place_of_line_feed}
use Rattle.text_lines.proofs.end_of.Goals as goal

pub returns-clause-end : goal.returns-clause-end
returns-clause-end c =
    ap (λ n. c.args.place + n)
    (c.unwrap_or.ensures ∙ place_of_line_feed _ c.find_byte.result c.find_byte.ensures
    ∙ ap (position_or_len is_line_feed) (take_rest c.args.bytes.now c.args.place))
