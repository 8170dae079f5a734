-- `from_utf8` answers as the test does.
use Rattle.std.proofs.Common.{◌∙◌}
use Rattle.text_lines.proofs.LineLemmas.{tells_utf8}
use Rattle.text_lines.proofs.has_text.Goals as goal

pub returns : goal.returns
returns c = c.is_ok.ensures.value ∙ tells_utf8 _ c.from_utf8.result _ c.from_utf8.ensures.cases
