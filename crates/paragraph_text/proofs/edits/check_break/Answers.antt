-- Where no place is found no byte is a line feed.
use Rattle.std.proofs.Common.{◌∙◌, sym}
use Rattle.paragraph_text.specs.Laws.{no-break}
use Rattle.paragraph_text.proofs.edits.check_break.Goals as goal

pub returns-in-None-clause-whole : goal.returns-in-None-clause-whole
returns-in-None-clause-whole c = no-break c.args.put.now (sym c.first_break.ensures ∙ c.in-None.is)
