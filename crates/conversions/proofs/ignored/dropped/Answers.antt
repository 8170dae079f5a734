-- A word with none of the characters stays.
use Rattle.std.proofs.Common.{◌∙◌, sym}
use Rattle.conversions.proofs.Ignoring.{all-kept}
use Rattle.conversions.proofs.ignored.dropped.Goals as goal

pub returns-then-has_none : goal.returns-then-has_none
returns-then-has_none c =
    all-kept c.args.ignore.now c.args.word.now (sym c.has_none.ensures ∙ c.if-has_none.true)
