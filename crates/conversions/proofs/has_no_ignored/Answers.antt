-- A text with none of the characters stays.
use Rattle.std.proofs.Common.{◌∙◌, sym}
use Rattle.std.specs.Str.{chars}
use Rattle.conversions.proofs.Ignoring.{all-kept, none-to-ignore}
use Rattle.conversions.proofs.has_no_ignored.Goals as goal

pub returns-then-is_empty-clause-told : goal.returns-then-is_empty-clause-told
returns-then-is_empty-clause-told c =
    c.if-is_empty.true
    ∙ none-to-ignore c.args.ignore.now (chars c.args.text.now)
    (sym c.is_empty.ensures ∙ c.if-is_empty.true)

pub returns-then-is_empty-clause-kept : goal.returns-then-is_empty-clause-kept
returns-then-is_empty-clause-kept c = λ _.
    all-kept c.args.ignore.now (chars c.args.text.now)
    (sym (none-to-ignore c.args.ignore.now (chars c.args.text.now)
    (sym c.is_empty.ensures ∙ c.if-is_empty.true)))

pub returns-else-is_empty-clause-kept : goal.returns-else-is_empty-clause-kept
returns-else-is_empty-clause-kept c = λ told.
    all-kept c.args.ignore.now (chars c.args.text.now) (sym c.each_is_kept.ensures ∙ told)
