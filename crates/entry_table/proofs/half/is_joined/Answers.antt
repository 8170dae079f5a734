-- The word begins with the front, or not; then its rest is the back, or not.
use Rattle.std.proofs.Common.{◌∙◌, sym}
use Rattle.entry_table.proofs.half.is_joined.Goals as goal

pub returns-in-None : goal.returns-in-None
returns-in-None c = sym (c.in-None.ensures c.args.back.now)

pub returns-in-Some : goal.returns-in-Some
returns-in-Some c = c.is_spelled.ensures ∙ sym (c.in-Some.ensures c.args.back.now)
