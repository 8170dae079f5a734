-- Where no place is found no byte is a line feed.
use Rattle.std.proofs.Common.{◌∙◌, sym, Ok, Err, Result, OnOk}
use Rattle.paragraph_text.specs.Laws.{no-break}
use Rattle.edit_core.proofs.opening.check_text.Goals as goal

on-ok : {E A : Type 0} {P : Type 0} (r : Result A E) → P → OnOk r P
on-ok (Ok a) p = p
on-ok (Err e) p = tt

pub returns-in-None-clause-whole : goal.returns-in-None-clause-whole
returns-in-None-clause-whole c =
    on-ok c.check_length.result
    (no-break c.args.text.now (sym c.first_break.ensures ∙ c.in-None.is))
