-- A field is not empty, so it has a character.
use Rattle.std.proofs.Common.{◌<◌, length, ap, subst, sym, ◌∙◌, List, ℕ}
use Rattle.std.specs.Option.{option_copied}
use Rattle.aff_reader.proofs.TableLemmas.{field-some}
use Rattle.aff_reader.proofs.tables.text_at.Goals as goal

pub returns-in_ok-characters_of-in-Some-clause-some :
    goal.returns-in_ok-characters_of-in-Some-clause-some
returns-in_ok-characters_of-in-Some-clause-some c = λ own is.
    let found = c.field_of.ensures in
    let there = ap option_copied c.in-Some.is in
    let text = field-some c.args.row.now.text c.args.k c.in-Some.text.now (sym found ∙ there) in
    subst (λ (made : List ℕ). 0 < length made) (cc is)
    (c.in_ok-characters_of-in-Some.ensures.some text)
