-- The edit is the one that is lent, part by part.
use Rattle.std.proofs.Common.{◌≡◌, ◌∙◌, sym, ap, subst, IfErr}
use Rattle.text_lines.specs.lists.Answers.{IsDueOr}
use Rattle.paragraph_text.specs.Edits.{edit_refusal}
use Rattle.paragraph_text.specs.declared.edits.Edit.TheVariants.{Insert, Remove, Replace}
use Rattle.paragraph_text.specs.declared.edits.EditRefusal.TheVariants.{NoMemory}
use Rattle.paragraph_text.proofs.Kept.{kept-ok}
use Rattle.paragraph_text.proofs.edits.apply_at.Goals as goal

pub returns-in-Insert-clause-refused : goal.returns-in-Insert-clause-refused
returns-in-Insert-clause-refused c =
    subst (λ edit.
    IfErr c.insert.result (IsDueOr NoMemory (edit_refusal c.args.paragraphs.now edit)))
    (ap (λ text. Insert c.in-Insert.before text) c.as_str-text.ensures.text ∙ sym c.in-Insert.is)
    c.insert.ensures.refused

pub returns-in-Replace-clause-kept : goal.returns-in-Replace-clause-kept
returns-in-Replace-clause-kept c =
    let id = c.in-Replace.id in
    let rev = c.in-Replace.rev in
    let from = c.in-Replace.from in
    let to = c.in-Replace.to in
    let same : Replace id rev from to c.as_str.result.now ≡ c.args.edit.now =
    ap (λ text. Replace id rev from to text) c.as_str.ensures.text ∙ sym c.in-Replace.is in
    kept-ok c.args.version c.args.next_id c.args.paragraphs.now
    (Replace id rev from to c.as_str.result.now) c.args.edit.now c.replace.result same
    c.replace.ensures.applied

pub returns-in-Insert-clause-kept : goal.returns-in-Insert-clause-kept
returns-in-Insert-clause-kept c =
    let before = c.in-Insert.before in
    let same : Insert before c.as_str-text.result.now ≡ c.args.edit.now =
    ap (λ text. Insert before text) c.as_str-text.ensures.text ∙ sym c.in-Insert.is in
    kept-ok c.args.version c.args.next_id c.args.paragraphs.now
    (Insert before c.as_str-text.result.now) c.args.edit.now c.insert.result same
    c.insert.ensures.applied

pub returns-in-Remove-clause-kept : goal.returns-in-Remove-clause-kept
returns-in-Remove-clause-kept c =
    kept-ok c.args.version c.args.next_id c.args.paragraphs.now
    (Remove c.in-Remove.id c.in-Remove.rev) c.args.edit.now c.remove.result (sym c.in-Remove.is)
    c.remove.ensures.applied
