-- The paragraph with an id is the one that stands at the place of it.
use Rattle.std.proofs.Common.{◌∙◌, ◌==◌, sym, ap, Bool}
use Rattle.std.specs.Option.{option_copied}
use Rattle.paragraph_text.specs.Laws.{found-at, found-none, found-some}
use Rattle.paragraph_text.specs.Paragraphs.{Paragraph}
use Rattle.paragraph_text.proofs.edits.found.Goals as goal

pub returns-in-None : goal.returns-in-None
returns-in-None c =
    let p : Paragraph → Bool = λ paragraph. paragraph.id == c.args.named.id in
    found-none p c.args.paragraphs.now (sym c.requires ∙ c.in-None.is)

pub returns-in-None-get : goal.returns-in-None-get
returns-in-None-get c =
    let p : Paragraph → Bool = λ paragraph. paragraph.id == c.args.named.id in
    found-some p c.args.paragraphs.now c.in-Some.place (sym c.requires ∙ c.in-Some.is)
    ∙ sym c.get.ensures ∙ ap option_copied c.in-None-get.is

pub returns-in-Some-get : goal.returns-in-Some-get
returns-in-Some-get c =
    found-at c.args.paragraphs.now c.args.named.id c.in-Some.place c.in-Some-get.para.now
    (sym c.requires ∙ c.in-Some.is)
    (sym c.get.ensures ∙ ap option_copied c.in-Some-get.is)
