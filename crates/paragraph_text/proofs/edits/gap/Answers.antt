-- The gap before a paragraph is at the place at which it stands.
use Rattle.std.proofs.Common.{◌≡◌, ◌∙◌, ◌==◌, sym, ap, subst, Bool, None, Some}
use Rattle.std.specs.Option.{option_and_then, option_map_or}
use Rattle.paragraph_text.specs.Laws.{found-none, some-at}
use Rattle.paragraph_text.specs.Paragraphs.{Paragraph}
use Rattle.paragraph_text.specs.Edits.{IsGap, gone_before, place_of}
use Rattle.paragraph_text.specs.declared.edits.EditRefusal.TheVariants.{Gone}
use Rattle.paragraph_text.proofs.Decided.{asked-here, gap-before}
use Rattle.paragraph_text.proofs.edits.gap.Goals as goal

pub returns-in-None-place-clause-refused : goal.returns-in-None-place-clause-refused
returns-in-None-place-clause-refused c =
    let rows = c.args.paragraphs.now in
    let id = c.in-Some.id in
    let p : Paragraph → Bool = λ paragraph. paragraph.id == id in
    let none : place_of id rows ≡ None =
    ap (option_and_then (λ n. place_of n rows)) (sym c.in-Some.is) ∙ sym c.requires
    ∙ c.in-None-place.is in
    ap (gone_before rows) c.in-Some.is
    ∙ ap (λ o. option_map_or (λ _. None) o (Some (Gone id))) (found-none p rows none)

pub returns-in-Some-place-clause-found : goal.returns-in-Some-place-clause-found
returns-in-Some-place-clause-found c =
    let rows = c.args.paragraphs.now in
    let place : place_of c.in-Some.id rows ≡ Some c.in-Some-place.place =
    ap (option_and_then (λ n. place_of n rows)) (sym c.in-Some.is) ∙ sym c.requires
    ∙ c.in-Some-place.is in
    subst (λ before. IsGap rows before c.in-Some-place.place) (sym c.in-Some.is)
    (gap-before (some-at rows c.in-Some.id c.in-Some-place.place place).1)

pub returns-in-Some-place-clause-passed : goal.returns-in-Some-place-clause-passed
returns-in-Some-place-clause-passed c =
    let rows = c.args.paragraphs.now in
    let place : place_of c.in-Some.id rows ≡ Some c.in-Some-place.place =
    ap (option_and_then (λ n. place_of n rows)) (sym c.in-Some.is) ∙ sym c.requires
    ∙ c.in-Some-place.is in
    ap (gone_before rows) c.in-Some.is
    ∙ asked-here (λ _. None) (some-at rows c.in-Some.id c.in-Some-place.place place).1
