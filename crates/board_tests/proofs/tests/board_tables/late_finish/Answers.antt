-- A check of a paragraph of an earlier board is fit for a later one.
use Rattle.std.proofs.Common.{◌∙◌, ap, subst}
use Rattle.edit_core.specs.Steps.{IsAt}
use Rattle.board_tests.proofs.tests.board_tables.late_finish.Goals as goal

pub next-requires-in-Ok : goal.next-requires-in-Ok
next-requires-in-Ok g c = λ place paragraph stands here rev-is dict-is.
    let board = c.args.board.now in
    let later = c.in-Ok.later in
    let shows = c.in-Some.ensures.some in
    let valid = c.judge.ensures.valid in
    let grew = c.runs_only_grow.ensures.step board later _ valid c.in-Ok.ensures.stepped in
    let named =
    c.ids_name_paragraphs.ensures.own board c.args.place shows.paragraph valid shows.at in
    let fit = c.checks_are_fit.ensures.later board later shows.paragraph.id shows.paragraph grew
    named place paragraph stands
    (subst (λ id. IsAt later id place paragraph stands) shows.id here) (rev-is ∙ shows.rev)
    (dict-is ∙ ap (λ p. p.dict) c.progress.ensures) in (
      c.in_ok-checked_by.ensures.text ∙ shows.text ∙ fit.0,
      ap g.J.Judge.lexicon c.in_ok-checked_by.ensures.judge ∙ c.judge.ensures.judge ∙ fit.1,
    )
