-- The check is of the text of the paragraph that the board shows at the place.
use Rattle.std.proofs.Common.{◌∙◌, ap, subst}
use Rattle.edit_core.specs.Steps.{IsAt}
use Rattle.board_tests.proofs.tests.board_tables.finish.Goals as goal

pub returns : goal.returns
returns g c = λ place paragraph stands here rev-is dict-is.
    let shows = c.in-Some.ensures.some in
    let own = c.checks_are_fit.ensures.own c.args.board.now c.args.place c.number-2.result
    c.number-3.result shows.paragraph c.judge.ensures.valid shows.at
    place paragraph stands
    (subst (λ id. IsAt c.args.board.now id place paragraph stands) shows.id here) rev-is
    dict-is in (
      c.in_ok-checked.ensures.text ∙ shows.text ∙ own.0,
      ap g.J.Judge.lexicon c.in_ok-checked.ensures.judge ∙ c.judge.ensures.judge,
    )
