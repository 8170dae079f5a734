-- The check is of the text of the paragraph that the board shows at the place, and that its id
-- names.
use Rattle.std.proofs.Common.{◌≡◌, ◌∙◌, sym, ap, subst, Some}
use Rattle.paragraph_text.specs.Edits.{with_id}
use Rattle.board_tests.proofs.tests.board_tables.own_finish.Goals as goal

pub returns : goal.returns
returns g c =
    let shows = c.in-Some.ensures.some in
    record {
      paragraph = shows.paragraph;
      named = subst (λ id. with_id id c.args.board.now.paragraphs ≡ Some shows.paragraph)
          (sym shows.id)
          (c.ids_name_paragraphs.ensures.own c.args.board.now c.args.place shows.paragraph
          c.judge.ensures.valid shows.at);
      current = sym shows.rev;
      text_is = c.in_ok-checked.ensures.text ∙ shows.text;
      lexicon_is = ap g.J.Judge.lexicon c.in_ok-checked.ensures.judge ∙ c.judge.ensures.judge;
    }
