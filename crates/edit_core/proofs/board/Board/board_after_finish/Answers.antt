-- The check is of the text of the paragraph that stands at the place.
use Rattle.std.proofs.Common.{◌≡◌, ◌∙◌, sym, subst}
use Rattle.std.proofs.lemmas.Option.{same_Some}
use Rattle.paragraph_text.specs.Paragraphs.{Paragraph}
use Rattle.edit_core.proofs.board.Board.board_after_finish.Goals as goal

pub with_state-requires-clause-theirs : goal.with_state-requires-clause-theirs
with_state-requires-clause-theirs g c paragraph at =
    let row = c.in_ok-found.ensures.found in
    let fit = c.requires.fit c.in_ok-found.found.place row.paragraph c.in_ok-found.found.standing
    row.here (sym row.rev_is ∙ c.in_ok-check_rev.ensures.current)
    c.in_ok-check_dict.ensures.in_force in
    subst (λ (p : Paragraph). (c.args.checked.text ≡ p.text)
    × (g.J.Judge.lexicon c.args.checked.judge ≡ c.args.self.now.lexicon))
    (same_Some row.paragraph paragraph (sym row.here.paragraph_is ∙ at)) fit

pub returns-clause-made : goal.returns-clause-made
returns-clause-made g c =
    let row = c.in_ok-found.ensures.found in
    let current = sym row.rev_is ∙ c.in_ok-check_rev.ensures.current in
    let in_force = c.in_ok-check_dict.ensures.in_force in
    let fit = c.requires.fit c.in_ok-found.found.place row.paragraph c.in_ok-found.found.standing
    row.here current in_force in
    record {
      place = c.in_ok-found.found.place;
      paragraph = row.paragraph;
      stands = c.in_ok-found.found.standing;
      here = row.here;
      allowed = record {
        current = current;
        in_force = in_force;
        free = c.in_ok-check_open.ensures.free;
        text_is = fit.0;
        lexicon_is = fit.1;
      };
      after_is = c.in_ok-with_state.ensures;
    }
