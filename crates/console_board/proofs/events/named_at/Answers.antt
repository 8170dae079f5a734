-- The paragraph that stands there, whose text is whole characters.
use Rattle.std.proofs.Common.{◌≡◌, ◌∙◌, ◌+◌, ap, length, arith}
use Rattle.console_board.proofs.ConsoleCommands.{paragraph-made, whole-at}
use Rattle.console_board.proofs.events.named_at.Goals as goal

pub returns-in-Some-para-clause-some : goal.returns-in-Some-para-clause-some
returns-in-Some-para-clause-some g c =
    let shows = c.in-Some-para.ensures.some in
    let place-is : c.args.place ≡ c.in-Some.index + 1 = omega (arith, c.in-Some.ensures) in
    record {
      paragraph = shows.paragraph;
      at = paragraph-made c.args.board.now c.args.place c.in-Some.index shows.paragraph
          place-is shows.at;
      id_is = shows.id;
      rev_is = shows.rev;
      size_is = ap length (c.as_str.ensures.text ∙ c.deref.ensures ∙ shows.text);
    }

pub returns-in-Some-para-clause-whole : goal.returns-in-Some-para-clause-whole
returns-in-Some-para-clause-whole g c =
    let board = c.args.board.now in
    let shows = c.in-Some-para.ensures.some in
    let place-is : c.args.place ≡ c.in-Some.index + 1 = omega (arith, c.in-Some.ensures) in
    whole-at board c.args.place shows.paragraph
    (paragraph-made board c.args.place c.in-Some.index shows.paragraph place-is shows.at)
    (rw (c.as_str.ensures.text ∙ c.deref.ensures ∙ shows.text) at c.as_str.utf8)
