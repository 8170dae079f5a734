-- By what the lines of commands are.
use Rattle.console_board.proofs.LineLemmas.{whole-text}
use Rattle.console_board.proofs.laws.commands_have_whole_texts.Goals as goal

pub returns : goal.returns
returns c line command whole says =
    whole-text c.commands_have_their_lines.ensures.lines line whole says
