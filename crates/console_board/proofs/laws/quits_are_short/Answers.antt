-- Such a line has four bytes.
use Rattle.console_board.proofs.LineLemmas.{quit-is-short}
use Rattle.console_board.proofs.laws.quits_are_short.Goals as goal

pub returns : goal.returns
returns c = quit-is-short c.commands_have_their_lines.ensures.lines
