-- A line is read for a session only where it has its number, and the text is a part of the line.
use Rattle.text_lines.specs.Lines.{line_texts}
use Rattle.team_script.proofs.BreakLemmas.{whole-lines}
use Rattle.team_script.proofs.SessionLemmas.{told-numbered, told-whole}
use Rattle.team_script.proofs.reading.lines_are_sound.Goals as goal

pub returns-clause-sessions : goal.returns-clause-sessions
returns-clause-sessions c = told-numbered c.sessions_have_their_lines.ensures.lines

pub returns-clause-whole : goal.returns-clause-whole
returns-clause-whole c = λ bytes.
    told-whole c.sessions_have_their_lines.ensures.lines (line_texts bytes) (whole-lines bytes)
