-- A line of a script is for a session exactly where it is the session's number and a text.
use Rattle.console_lang.proofs.ScriptLemmas.{for_session, is_for, nothing_blank, blank_nothing}
use Rattle.console_lang.proofs.sessions_have_their_lines.Goals as goal

pub returns-clause-lines : goal.returns-clause-lines
returns-clause-lines c = λ session text line.
    (is_for session text line, for_session session text line)

pub returns-clause-blank : goal.returns-clause-blank
returns-clause-blank c = λ line. (nothing_blank line, blank_nothing line)
