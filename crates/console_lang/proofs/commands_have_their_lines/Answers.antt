-- A line is read as a command exactly where it is one of the command's lines.
use Rattle.console_lang.proofs.CommandLemmas.{command_is, line_is, commands_differ, no_blank}
use Rattle.console_lang.proofs.commands_have_their_lines.Goals as goal

pub returns-clause-lines : goal.returns-clause-lines
returns-clause-lines c = λ command line. (line_is command line, command_is command line)

pub returns-clause-differ : goal.returns-clause-differ
returns-clause-differ c = commands_differ

pub returns-clause-never_blank : goal.returns-clause-never_blank
returns-clause-never_blank c = no_blank
