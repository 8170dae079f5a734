-- What is added already and the lines of the paragraphs that are left are all that is added.
use Rattle.std.proofs.Common.{◌≡◌, ◌+◌, ◌++◌, drop}
use Rattle.std.specs.String.{string_bytes}
use Rattle.console_lang.specs.Replies.{paragraphs_from}
use Rattle.console_lang.proofs.reply.push_paragraphs.Given as goal

abbrev pub invariant-loop-place : goal.invariant-loop-place
invariant-loop-place l =
    string_bytes l.written ++ paragraphs_from (l.place + 1) (drop l.place l.paragraphs)
    ≡ string_bytes l.fn.written ++ paragraphs_from 1 l.paragraphs
