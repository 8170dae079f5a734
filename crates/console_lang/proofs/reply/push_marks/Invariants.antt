-- What is added already and the lines of the marks that are left are all that is added.
use Rattle.std.proofs.Common.{◌≡◌, ◌++◌, drop}
use Rattle.std.specs.List.{flat_map}
use Rattle.std.specs.String.{string_bytes}
use Rattle.console_lang.specs.Replies.{reply_mark_line}
use Rattle.console_lang.proofs.reply.push_marks.Given as goal

abbrev pub invariant-loop-mark : goal.invariant-loop-mark
invariant-loop-mark l =
    string_bytes l.written ++ flat_map (reply_mark_line l.number) (drop l.mark-index l.marks)
    ≡ string_bytes l.fn.written ++ flat_map (reply_mark_line l.number) l.marks
