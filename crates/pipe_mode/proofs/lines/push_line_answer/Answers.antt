-- A line that is UTF-8 is answered by its words, and any other by its number.
use Rattle.std.proofs.lemmas.Bool.{false_from_ne_true}
use Rattle.std.proofs.lemmas.Str.{IsUtf8-from_is_utf8, is_utf8-from_IsUtf8}
use Rattle.std.specs.Str.{is_utf8}
use Rattle.pipe_mode.proofs.lines.push_line_answer.Goals as goal

pub returns-in-Ok : goal.returns-in-Ok
returns-in-Ok c =
    let line = c.args.line.now in
    let cases = c.in-Ok.ensures.cases in
    rw (is_utf8-from_IsUtf8 line cases.1, ← cases.0) c.push_answers.ensures

pub returns-in_ok-push_bad_line-in-Err : goal.returns-in_ok-push_bad_line-in-Err
returns-in_ok-push_bad_line-in-Err c =
    let line = c.args.line.now in
    rw (false_from_ne_true (is_utf8 line)
    (λ is. c.in-Err.ensures.cases.0 (IsUtf8-from_is_utf8 line is)))
    c.in_ok-push_bad_line-in-Err.ensures
