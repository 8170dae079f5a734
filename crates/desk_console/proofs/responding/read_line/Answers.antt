-- A line that is UTF-8 says what its text says, and any other is no command.
use Rattle.std.proofs.Common.{refl}
use Rattle.std.proofs.lemmas.Bool.{false_from_ne_true}
use Rattle.std.proofs.lemmas.Str.{IsUtf8-from_is_utf8, is_utf8-from_IsUtf8}
use Rattle.std.specs.Str.{is_utf8}
use Rattle.desk_console.proofs.responding.read_line.Goals as goal

pub returns-in-Ok : goal.returns-in-Ok
returns-in-Ok c =
    let line = c.args.line.now in
    let cases = c.in-Ok.ensures.cases in
    rw (is_utf8-from_IsUtf8 line cases.1, ← cases.0) c.read_command.ensures

pub returns-in-Err : goal.returns-in-Err
returns-in-Err c =
    let line = c.args.line.now in
    rw (false_from_ne_true (is_utf8 line)
    (λ is. c.in-Err.ensures.cases.0 (IsUtf8-from_is_utf8 line is))) refl
