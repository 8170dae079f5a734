-- The code tells.
use Rattle.std.proofs.Common.{◌∙◌, ◌<◌, sym, ltb-true}
use Rattle.letter_case.proofs.Ascii.{upper-ascii}
use Rattle.letter_case.proofs.is_upper.Goals as goal

pub returns-then-is_ascii : goal.returns-then-is_ascii
returns-then-is_ascii c =
    let code : c.args.c < 128 =
    ltb-true c.args.c 128 (sym c.is_ascii.ensures ∙ c.if-is_ascii.true) in
    c.is_ascii_uppercase.ensures.value ∙ upper-ascii c.args.c code
