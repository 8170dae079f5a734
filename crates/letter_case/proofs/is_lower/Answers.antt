-- The code tells.
use Rattle.std.proofs.Common.{◌∙◌, ◌<◌, sym, ltb-true}
use Rattle.letter_case.proofs.Ascii.{lower-ascii}
use Rattle.letter_case.proofs.is_lower.Goals as goal

pub returns-then-is_ascii : goal.returns-then-is_ascii
returns-then-is_ascii c =
    let code : c.args.c < 128 =
    ltb-true c.args.c 128 (sym c.is_ascii.ensures ∙ c.if-is_ascii.true) in
    c.is_ascii_lowercase.ensures.value ∙ lower-ascii c.args.c code
