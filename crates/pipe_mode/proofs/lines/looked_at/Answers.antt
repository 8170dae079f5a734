-- What stands behind a circumflex is looked at, and all where there is none.
use Rattle.std.proofs.Common.{ap, sym, drop, lit<, arith}
use Rattle.std.proofs.lemmas.Option.{MatchOption-at_some, MatchOption-at_none}
use Rattle.std.proofs.lemmas.Str.Pattern.{strip_prefix_char}
use Rattle.pipe_mode.proofs.LineLemmas.{behind-text, behind-length, none-passed}
use Rattle.pipe_mode.proofs.lines.looked_at.Goals as goal

pub returns-in-Some : goal.returns-in-Some
returns-in-Some c =
    let strip =
    strip_prefix_char 94 c.args.line.now c.strip_prefix.result c.strip_prefix.ensures.cases
    (lit< tt) in
    let is = MatchOption-at_some _ _ c.in-Some.text c.in-Some.is strip in
    record {
      text = behind-text c.args.line.now c.in-Some.text.now is;
      before = behind-length c.args.line.now c.in-Some.text.now is;
    }

pub returns-in-None : goal.returns-in-None
returns-in-None c =
    let strip =
    strip_prefix_char 94 c.args.line.now c.strip_prefix.result c.strip_prefix.ensures.cases
    (lit< tt) in
    let none = none-passed c.args.line.now (MatchOption-at_none _ _ c.in-None.is strip) in
    record {
      text = sym (ap (λ count. drop count c.args.line.now) none);
      before = omega (arith, none);
    }
