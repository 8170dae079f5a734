-- A line that is UTF-8 comes next; and nothing at the end of the bytes, or where the line is not
-- UTF-8.
use Rattle.std.proofs.Common.{arith, sym, refl}
use Rattle.text_lines.proofs.LineLemmas.{line_next, none_at_end, none_at_bad}
use Rattle.text_lines.proofs.next_line.Goals as goal

pub returns-then-place-bytes-clause-good : goal.returns-then-place-bytes-clause-good
returns-then-place-bytes-clause-good c =
    (none_at_end c.args.bytes.now c.args.ahead c.if-place-bytes.true).0

pub returns-then-place-bytes-clause-none : goal.returns-then-place-bytes-clause-none
returns-then-place-bytes-clause-none c =
    (none_at_end c.args.bytes.now c.args.ahead c.if-place-bytes.true).1

pub returns-then-not-has_text-clause-good : goal.returns-then-not-has_text-clause-good
returns-then-not-has_text-clause-good c =
    (none_at_bad c.args.bytes.now c.args.ahead c.end_of-end.result c.line_between-line.result
    (record {
      within = c.if-place-bytes.false;
      stops = c.end_of-end.ensures.end;
      is = c.line_between-line.ensures.line;
    })
    (sym c.if-not-has_text.ensures)).0

pub returns-then-not-has_text-clause-none : goal.returns-then-not-has_text-clause-none
returns-then-not-has_text-clause-none c =
    (none_at_bad c.args.bytes.now c.args.ahead c.end_of-end.result c.line_between-line.result
    (record {
      within = c.if-place-bytes.false;
      stops = c.end_of-end.ensures.end;
      is = c.line_between-line.ensures.line;
    })
    (sym c.if-not-has_text.ensures)).1

pub returns-clause-good : goal.returns-clause-good
returns-clause-good c =
    (line_next c.args.bytes.now c.args.ahead _ c.end_of-end.result c.line_between-line.result
    c.requires
    (record {
      within = c.if-place-bytes.false;
      stops = c.end_of-end.ensures.end;
      is = c.line_between-line.ensures.line;
    })
    (record {
      ordered = c.line_between-line.ensures.ordered;
      within = omega (arith, c.line_between-line.ensures.within, c.end_of-end.ensures.within);
      utf8 = sym c.if-not-has_text.ensures;
    })
    c.line_between-line.ensures.within c.end_of-end.ensures.within refl).0

pub returns-clause-next : goal.returns-clause-next
returns-clause-next c =
    (line_next c.args.bytes.now c.args.ahead _ c.end_of-end.result c.line_between-line.result
    c.requires
    (record {
      within = c.if-place-bytes.false;
      stops = c.end_of-end.ensures.end;
      is = c.line_between-line.ensures.line;
    })
    (record {
      ordered = c.line_between-line.ensures.ordered;
      within = omega (arith, c.line_between-line.ensures.within, c.end_of-end.ensures.within);
      utf8 = sym c.if-not-has_text.ensures;
    })
    c.line_between-line.ensures.within c.end_of-end.ensures.within refl).1
