-- A line is taken from the front of the rest, and is the next paragraph.
use Rattle.std.proofs.Common.{rules, ◌∙◌, ◌++◌, append-nil, inr, length, sym, ap, arith}
use Rattle.std.proofs.lemmas.List.{length_push}
use Rattle.mark_types.specs.text_lines.Laws.{no-texts, some-texts}
use Rattle.mark_types.specs.text_lines.Texts.{texts_in}
use Rattle.document_report.specs.Texts.{lent}
use Rattle.document_report.proofs.LineLemmas.{few-found, line-taken, many-found}
use Rattle.document_report.proofs.LineLemmas.{none-left, some-left}
use Rattle.document_report.proofs.paragraphs.paragraphs_in.Goals as goal

pub returns-then-len-eq-MOST_PARAGRAPHS-clause-due :
    goal.returns-then-len-eq-MOST_PARAGRAPHS-clause-due
returns-then-len-eq-MOST_PARAGRAPHS-clause-due c =
    let l = c.loop-rest in
    let texts = l.paragraphs.items in
    let some = some-left (length l.rest.now) c.is_empty.result c.is_empty.ensures
    c.loop-rest-test.true in
    inr (many-found texts (texts_in c.args.text.now) (texts_in l.rest.now)
    (some-texts l.rest.now some) l.invariant.lines
    (omega (arith, c.len.ensures, c.if-len-eq-MOST_PARAGRAPHS.true)))

pub first_line-requires : goal.first_line-requires
first_line-requires c =
    some-left (length c.loop-rest.rest.now) c.is_empty.result c.is_empty.ensures
    c.loop-rest-test.true

pub loop-rest-preserved : goal.loop-rest-preserved
loop-rest-preserved c =
    let l = c.loop-rest in
    let texts = l.paragraphs.items in
    let line = c.first_line.result.0 in
    let size = ap length c.in_ok-push.ensures.items in
    let more = length_push texts line in
    let before = c.len.ensures in
    let few = l.invariant.few in
    let other = c.if-len-eq-MOST_PARAGRAPHS.false in
    record {
      lines = ap (λ found. lent found ++ texts_in c.first_line.result.1.now)
          c.in_ok-push.ensures.items
          ∙ line-taken texts line (texts_in c.first_line.result.1.now) (texts_in c.args.text.now)
          (texts_in l.rest.now) c.first_line.ensures.first l.invariant.lines;
      utf8 = search rules;
      few = omega arith;
    }

pub returns-clause-due : goal.returns-clause-due
returns-clause-due c =
    let l = c.loop-rest in
    let none = no-texts l.rest.now
    (none-left (length l.rest.now) c.is_empty.result c.is_empty.ensures
    c.loop-rest-test.false) in
    few-found l.paragraphs.items (texts_in c.args.text.now)
    (sym (append-nil (lent l.paragraphs.items))
    ∙ ap (λ texts. lent l.paragraphs.items ++ texts) (sym none) ∙ l.invariant.lines)
    l.invariant.few
