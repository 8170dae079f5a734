-- Behind the last paragraph all is counted.
use Rattle.std.proofs.Common.{◌≡◌, ◌∙◌, ◌+◌, ◌++◌, [], drop, append-nil, sym, ap, arith}
use Rattle.std.specs.String.{string_bytes}
use Rattle.std.proofs.lemmas.List.{drop_all}
use Rattle.document_report.specs.Given.{lines_if_listed}
use Rattle.document_report.proofs.ReportLemmas.{lines_from, lines-each, listed-none, marks_from}
use Rattle.document_report.proofs.ReportLemmas.{marks-each, words_from, words-each}
use Rattle.document_report.proofs.counting.count.Goals as goal

pub returns-clause-counted : goal.returns-clause-counted
returns-clause-counted g c =
    let lexicon = g.K.Asker.lexicon c.args.asker.now in
    let output = c.args.output in
    let texts = c.args.part.paragraphs.now in
    let first = c.args.part.first in
    let l = c.loop-place in
    let before = string_bytes l.report.text in
    let nothing : drop l.place texts ≡ [] =
    drop_all l.place texts (omega (arith, c.loop-place-test.false)) in
    let none : before ++ lines_if_listed output (lines_from lexicon (first + l.place) (drop l.place texts))
    ≡ before =
    rw nothing (rw (listed-none output) (append-nil before)) in
    let no_marks = ap (marks_from lexicon) nothing in
    let no_words = ap (words_from lexicon) nothing in
    let all_marks = marks-each lexicon first texts in
    let all_words = words-each c.marks_are_local.ensures.alone lexicon first texts in
    record {
      text = sym none ∙ (l.invariant.text ∙ ap (lines_if_listed output) (lines-each lexicon first texts));
      marks = omega (arith, no_marks, l.invariant.marks, all_marks);
      words = omega (arith, no_words, l.invariant.words, all_words);
      few = omega (arith, l.invariant.few, c.loop-place-test.false);
      fewer = l.invariant.fewer;
    }
