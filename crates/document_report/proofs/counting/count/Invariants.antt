-- What is counted already and what is left to count are all that is counted.
use Rattle.std.proofs.Common.{◌≡◌, ◌+◌, ◌*◌, ◌≤◌, ◌++◌, drop}
use Rattle.std.specs.String.{string_bytes}
use Rattle.document_report.specs.Given.{lines_if_listed}
use Rattle.document_report.proofs.ReportLemmas.{lines_from, marks_from, words_from}
use Rattle.document_report.proofs.counting.count.Given as goal
use Rattle.paragraph_text.specs.declared.limits.TheConstants.{MOST_BYTES}

abbrev pub invariant-loop-place : goal.invariant-loop-place
invariant-loop-place g l =
    let lexicon = g.K.Asker.lexicon l.fn.asker in
    let texts = l.part.paragraphs.now in
    let left = drop l.place texts in
    let next = l.part.first + l.place in
    record {
      same : g.K.Asker.lexicon l.asker ≡ lexicon;
      text : string_bytes l.report.text ++ lines_if_listed l.output (lines_from lexicon next left)
          ≡ lines_if_listed l.output (lines_from lexicon l.part.first texts);
      marks : l.report.marks + marks_from lexicon left ≡ marks_from lexicon texts;
      words : l.report.words + words_from lexicon left ≡ words_from lexicon texts;
      few : l.report.words ≤ MOST_BYTES * l.place;
      fewer : l.report.marks ≤ l.report.words;
    }
