-- The marks that are given are the paragraph's.
use Rattle.std.proofs.Common.{◌∙◌, ◌+◌, ◌++◌, length, ap}
use Rattle.std.specs.Str.{chars}
use Rattle.std.specs.String.{string_bytes}
use Rattle.document_report.specs.Given.{lines_if_listed}
use Rattle.document_report.specs.Reports.{mark_lines}
use Rattle.document_report.proofs.ReportLemmas.{lines-of-marks, count-of-marks}
use Rattle.document_report.proofs.printing.Report.add.Goals as goal

pub returns-clause-text : goal.returns-clause-text
returns-clause-text g c =
    let lexicon = g.K.Asker.lexicon c.args.asker.now in
    let before = string_bytes c.args.self.now.text in
    c.in_ok-push_listed.ensures
    ∙ ap (λ marks. before ++ lines_if_listed c.args.output (mark_lines c.args.number marks))
    (c.as_slice.ensures ∙ c.in_ok-counted.ensures.marks)
    ∙ ap (λ lines. before ++ lines_if_listed c.args.output lines)
    (lines-of-marks lexicon c.args.number (chars c.args.paragraph.now))

pub returns-clause-marks : goal.returns-clause-marks
returns-clause-marks g c =
    let lexicon = g.K.Asker.lexicon c.args.asker.now in
    ap (λ n. c.args.self.now.marks + n)
    (c.len.ensures ∙ ap length c.in_ok-counted.ensures.marks
    ∙ count-of-marks lexicon (chars c.args.paragraph.now))
