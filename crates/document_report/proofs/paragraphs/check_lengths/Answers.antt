-- A paragraph is too long just where the text of one is.
use Rattle.std.proofs.Common.{inr}
use Rattle.document_report.proofs.LineLemmas.{long-found, long-none}
use Rattle.document_report.proofs.paragraphs.check_lengths.Goals as goal

pub returns-then-has_long-clause-due : goal.returns-then-has_long-clause-due
returns-then-has_long-clause-due c =
    inr (long-found c.args.paragraphs.now c.has_long.result c.has_long.ensures c.if-has_long.true)

pub returns-clause-due : goal.returns-clause-due
returns-clause-due c =
    long-none c.args.paragraphs.now c.has_long.result c.has_long.ensures c.if-has_long.false
