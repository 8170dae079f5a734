-- Each report so far is one on the share at its place.
use Rattle.std.proofs.Common.{◌≡◌, length}
use Rattle.document_report.specs.Parts.{AreOfShares}
use Rattle.document_report.proofs.sharing.take_run.Given as goal

abbrev pub invariant-loop-turn : goal.invariant-loop-turn
invariant-loop-turn g l = record {
  same : g.K.Asker.lexicon l.asker ≡ g.K.Asker.lexicon l.fn.asker;
  counted : AreOfShares l.output (g.K.Asker.lexicon l.fn.asker) l.shares l.reports;
  count : length l.reports.items ≡ length l.fn.reports.items;
}
