-- There is no report so far.
use Rattle.std.proofs.Common.{◌≡◌, length}
use Rattle.mark_types.specs.spell_types.declared.Lexicon.{Lexicon}
use Rattle.document_report.specs.Parts.{AreOfShares}
use Rattle.document_report.specs.declared.printing.Output.{Output}
use Rattle.document_report.specs.declared.sharing.Shares.{Shares}
use Rattle.document_report.proofs.sharing.no_reports.Given as goal

abbrev pub invariant-loop-place : goal.invariant-loop-place
invariant-loop-place l = record {
  none : (output : Output) (lexicon : Lexicon) (shares : Shares)
      → AreOfShares output lexicon shares l.reports;
  count : length l.reports.items ≡ l._place;
}
