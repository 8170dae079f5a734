-- No report is added.
use Rattle.std.proofs.Common.{None, rules}
use Rattle.document_report.specs.Parts.{IsOfShare}
use Rattle.document_report.proofs.ShareLemmas.{one-more}
use Rattle.document_report.proofs.sharing.no_reports.Goals as goal

pub loop-place-preserved : goal.loop-place-preserved
loop-place-preserved c = record {
  none = λ output lexicon shares place. rw c.in_ok-push.ensures.items
      (one-more (IsOfShare output lexicon shares) c.loop-place.reports.items None
      (c.loop-place.invariant.none output lexicon shares) tt place);
  count = search rules;
}
