-- The report that is put at the place of a share is one on it.
use Rattle.std.proofs.Common.{rules}
use Rattle.document_report.specs.Parts.{IsOfShare}
use Rattle.document_report.proofs.ShareLemmas.{one-put}
use Rattle.document_report.proofs.sharing.take_run.Goals as goal

pub loop-turn-preserved : goal.loop-turn-preserved
loop-turn-preserved g c =
    let lexicon = g.K.Asker.lexicon c.args.asker.now in
    let place = c.fetch_add-place.result in
    let report = c.in_ok-report.report in
    let given : IsOfShare c.args.output lexicon c.args.shares.now place report = search rules in
    record {
      same = search rules;
      counted = one-put (IsOfShare c.args.output lexicon c.args.shares.now)
          c.loop-turn.reports.items report place c.loop-turn.invariant.counted given;
      count = search rules;
    }
