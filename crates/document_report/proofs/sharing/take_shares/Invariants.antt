-- Each report so far is one on the share at its place, and there is a place for each share.
use Rattle.std.proofs.Common.{◌≡◌, ◌*◌, ◌<◌, ℕ, length}
use Rattle.std.specs.Arc.{arc_value}
use Rattle.document_report.specs.Parts.{AreOfShares}
use Rattle.document_report.proofs.sharing.take_shares.Given as goal

abbrev pub invariant-loop-run : goal.invariant-loop-run
invariant-loop-run g l =
    let lexicon = g.J.Judge.lexicon (arc_value l.judge) in
    record {
      same : g.J.Judge.lexicon l.asker ≡ lexicon;
      counted : AreOfShares l.output lexicon l.shares l.reports;
      inside : (place : ℕ) → place < length l.reports.items
          → l.shares.size * place < length l.shares.part.paragraphs.now;
    }

abbrev pub invariant-loop-run-2 : goal.invariant-loop-run-2
invariant-loop-run-2 g l =
    let lexicon = g.J.Judge.lexicon (arc_value l.judge) in
    record {
      same : g.J.Judge.lexicon l.asker ≡ lexicon;
      counted : AreOfShares l.output lexicon l.shares l.reports;
      inside : (place : ℕ) → place < length l.reports.items
          → l.shares.size * place < length l.shares.part.paragraphs.now;
    }
