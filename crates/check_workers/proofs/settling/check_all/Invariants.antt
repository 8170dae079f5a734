-- It is the judge's check of the text, and fewer words are left each time.
use Rattle.std.proofs.Common.{◌≡◌, length}
use Rattle.std.specs.Arc.{arc_value}
use Rattle.check_workers.proofs.settling.check_all.Given as goal

abbrev pub invariant-loop-checking : goal.invariant-loop-checking
invariant-loop-checking g l = record {
  judge : l.checking.judge ≡ arc_value l.claim.judge;
  text : l.checking.text ≡ arc_value l.claim.text;
  asks : g.J.Judge.lexicon l.asker ≡ g.J.Judge.lexicon (arc_value l.claim.judge);
}

abbrev pub decreases-loop-checking : goal.decreases-loop-checking
decreases-loop-checking g l = length l.checking.left
