-- It is told where parts lead from one place more, if parts lead to it.
use Rattle.std.proofs.Common.{rules, ◌+◌, sym, subst}
use Rattle.compound_words.specs.Rests.{asked_by, patterns_of}
use Rattle.compound_words.proofs.ReachLemmas.{AreReachedBelow, below-more, below-skip}
use Rattle.compound_words.proofs.reach.reach_all.Goals as goal
use Rattle.compound_words.proofs.reach.reach_all.Goals.{then-reached-from, else-reached-from}

pub loop-from-preserved : goal.loop-from-preserved
loop-from-preserved c = elim c.if-reached-from.branch [
  | then-reached-from w ↦
      subst (λ reached. AreReachedBelow (asked_by c.args.search.now)
      (patterns_of c.args.search.now) c.args.word.now reached (c.loop-from.from + 1))
      (sym w.reached-is)
      (below-more c.patterns_match.ensures.one_by_one c.requires.rules c.requires.joints
      w.reach_from.ensures c.loop-from.invariant)
  | else-reached-from w ↦
      subst (λ reached. AreReachedBelow (asked_by c.args.search.now)
      (patterns_of c.args.search.now) c.args.word.now reached (c.loop-from.from + 1))
      (sym w.reached-is)
      (below-skip (search rules) c.loop-from.invariant)
]
