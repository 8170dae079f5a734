-- So far there are those of the patterns before the loop's place that have such a step.
use Rattle.std.proofs.Common.{◌≡◌, filter, take}
use Rattle.compound_words.specs.Prepared.{has_step_in}
use Rattle.compound_words.proofs.rules.rules_with.Given as goal

abbrev pub invariant-loop-pattern : goal.invariant-loop-pattern
invariant-loop-pattern l =
    l.rules ≡ filter (has_step_in l.flags) (take l.pattern-index l.patterns)
