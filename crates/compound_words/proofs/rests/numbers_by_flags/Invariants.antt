-- So far there are the numbers of the rules before the loop's place.
use Rattle.std.proofs.Common.{◌≡◌, ◌<◌, ℕ, length}
use Rattle.compound_words.specs.Rests.{numbers_at, number_by_rule}
use Rattle.compound_words.proofs.rests.numbers_by_flags.Given as goal

abbrev pub invariant-loop-rule : goal.invariant-loop-rule
invariant-loop-rule l = record {
  long : length l.numbers ≡ l.rule;
  numbers : (rule step : ℕ) → rule < length l.numbers
      → numbers_at l.numbers rule step ≡ number_by_rule l.fn.flags l.fn.rules l.fn.behind rule step;
}
