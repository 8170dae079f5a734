-- The models of the items so far are kept, and without flags.
use Rattle.personal_words.proofs.ModelLemmas.{NamedUpTo}
use Rattle.personal_words.proofs.models.named_models.Given as goal

abbrev pub invariant-loop-item : goal.invariant-loop-item
invariant-loop-item l = NamedUpTo l.items l.item-index l.models
