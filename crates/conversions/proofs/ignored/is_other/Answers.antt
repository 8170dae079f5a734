-- The search finds the character, or that it is none of them.
use Rattle.std.proofs.Common.{◌∙◌}
use Rattle.std.proofs.lemmas.List.Sorted.{searched}
use Rattle.conversions.proofs.Ignoring.{searched-kept}
use Rattle.conversions.proofs.ignored.is_other.Goals as goal

pub returns : goal.returns
returns c =
    c.is_err.ensures.value
    ∙ searched-kept c.args.ignore.now c.args.c c.binary_search.result
    (searched c.args.ignore.now c.args.c c.binary_search.result c.binary_search.ensures.position
    (λ i j upto within. c.requires i j 0 upto within))
