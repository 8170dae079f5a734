-- Both stems are what undoing the rule gives.
use Rattle.affix_classes.proofs.BackLemmas.{attached-unique}
use Rattle.affix_classes.proofs.undoing.undoing_is_unique.Goals as goal

pub returns : goal.returns
returns c = attached-unique
