-- What is undone is what was attached, on either side.
use Rattle.affix_classes.proofs.BackLemmas.{undone-leads_back}
use Rattle.affix_classes.proofs.undoing.undoing_leads_back.Goals as goal

pub returns : goal.returns
returns c = undone-leads_back
