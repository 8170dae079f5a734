-- What the list of the forms is.
use Rattle.form_lister.proofs.FormLemmas.{forms-members, forms-rise}
use Rattle.form_lister.proofs.forms_are.Goals as goal

pub returns-clause-members : goal.returns-clause-members
returns-clause-members c = forms-members c.derivations_are.ensures.members

pub returns-clause-rising : goal.returns-clause-rising
returns-clause-rising c = forms-rise
