-- A form stands for itself.
use Rattle.form_lister.proofs.AcceptLemmas.{form-accepted}
use Rattle.form_lister.proofs.FormLemmas.{forms-members}
use Rattle.form_lister.proofs.forms_are_accepted.Goals as goal

pub returns : goal.returns
returns c = λ lexicon word inside few same.
    let members = c.derivations_are.ensures.members in
    form-accepted members lexicon word ((forms-members members lexicon word).0 inside) few same
