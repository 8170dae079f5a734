-- The list rises, and has the forms as its words.
use Rattle.std.proofs.Common.{◌≡◌, ◌∙◌, sym, ap, subst, ◌≤◌, length}
use Rattle.form_lister.specs.Forms.{forms_of}
use Rattle.form_lister.proofs.FoundLemmas.{list-is}
use Rattle.form_lister.proofs.forms.Goals as goal

pub returns-clause-forms : goal.returns-clause-forms
returns-clause-forms c =
    list-is c.args.stems.now c.args.limit c.in_ok-found.found c.in_ok-into_list.field-0.items
    c.forms_are.ensures.members c.in_ok-found.ensures.found c.in_ok-found.ensures.all
    c.in_ok-into_list.ensures

pub returns-clause-few : goal.returns-clause-few
returns-clause-few c =
    let is : c.in_ok-into_list.field-0.items ≡ forms_of c.args.stems.now =
    list-is c.args.stems.now c.args.limit c.in_ok-found.found c.in_ok-into_list.field-0.items
    c.forms_are.ensures.members c.in_ok-found.ensures.found c.in_ok-found.ensures.all
    c.in_ok-into_list.ensures in
    subst (λ count. count ≤ c.args.limit) (sym c.in_ok-into_list.ensures.long ∙ ap length is)
    c.in_ok-found.ensures.found.few
