-- The first of three passes.
use Rattle.std.proofs.Common.{◌++◌, [], ◌∷◌, ◌∙◌, ap, refl}
use Rattle.aff_lines.specs.declared.names.Pass.TheVariants as Pass
use Rattle.aff_lines.specs.Faults.{first_fault}
use Rattle.aff_lines.specs.Passes.{bad_faults, pass_faults}
use Rattle.aff_lines.proofs.early_fault.Goals as goal

pub returns : goal.returns
returns c =
    let rows = c.args.rows.now in
    let faults = pass_faults c.kind_said-kind.result rows in
    let third = c.first_of_passes-third.ensures (faults Pass.Third) [] c.find_fault.ensures refl in
    let second =
    c.first_of_passes-second.ensures (faults Pass.Second) (faults Pass.Third ∷ [])
    c.find_fault-2.ensures third in
    c.first_of_passes.ensures (faults Pass.First ++ bad_faults c.args.bad)
    (faults Pass.Second ∷ faults Pass.Third ∷ [])
    c.encoding_fault.ensures second
    ∙ ap (λ kind. first_fault ((pass_faults kind rows Pass.First ++ bad_faults c.args.bad)
    ∷ pass_faults kind rows Pass.Second ∷ pass_faults kind rows Pass.Third ∷ []))
    c.kind_said-kind.ensures
