-- The files that explain what is read explain the load.
use Rattle.std.proofs.Common.{◌∙◌, ap, sym, rules, None, Ok}
use Rattle.std.proofs.lemmas.Option.{IfSome_then}
use Rattle.own_dictionary.proofs.loading.load.Goals as goal

pub returns-in_err-build-clause-found : goal.returns-in_err-build-clause-found
returns-in_err-build-clause-found g c = (record { aff = None; dic = None }, search rules)

pub returns-clause-told : goal.returns-clause-told
returns-clause-told g c =
    IfSome_then (g.F.Files.told c.args.files.now) c.in_ok-affixes.ensures.told
    (λ folder is. is ∙ ap Ok (sym c.in_ok-build.ensures))
