-- Each step gives what is due.
use Rattle.std.proofs.Common.{refl, subst, Ok}
use Rattle.own_dictionary.specs.personal_words.Dictionaries.{OwnSeen}
use Rattle.file_loading.specs.Operands.{DictionaryNamed}
use Rattle.file_loading.proofs.DueLemmas.{IsLoaded, base-not-loaded, dictionary-made}
use Rattle.file_loading.proofs.DueLemmas.{list-not-loaded}
use Rattle.file_loading.proofs.loading.load_parts.Goals as goal

pub returns-in_err-base-clause-due : goal.returns-in_err-base-clause-due
returns-in_err-base-clause-due g c =
    let told = g.F.Files.told c.args.files.now in
    let result = c.from_residual.result in
    subst (λ (names : DictionaryNamed). IsLoaded told names result) c.names.view_is
    (base-not-loaded told _ result c.in_err-base.ensures.due c.from_residual.ensures.1)

pub returns-in_err-own-clause-due : goal.returns-in_err-own-clause-due
returns-in_err-own-clause-due g c =
    let told = g.F.Files.told c.args.files.now in
    let result = c.from_residual-in_err-own.result in
    subst (λ (names : DictionaryNamed). IsLoaded told names result) c.names.view_is
    (list-not-loaded told _ result c.in_ok-base.ensures.due
    (rw c.in_ok-base.ensures.same at c.in_err-own.ensures.due)
    c.from_residual-in_err-own.ensures.1)

pub returns-clause-due : goal.returns-clause-due
returns-clause-due g c =
    let told = g.F.Files.told c.args.files.now in
    let parts : OwnSeen = record { base = c.in_ok-base.base; own = c.in_ok-own.own } in
    subst (λ (names : DictionaryNamed). IsLoaded told names (Ok parts)) c.names.view_is
    (dictionary-made told _ (Ok parts) c.in_ok-base.ensures.due
    (rw c.in_ok-base.ensures.same at c.in_ok-own.ensures.due) refl)
