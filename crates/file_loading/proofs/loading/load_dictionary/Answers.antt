-- The dictionary that is made of the parts is that of the parts.
use Rattle.std.proofs.Common.{◌∙◌, inl, sym, ap, Ok}
use Rattle.outside.specs.lists.AnswerLaws.{gives-fault}
use Rattle.file_loading.specs.Due.{MayCome}
use Rattle.file_loading.specs.declared.failure.Failure.TheVariants.{NoMemory}
use Rattle.file_loading.proofs.loading.load_dictionary.Goals as goal

pub returns-in_err-base-clause-due : goal.returns-in_err-base-clause-due
returns-in_err-base-clause-due g c =
    let there = c.in_err-base.ensures.due in (
      there.0,
      there.1,
      gives-fault MayCome (λ d. d) c.from_residual.result there.2 c.from_residual.ensures.1,
    )

pub returns-in_err-new-clause-due : goal.returns-in_err-new-clause-due
returns-in_err-new-clause-due g c =
    let there = c.in_ok-base.ensures.due in (
      there.0,
      there.1,
      gives-fault MayCome {fault = NoMemory} (λ d. d) c.from_residual-in_err-new.result (inl tt)
          c.from_residual-in_err-new.ensures.1,
    )

pub returns-clause-due : goal.returns-clause-due
returns-clause-due g c =
    let there = c.in_ok-base.ensures.due in
    (there.0, there.1, there.2 ∙ ap Ok (sym c.base.view_is ∙ sym c.in_ok-new.ensures))
