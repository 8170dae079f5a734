-- The dictionary is due, or why there is none.
use Rattle.std.proofs.Common.{◌≡◌, ◌∙◌, ap, inl, sym, Ok}
use Rattle.std.specs.Arc.{arc_value}
use Rattle.outside.specs.lists.AnswerLaws.{gives-fault}
use Rattle.outside.specs.lists.Answers.{FailsAs}
use Rattle.own_dictionary.specs.dictionary_swap.Loads.{MayComeOfLoads, lexicon_due}
use Rattle.own_dictionary.specs.dictionary_swap.declared.fault.LoadFault.TheVariants.{NoMemory}
use Rattle.file_loading.specs.DueLaws.{some-there}
use Rattle.file_loading.proofs.loading.load_speller.Goals as goal

pub returns-in_err-speller-clause-due : goal.returns-in_err-speller-clause-due
returns-in_err-speller-clause-due g c =
    let there = some-there (g.F.Files.told c.args.files.now) c.args.aff.now c.args.dic.now
    {P = λ there. FailsAs MayComeOfLoads (lexicon_due there) c.in_err-speller.field-0.0}
    c.in_err-speller.ensures.found c.in_err-speller.ensures.told in (
      there.0,
      there.1,
      gives-fault MayComeOfLoads (λ judge. arc_value judge) c.from_residual.result there.2
          c.from_residual.ensures.1,
    )

pub returns-in_err-shared-clause-due : goal.returns-in_err-shared-clause-due
returns-in_err-shared-clause-due g c =
    let there = some-there (g.F.Files.told c.args.files.now) c.args.aff.now c.args.dic.now
    {P = λ there. lexicon_due there ≡ Ok c.in_ok-speller.speller}
    c.in_ok-speller.ensures.found c.in_ok-speller.ensures.told in (
      there.0,
      there.1,
      gives-fault MayComeOfLoads {fault = NoMemory} (λ judge. arc_value judge)
          c.from_residual-in_err-shared.result (inl tt) c.from_residual-in_err-shared.ensures.1,
    )

pub returns-clause-due : goal.returns-clause-due
returns-clause-due g c =
    let there = some-there (g.F.Files.told c.args.files.now) c.args.aff.now c.args.dic.now
    {P = λ there. lexicon_due there ≡ Ok c.in_ok-speller.speller}
    c.in_ok-speller.ensures.found c.in_ok-speller.ensures.told in
    (there.0, there.1, there.2 ∙ ap Ok (sym c.in_ok-shared.ensures))
