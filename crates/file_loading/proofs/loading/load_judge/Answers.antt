-- What is asked is the base extended by the list.
use Rattle.std.proofs.Common.{◌∙◌, ap, sym, Ok}
use Rattle.std.specs.Arc.{arc_value}
use Rattle.outside.specs.lists.AnswerLaws.{fails-then, gives-fault}
use Rattle.outside.specs.lists.Answers.{◌>>=◌}
use Rattle.own_dictionary.specs.personal_words.Dictionaries.{in_force}
use Rattle.file_loading.specs.Due.{MayCome, in_force_due}
use Rattle.file_loading.proofs.loading.load_judge.Goals as goal

pub returns-in_err-parts-clause-due : goal.returns-in_err-parts-clause-due
unfolding in_force_due
returns-in_err-parts-clause-due g c =
    let there = c.in_err-parts.ensures.due in (
      there.0,
      there.1,
      gives-fault MayCome (λ judge. arc_value judge) c.from_residual.result
          (fails-then MayCome _ there.2) c.from_residual.ensures.1,
    )

pub returns-clause-due : goal.returns-clause-due
unfolding in_force_due
returns-clause-due g c =
    let there = c.in_ok-parts.ensures.due in (
      there.0,
      there.1,
      ap (λ due. due >>= (λ dictionary. Ok (in_force dictionary))) there.2
          ∙ ap Ok (sym c.in_ok-judge_made.ensures),
    )
