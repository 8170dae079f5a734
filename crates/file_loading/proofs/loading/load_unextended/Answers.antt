-- There is something of the list too.
use Rattle.std.proofs.Common.{subst}
use Rattle.std.specs.Arc.{arc_value}
use Rattle.outside.specs.lists.Answers.{GivesDue}
use Rattle.file_loading.specs.Due.{IsOwnThere, MayCome, OwnFiles, base_due, unextended_due}
use Rattle.file_loading.specs.Operands.{DictionaryNamed}
use Rattle.file_loading.proofs.DueLemmas.{files-there}
use Rattle.file_loading.proofs.loading.load_unextended.Goals as goal

pub returns-clause-due : goal.returns-clause-due
returns-clause-due g c =
    let told = g.F.Files.told c.args.files.now in
    let result = c.load_base_judge.result in
    subst (λ (names : DictionaryNamed). (there : OwnFiles) × IsOwnThere told names there
    × GivesDue MayCome (λ judge. arc_value judge) (unextended_due there) result) c.names.view_is
    (files-there {P = λ there. GivesDue MayCome (λ judge. arc_value judge) (base_due there) result}
    told _ c.load_base_judge.ensures.due)
