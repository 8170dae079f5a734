-- What is undone is what was attached.
use Rattle.affix_classes.proofs.BackLemmas.{suffix-undone}
use Rattle.affix_classes.proofs.undoing.undo_suffix.Goals as goal

pub returns-clause-undone : goal.returns-clause-undone
returns-clause-undone c =
    suffix-undone c.args.full_strip c.args.rule.now c.args.word.now c.suffix_stem.result c.requires
    c.suffix_stem.ensures
