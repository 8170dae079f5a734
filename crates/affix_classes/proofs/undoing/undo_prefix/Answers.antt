-- What is undone is what was attached.
use Rattle.affix_classes.proofs.BackLemmas.{prefix-undone}
use Rattle.affix_classes.proofs.undoing.undo_prefix.Goals as goal

pub returns-clause-undone : goal.returns-clause-undone
returns-clause-undone c =
    prefix-undone c.args.full_strip c.args.rule.now c.args.word.now c.prefix_stem.result c.requires
    c.prefix_stem.ensures
