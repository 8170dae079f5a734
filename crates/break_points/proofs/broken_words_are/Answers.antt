-- The laws are lemmas on the definitions alone.
use Rattle.break_points.proofs.Trees.{broken_tree, tree_broken}
use Rattle.break_points.proofs.broken_words_are.Goals as goal

pub returns-clause-tree : goal.returns-clause-tree
returns-clause-tree c = broken_tree

pub returns-clause-broken : goal.returns-clause-broken
returns-clause-broken c = tree_broken
