-- The rests are there whose second part begins at the place of a row before the loop's.
use Rattle.compound_words.specs.Rests.{asked_by, patterns_of}
use Rattle.compound_words.proofs.RowLemmas.{AreSoFar}
use Rattle.compound_words.proofs.rows.add_before_rows.Given as goal

abbrev pub invariant-loop-behind : goal.invariant-loop-behind
invariant-loop-behind l =
    AreSoFar (asked_by l.search)
    (patterns_of l.search) l.here l.word l.from l.rows l.behind-index l.fn.row l.row
