-- The fronts are those of the rows before the loop's place.
use Rattle.compound_words.proofs.FrontLemmas.{AreFrontsSoFar}
use Rattle.compound_words.proofs.pieces.Start.new.Given as goal

abbrev pub invariant-loop-row : goal.invariant-loop-row
invariant-loop-row l = AreFrontsSoFar l.before l.lexicon.affixes.joints l.row-index l.fronts.items
