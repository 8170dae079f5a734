-- A text may be cut where UTF-8 is left.
use Rattle.std.proofs.lemmas.Str.{IsCharBoundary-from_drop}
use Rattle.paragraph_marks.proofs.stepping.SoFar.rest.Goals as goal

pub range_from-requires : goal.range_from-requires
range_from-requires c = λ _. IsCharBoundary-from_drop _ _ c.requires.within c.requires.place
