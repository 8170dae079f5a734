-- The laws are lemmas on the definitions alone.
use Rattle.mark_types.proofs.Locality.{words-local, marks-local, located_words-alone}
use Rattle.mark_types.proofs.marks_are_local.Goals as goal

pub returns-clause-words : goal.returns-clause-words
returns-clause-words c = words-local

pub returns-clause-marks : goal.returns-clause-marks
returns-clause-marks c = marks-local

pub returns-clause-alone : goal.returns-clause-alone
returns-clause-alone c = located_words-alone
