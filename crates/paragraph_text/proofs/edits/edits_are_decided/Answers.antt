-- The laws are lemmas on the definitions alone.
use Rattle.paragraph_text.proofs.Decided.{decided}
use Rattle.paragraph_text.proofs.Kept.{kept}
use Rattle.paragraph_text.proofs.edits.edits_are_decided.Goals as goal

pub returns-clause-decided : goal.returns-clause-decided
returns-clause-decided c = decided

pub returns-clause-kept : goal.returns-clause-kept
returns-clause-kept c = kept
