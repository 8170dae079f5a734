-- Each law is a lemma.
use Rattle.spell_types.proofs.CompoundLemmas.{made_up-parts, compound-relation}
use Rattle.spell_types.proofs.ReplacementLemmas.{fault-relation}
use Rattle.spell_types.proofs.parts.compounds_have_parts.Goals as goal

pub returns-clause-made_up : goal.returns-clause-made_up
returns-clause-made_up c = made_up-parts

pub returns-clause-related : goal.returns-clause-related
returns-clause-related c = compound-relation

pub returns-clause-spelled : goal.returns-clause-spelled
returns-clause-spelled c = fault-relation
