-- Both laws are lemmas.
use Rattle.spell_types.specs.JointLaws.{joints-are, test-written, written-test}
use Rattle.spell_types.proofs.joints.joints_are_written.Goals as goal

pub returns-clause-tested : goal.returns-clause-tested
returns-clause-tested c =
    λ lexicon x d y e joint.
    (test-written lexicon x d y e joint, written-test lexicon x d y e joint)

pub returns-clause-listed : goal.returns-clause-listed
returns-clause-listed c = joints-are
