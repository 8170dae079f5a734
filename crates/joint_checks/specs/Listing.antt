-- The written joints found so far.
use Rattle.std.specs.Prelude.{Bool, not, ◌&&◌, List, [], ◌∷◌, ◌++◌, if◌then◌else◌}
use Rattle.std.specs.List.{list_any}
use Rattle.std.specs.Option.{option_map_or}
use Rattle.spell_types.specs.declared.joints.JointPattern.{JointPattern}
use Rattle.spell_types.specs.declared.joints.WrittenJoint.{WrittenJoint}
use Rattle.spell_types.specs.Joints.{is_same_joint, is_written_joint, joint_of_row}
use Rattle.joint_checks.specs.declared.listing.Neighbours.{Neighbours}

-- whether a joint is one of two parts
abbrev pub is_joint_between : Neighbours → WrittenJoint → Bool
is_joint_between two joint = is_written_joint two.lexicon.now two.x.now two.d.now two.y.now two.e.now joint

-- whether a joint like this is among these
abbrev pub is_listed : List WrittenJoint → WrittenJoint → Bool
is_listed found joint = list_any (is_same_joint joint) found

-- the joints with this one at the end, if it passes and is not there already
abbrev pub with_joint : (WrittenJoint → Bool) → List WrittenJoint → WrittenJoint → List WrittenJoint
with_joint passes found joint =
    if passes joint && not (is_listed found joint) then found ++ joint ∷ [] else found

-- the joints with that of a row at the end, if it has one
abbrev pub with_row : (WrittenJoint → Bool) → List WrittenJoint → JointPattern → List WrittenJoint
with_row passes found row = option_map_or (with_joint passes found) (joint_of_row row) found
