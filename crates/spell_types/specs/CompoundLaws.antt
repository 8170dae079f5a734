-- Laws of the parts of compounds, which the proofs of several crates cite.
use Rattle.std.proofs.Common.{◌≡◌, ◌∙◌, ap, ◌+◌, ◌-◌, ◌==◌, ◌<◌, true, ◌&&◌}
use Rattle.std.proofs.Common.{length, take, arith, length-append, length-drop}
use Rattle.std.proofs.Common.{length-take}
use Rattle.std.proofs.lemmas.Bool.{and_parts, and_from, ltb-true}
use Rattle.spell_types.specs.declared.parts.Part.{Part}
use Rattle.spell_types.specs.Compounds.{Asked, IsGiven, AreJoined, are_joined, is_right_in_case}
use Rattle.spell_types.specs.Compounds.{kept, keeps_some, stretch}
use Rattle.spell_types.specs.JointLaws.{nat-own, nat-same, test-written, written-test}
use Rattle.spell_types.specs.Joints.{is_written_joint}
use Rattle.spell_types.specs.Licences.{is_sound}
use Rattle.spell_types.specs.Parts.{is_long_enough}

-- what is known of two neighbours
pub joined-written : (a : Asked) (part next : Part) → are_joined a part next ≡ true
    → AreJoined a part next
joined-written a part next joined =
    let halves = and_parts (is_written_joint a.lexicon part.text part.d next.text next.d part.joint)
    (next.off_begin == part.joint.off_begin) joined in
    record {
      joint = test-written a.lexicon part.text part.d next.text next.d part.joint halves.0;
      off = nat-same next.off_begin part.joint.off_begin halves.1;
    }

pub written-joined : (a : Asked) (part next : Part) → AreJoined a part next
    → are_joined a part next ≡ true
written-joined a part next joined =
    and_from (is_written_joint a.lexicon part.text part.d next.text next.d part.joint)
    (next.off_begin == part.joint.off_begin)
    (written-test a.lexicon part.text part.d next.text next.d part.joint joined.joint)
    (ap (λ off. off == part.joint.off_begin) joined.off ∙ nat-own part.joint.off_begin)

-- each writes a character
pub stretch-some : (part : Part) → keeps_some part ≡ true → 0 < length (stretch part)
stretch-some part keeps =
    omega (
      arith,
      ltb-true (part.off_begin + part.joint.off_end) (length part.text) keeps,
      length-append (kept part) part.joint.put,
      length-drop part.off_begin (take (length part.text - part.joint.off_end) part.text),
      length-take (length part.text - part.joint.off_end) part.text,
    )

pub given-keeps : (a : Asked) (part : Part) → IsGiven a part → keeps_some part ≡ true
given-keeps a part given =
    (and_parts (is_right_in_case a part.d) (keeps_some part)
    (and_parts (is_sound a.lexicon part.d) (is_right_in_case a part.d && keeps_some part)
    (and_parts (is_long_enough a.lexicon part.text)
    (is_sound a.lexicon part.d && (is_right_in_case a part.d && keeps_some part))
    given.may).1).1).1
