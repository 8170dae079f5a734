-- What was found, step by step, is all that there is.
use Rattle.std.proofs.Common.{◌∙◌, ap, fold}
use Rattle.spell_types.specs.Joints.{is_written_joint}
use Rattle.joint_checks.specs.Listing.{with_row}
use Rattle.joint_checks.proofs.ListingLemmas.{found-are-joints}
use Rattle.joint_checks.proofs.listing.joints.Goals as goal

pub returns : goal.returns
returns c =
    let now = c.args in
    let passes = is_written_joint now.lexicon.now now.x.now now.d.now now.y.now now.e.now in
    found-are-joints now.lexicon.now now.x.now now.d.now now.y.now now.e.now
    c.new-found.result.items c.add.new.found.items c.add-2.new.found.items
    c.add_of_rows.new.found.items c.bare_joint.result c.bare_joint-2.result
    c.new-found.ensures.items c.bare_joint.ensures c.in_ok-add.ensures
    c.bare_joint-2.ensures c.in_ok-add-2.ensures
    (c.in_ok-add_of_rows.ensures
    ∙ ap (λ rows. fold (with_row passes) c.add-2.new.found.items rows) c.deref.ensures)
