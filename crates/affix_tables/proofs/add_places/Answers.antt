-- The places of one group more are added.
use Rattle.std.proofs.Common.{rules, ◌∙◌, sym, ap, ◌++◌, take, append_assoc}
use Rattle.affix_tables.specs.Tables.{all_places}
use Rattle.affix_tables.proofs.GroupLemmas.{all_places-more}
use Rattle.affix_tables.proofs.add_places.Goals as goal

pub loop-number-preserved : goal.loop-number-preserved
loop-number-preserved c =
    let before = c.args.found.now.items in
    let groups = c.groups_of-groups.result in
    let number = c.loop-number.number in
    c.in_ok-extend_from_slice.ensures.items
    ∙ ap (λ found. found ++ c.group_places.result.now) c.loop-number.invariant
    ∙ append_assoc before (all_places (take number groups)) c.group_places.result.now
    ∙ ap (λ places. before ++ (all_places (take number groups) ++ places)) c.group_places.ensures
    ∙ ap (λ places. before ++ places) (sym (all_places-more groups number (search rules)))
