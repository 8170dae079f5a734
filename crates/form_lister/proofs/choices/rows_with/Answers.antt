-- The two places found by halves are the bounds of the rows.
use Rattle.std.proofs.Common.{rules, ◌≡◌, ◌∙◌, sym, ap, subst, true, false, ltb, leb, take, drop}
use Rattle.std.specs.List.Sorted.{IsNonDecreasingBy, IsPartitionPoint}
use Rattle.std.proofs.lemmas.List.Sorted.{IsNonDecreasingBy-drop, IsPartitionPoint-from_clause}
use Rattle.std.proofs.lemmas.List.Sorted.{IsPartitionedBy-ltb, IsPartitionedBy-leb}
use Rattle.form_lister.specs.Choices.{HasRowsOf}
use Rattle.form_lister.specs.declared.choices.RuleRow.{RuleRow}
use Rattle.form_lister.proofs.ChoiceLemmas.{found-rows}
use Rattle.form_lister.proofs.choices.rows_with.Goals as goal

pub returns : goal.returns
returns c = λ rising.
    let rows = c.args.rows.now in
    let flag = c.args.flag in
    let n = λ (row : RuleRow). row.flag in
    let start = c.partition_point-start.result in
    let end = c.partition_point-end.result in
    let rest : c.split_at.result.1.now ≡ drop start rows = c.split_at.ensures.back in
    let first : IsPartitionPoint (λ y. ltb (n y) flag ≡ true) (λ y. ltb (n y) flag ≡ false) rows
    start =
    IsPartitionPoint-from_clause (λ y. ltb (n y) flag) rows start
    c.partition_point-start.ensures.partitioned (IsPartitionedBy-ltb n rows flag rising)
    (λ a r f called. search rules) in
    let last : IsPartitionPoint (λ y. leb (n y) flag ≡ true) (λ y. leb (n y) flag ≡ false)
    c.split_at.result.1.now end =
    IsPartitionPoint-from_clause (λ y. leb (n y) flag) c.split_at.result.1.now end
    c.partition_point-end.ensures.partitioned
    (IsPartitionedBy-leb n c.split_at.result.1.now flag
    (subst (IsNonDecreasingBy n) (sym rest) (IsNonDecreasingBy-drop n start rows rising)))
    (λ a r f called. search rules) in
    subst (HasRowsOf rows flag) (sym (c.split_at-2.ensures.front ∙ ap (take end) rest))
    (found-rows rows flag start end first
    (subst (λ xs. IsPartitionPoint (λ y. leb (n y) flag ≡ true) (λ y. leb (n y) flag ≡ false) xs
    end) rest last))
