-- The two places found by halves are the bounds of the rows that are kept.
use Rattle.std.proofs.Common.{rules, ◌≡◌, ◌∙◌, sym, ap, subst, true, false, ltb, leb, take, drop}
use Rattle.std.specs.List.Sorted.{IsNonDecreasingBy, IsPartitionPoint}
use Rattle.std.proofs.lemmas.List.Sorted.{IsNonDecreasingBy-drop, IsPartitionPoint-from_clause}
use Rattle.std.proofs.lemmas.List.Sorted.{IsPartitionedBy-ltb, IsPartitionedBy-leb}
use Rattle.text_order.specs.TextOrder.{Row, next_in}
use Rattle.text_order.proofs.TextOrders.{between}
use Rattle.text_order.proofs.found_next.Goals as goal

pub returns : goal.returns
returns g c = λ rising.
    let rows = c.args.rows.now in
    let next = c.args.next in
    let n = λ (row : Row g.row.V.Denot). next_in c.args.depth row in
    let start = c.partition_point-start.result in
    let end = c.partition_point-end.result in
    let rest : c.split_at.result.1.now ≡ drop start rows = c.split_at.ensures.back in
    let first : IsPartitionPoint (λ y. ltb (n y) next ≡ true) (λ y. ltb (n y) next ≡ false) rows
    start =
    IsPartitionPoint-from_clause (λ y. ltb (n y) next) rows start
    c.partition_point-start.ensures.partitioned (IsPartitionedBy-ltb n rows next rising)
    (λ a r f called. search rules) in
    let last : IsPartitionPoint (λ y. leb (n y) next ≡ true) (λ y. leb (n y) next ≡ false)
    c.split_at.result.1.now end =
    IsPartitionPoint-from_clause (λ y. leb (n y) next) c.split_at.result.1.now end
    c.partition_point-end.ensures.partitioned
    (IsPartitionedBy-leb n c.split_at.result.1.now next
    (subst (IsNonDecreasingBy n) (sym rest) (IsNonDecreasingBy-drop n start rows rising)))
    (λ a r f called. search rules) in
    c.split_at-2.ensures.front ∙ ap (take end) rest
    ∙ between n next start end rows first
    (subst (λ xs. IsPartitionPoint (λ y. leb (n y) next ≡ true) (λ y. leb (n y) next ≡ false) xs
    end) rest last)
