-- The place found by halves is that of the chunk that has the item.
use Rattle.std.proofs.Common.{rules, ◌≡◌, true, false, leb}
use Rattle.std.specs.List.Sorted.{IsPartitionPoint}
use Rattle.std.proofs.lemmas.List.Sorted.{IsPartitionPoint-from_clause, IsPartitionedBy-leb}
use Rattle.shared_items.specs.declared.Counted.{Counted}
use Rattle.shared_items.proofs.ChunkLemmas.{found, ends_rise}
use Rattle.shared_items.proofs.chunk_with.Goals as goal

pub returns : goal.returns
returns g c =
    let chunks = c.args.chunks.now in
    let place = c.args.place in
    let index = c.partition_point.result in
    let point : IsPartitionPoint (λ (y : Counted g.row.T.Denot). leb y.end place ≡ true)
    (λ y. leb y.end place ≡ false) chunks index =
    IsPartitionPoint-from_clause (λ y. leb y.end place) chunks index
    c.partition_point.ensures.partitioned
    (IsPartitionedBy-leb (λ y. y.end) chunks place (ends_rise chunks c.requires.counted))
    (λ a r f called. search rules) in
    found chunks place index c.requires.counted c.requires.inside c.partition_point.ensures.bound
    point
