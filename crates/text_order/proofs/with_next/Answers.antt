-- The first and the last row bound what comes next in the others.
use Rattle.std.proofs.Common.{◌∙◌, ◌⊎◌, ◌<◌, inl, inr, ap, slice_get}
use Rattle.std.specs.Option.{option_map_or}
use Rattle.text_order.specs.TextOrder.{Row, next_in}
use Rattle.text_order.proofs.TextOrders.{all_next, none_next}
use Rattle.text_order.proofs.with_next.Goals as goal
use Rattle.text_order.proofs.with_next.Goals.{then-next-low-via-then-next-low}
use Rattle.text_order.proofs.with_next.Goals.{then-next-low-via-else-next-low+then-high-next-2}

pub returns-then-high-next : goal.returns-then-high-next
returns-then-high-next g c = λ rising.
    let n = λ (row : Row g.row.V.Denot). next_in c.args.depth row in
    all_next n c.args.next c.next_of-low.result c.next_of-high.result c.args.rows.now rising
    c.next_of-low.ensures
    (c.next_of-high.ensures ∙ ap (λ place. option_map_or n (slice_get c.args.rows.now place) 0)
    c.saturating_sub.ensures)
    c.if-low-next.true c.if-high-next.true

pub returns-then-next-low : goal.returns-then-next-low
returns-then-next-low g c = λ rising.
    let n = λ (row : Row g.row.V.Denot). next_in c.args.depth row in
    let outside : (c.args.next < c.next_of-low.result) ⊎ (c.next_of-high.result < c.args.next) =
    elim c.then-next-low.branch [
      | then-next-low-via-then-next-low w ↦ inl w.if-next-low.true
      | then-next-low-via-else-next-low+then-high-next-2 w ↦ inr w.if-high-next-2.true
    ] in
    c.split_at.ensures.front
    ∙ none_next n c.args.next c.next_of-low.result c.next_of-high.result c.args.rows.now rising
    c.next_of-low.ensures
    (c.next_of-high.ensures ∙ ap (λ place. option_map_or n (slice_get c.args.rows.now place) 0)
    c.saturating_sub.ensures)
    outside
