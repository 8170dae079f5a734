-- What begins alike is in the order of what comes next.
use Rattle.std.proofs.Common.{◌∙◌, ℕ, sym, ap, subst, length, nat_eq}
use Rattle.std.specs.List.{filter}
use Rattle.std.specs.List.Sorted.{IsNonDecreasingBy}
use Rattle.text_order.specs.TextOrder.{Row, next_in}
use Rattle.text_order.proofs.TextOrders.{rises, ends-kept}
use Rattle.text_order.proofs.ending.Goals as goal

pub returns : goal.returns
returns g c = λ all front sorted depth is.
    let next = λ (d : ℕ) (row : Row g.row.V.Denot). nat_eq (next_in d row) 0 in
    c.with_next.ensures
    (subst (λ d. IsNonDecreasingBy (next_in {V = g.row.V.Denot} d) c.args.rows.now) depth
    (subst (IsNonDecreasingBy (next_in (length front))) (sym is) (rises front all sorted)))
    ∙ ap (λ d. filter (next d) c.args.rows.now) (sym depth)
    ∙ ap (filter (next (length front))) is
    ∙ ends-kept front all
