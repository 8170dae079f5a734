-- The chunks before, the one that changed, and those behind it.
use Rattle.std.proofs.Common.{◌∙◌, ◌++◌, ap, take, drop}
use Rattle.std.proofs.lemmas.List.{drop-drop}
use Rattle.shared_items.specs.Chunks.{items_of}
use Rattle.shared_items.proofs.with_chunk.Goals as goal

pub returns : goal.returns
returns g c =
    let chunks = c.args.chunks.now in
    let index = c.args.index in
    let later = c.all_but_first.result.now in
    let changed = c.args.changed.items in
    c.in_ok-push_shared-2.ensures
    ∙ ap (λ xs. xs ++ items_of later)
    (c.in_ok-push_items.ensures
    ∙ ap (λ xs. xs ++ changed)
    (c.in_ok-push_shared.ensures
    ∙ ap (λ xs. xs ++ items_of c.split_at.result.0.now) c.in_ok-made.ensures
    ∙ ap items_of c.split_at.ensures.front))
    ∙ ap (λ xs. items_of (take index chunks) ++ changed ++ items_of xs)
    (c.all_but_first.ensures ∙ ap (drop 1) c.split_at.ensures.back ∙ drop-drop 1 index chunks)
