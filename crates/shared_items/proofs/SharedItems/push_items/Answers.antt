-- The two chunks are the front of the items and the rest of them.
use Rattle.std.proofs.Common.{◌≡◌, ◌∙◌, ◌++◌, ap, ap₂, append_assoc}
use Rattle.std.proofs.lemmas.List.{take-append-drop}
use Rattle.shared_items.proofs.ChunkLemmas.{on_ok_is}
use Rattle.shared_items.proofs.SharedItems.push_items.Goals as goal

pub returns : goal.returns
returns g c =
    let old = c.args.self.now in
    let items = c.args.items.items in
    let early = c.in_ok-new-2.field-0 in
    let later = c.in_ok-new-3.field-0 in
    let first : c.push_chunk-2.new.self ≡ old ++ early = c.in_ok-push_chunk.ensures in
    let all : early ++ later ≡ items =
    ap₂ (λ xs ys. xs ++ ys) (c.in_ok-new-2.ensures ∙ c.in_ok-later.ensures.items)
    (c.in_ok-new-3.ensures ∙ c.in_ok-later.ensures.tail) ∙ take-append-drop 32 items in
    on_ok_is c.push_chunk-3.result c.push_chunk-3.new.self (c.push_chunk-2.new.self ++ later)
    (old ++ items)
    (ap (λ xs. xs ++ later) first ∙ append_assoc old early later ∙ ap (λ xs. old ++ xs) all)
    c.push_chunk-3.ensures
