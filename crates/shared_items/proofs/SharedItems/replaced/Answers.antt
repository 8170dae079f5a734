-- The item is written over the copy of the one in its place.
use Rattle.std.proofs.Common.{◌≡◌, ◌∙◌, refl, ap, ◌++◌, ◌+◌, take, drop, set}
use Rattle.shared_items.specs.Chunks.{items_of}
use Rattle.shared_items.proofs.ChunkLemmas.{replaced_list, ok_is}
use Rattle.shared_items.proofs.SharedItems.replaced.Goals as goal

pub returns : goal.returns
returns g c =
    let chunks = c.as_slice-chunks.result.now in
    let index = c.find-index.result.0 in
    let at = c.find-index.result.1 in
    let copies = c.in_ok-changed.changed.items in
    let whole : items_of chunks ≡ c.args.self.now =
    ap items_of c.as_slice-chunks.ensures.value ∙ c.self.view_is in
    ok_is c.with_chunk.result
    (items_of (take index chunks) ++ set copies at c.args.item
    ++ items_of (drop (index + 1) chunks)) _
    (replaced_list c.args.self.now chunks index c.args.place at c.args.item copies
    (set copies at c.args.item) whole c.find-index.ensures.before c.find-index.ensures.within
    c.in_ok-changed.ensures.0 refl)
    c.with_chunk.ensures
