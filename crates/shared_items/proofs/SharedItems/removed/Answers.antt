-- The item is taken from the copies of the chunk in which it lies.
use Rattle.std.proofs.Common.{◌≡◌, ◌∙◌, ap, ◌++◌, ◌+◌, take, drop}
use Rattle.shared_items.specs.Chunks.{items_of}
use Rattle.shared_items.proofs.ChunkLemmas.{removed_list, ok_is}
use Rattle.shared_items.proofs.SharedItems.removed.Goals as goal

pub returns : goal.returns
returns g c =
    let chunks = c.as_slice-chunks.result.now in
    let index = c.find-index.result.0 in
    let at = c.find-index.result.1 in
    let copies = c.in_ok-changed.changed.items in
    let whole : items_of chunks ≡ c.args.self.now =
    ap items_of c.as_slice-chunks.ensures.value ∙ c.self.view_is in
    ok_is c.with_chunk.result
    (items_of (take index chunks) ++ c.remove.new.self.items
    ++ items_of (drop (index + 1) chunks)) _
    (removed_list c.args.self.now chunks index c.args.place at copies c.remove.new.self.items whole
    c.find-index.ensures.before c.find-index.ensures.within c.in_ok-changed.ensures.0
    c.remove.ensures.items)
    c.with_chunk.ensures
