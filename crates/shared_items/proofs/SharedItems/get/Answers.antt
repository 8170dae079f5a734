-- The item is the one at its place in its chunk.
use Rattle.std.proofs.Common.{length, ◌≡◌, ◌∙◌, ◌+◌, sym, ap, take, drop, slice_get, arith}
use Rattle.std.specs.Option.{option_copied}
use Rattle.shared_items.specs.Chunks.{items_of, chunk_at}
use Rattle.shared_items.proofs.ChunkLemmas.{parts, got, chunk_is, item_is}
use Rattle.shared_items.proofs.SharedItems.get.Goals as goal

pub returns : goal.returns
returns g c =
    let chunks = c.as_slice-chunks.result.now in
    let index = c.find-index.result.0 in
    let at = c.find-index.result.1 in
    let whole : items_of chunks ≡ c.args.self.now =
    ap items_of c.as_slice-chunks.ensures.value ∙ c.self.view_is in
    let inside : slice_get c.args.self.now c.args.place ≡ slice_get (chunk_at chunks index) at =
    ap (λ xs. slice_get xs c.args.place) (sym whole ∙ parts chunks index)
    ∙ got (items_of (take index chunks)) (chunk_at chunks index)
    (items_of (drop (index + 1) chunks)) c.args.place at c.find-index.ensures.before
    c.find-index.ensures.within in
    let same : chunk_at chunks index ≡ c.as_slice.result.now =
    chunk_is chunks index c.index-chunks-index.result c.find-index.ensures.chunk
    ∙ sym c.as_slice.ensures.items in
    let read : option_copied c.get.result ≡ slice_get c.as_slice.result.now at =
    item_is c.as_slice.result.now at c.get.result
    (omega (arith, c.find-index.ensures.within, ap length same)) c.get.ensures.lookup in
    read ∙ sym (inside ∙ ap (λ xs. slice_get xs at) same)
