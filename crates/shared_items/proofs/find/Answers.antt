-- Where an item stands in the chunk that has it: the chunk's end less its length is how many items
-- stand before it.
use Rattle.std.proofs.Common.{◌≡◌, ◌∙◌, ◌+◌, sym, ap, length, take, arith}
use Rattle.shared_items.specs.Chunks.{items_of, chunk_at}
use Rattle.shared_items.proofs.ChunkLemmas.{end_is, chunk_is}
use Rattle.shared_items.proofs.find.Goals as goal

pub overflow_sub-result : goal.overflow_sub-result
overflow_sub-result g c =
    let end = end_is c.args.chunks.now c.chunk_with-index.result c.index-chunks-index.result
    c.requires.counted c.chunk_with-index.ensures.chunk c.index-chunks-index.is in
    omega (arith, end, ap length c.as_slice.ensures.items)

pub overflow_sub-result-2 : goal.overflow_sub-result-2
overflow_sub-result-2 g c =
    let end = end_is c.args.chunks.now c.chunk_with-index.result c.index-chunks-index.result
    c.requires.counted c.chunk_with-index.ensures.chunk c.index-chunks-index.is in
    omega (arith, end, c.chunk_with-index.ensures.after, ap length c.as_slice.ensures.items)

pub returns-clause-before : goal.returns-clause-before
returns-clause-before g c =
    let end = end_is c.args.chunks.now c.chunk_with-index.result c.index-chunks-index.result
    c.requires.counted c.chunk_with-index.ensures.chunk c.index-chunks-index.is in
    omega (arith, end, c.chunk_with-index.ensures.after, ap length c.as_slice.ensures.items)

pub returns-clause-within : goal.returns-clause-within
returns-clause-within g c =
    let chunks = c.args.chunks.now in
    let index = c.chunk_with-index.result in
    let one = c.index-chunks-index.result in
    let has = c.chunk_with-index.ensures in
    let end = end_is chunks index one c.requires.counted has.chunk c.index-chunks-index.is in
    let more : length (items_of (take (index + 1) chunks)) ≡ one.end =
    sym (ap (λ x. x.end) c.index-chunks-index.is ∙ c.requires.counted index one has.chunk)
    in
    let same : length (chunk_at chunks index) ≡ length one.chunk =
    ap length (chunk_is chunks index one has.chunk)
    ∙ ap (λ x. length x.chunk) (sym c.index-chunks-index.is) in
    omega (arith, end, has.after, has.before, more, same, ap length c.as_slice.ensures.items)
