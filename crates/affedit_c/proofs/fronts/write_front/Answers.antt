-- One item more is put, and at the end there is none or no room left.
use Rattle.std.proofs.Common.{◌≡◌, ◌+◌, ◌<◌, ◌≤◌, ◌∙◌, ap, suc, length, map, set, arith}
use Rattle.std.proofs.lemmas.List.{length-map}
use Rattle.affedit_c.proofs.FrontLemmas.{begun, begun-next, begun-full, begun-all}
use Rattle.affedit_c.proofs.fronts.write_front.Goals as goal

pub loop-place-preserved : goal.loop-place-preserved
loop-place-preserved g c =
    let tells = g.W.Telling.told c.args.telling.now in
    let place = c.loop-place.place in
    let items = c.args.items.now in
    let array = c.args.array.now in
    let within : place < length items = c.loop-place-test.true in
    let room : place < length array = omega (
      arith,
      c.loop-place.auto.array,
      c.if-place-array.true,
    ) in
    let next : suc place ≡ place + 1 = omega arith in
    let told : c.tell.result ≡ tells c.index-items-place.result =
    c.tell.ensures.told
    ∙ ap (λ telling. g.W.Telling.told telling c.index-items-place.result)
    c.loop-place.invariant.telling in
    record {
      left = omega arith;
      room = omega arith;
      telling = c.tell.ensures.same ∙ c.loop-place.invariant.telling;
      array = ap (λ before. set before place c.tell.result) c.loop-place.invariant.array
          ∙ begun-next tells place items array
          c.index-items-place.result c.tell.result within room c.index-items-place.is told
          ∙ ap (λ n. begun n (map tells items) array) next;
    }

pub returns-else-place-array : goal.returns-else-place-array
returns-else-place-array g c =
    let tells = g.W.Telling.told c.args.telling.now in
    let place = c.loop-place.place in
    let items = c.args.items.now in
    let array = c.args.array.now in
    let within : place < length items = c.loop-place-test.true in
    let full : place ≡ length array = omega (
      arith,
      c.loop-place.auto.array,
      c.loop-place.invariant.room,
      c.if-place-array.false,
    ) in
    let more : length array ≤ length (map tells items) = omega (arith, length-map items tells) in
    c.loop-place.invariant.array
    ∙ begun-full place (map tells items) array (length (map tells items)) full more

pub returns-after-loop-place : goal.returns-after-loop-place
returns-after-loop-place g c =
    let tells = g.W.Telling.told c.args.telling.now in
    let place = c.loop-place.place in
    let items = c.args.items.now in
    let array = c.args.array.now in
    let all : place ≡ length items = omega (
      arith,
      c.loop-place.invariant.left,
      c.loop-place-test.false,
    ) in
    let room : length items ≤ length array = omega (arith, c.loop-place.invariant.room) in
    let same : length (map tells items) ≡ length items = length-map items tells in
    c.loop-place.invariant.array
    ∙ begun-all place (map tells items) array (length (map tells items)) (omega arith)
    (omega arith) (omega arith)
