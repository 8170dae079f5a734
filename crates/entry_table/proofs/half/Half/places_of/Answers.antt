-- From each place of the word the walk goes on to the one before.
use Rattle.std.proofs.Common.{◌≡◌, sym, ap, subst, suc, ◌<◌, ◌≤◌, ◌++◌, arith}
use Rattle.entry_table.specs.EntryTable.{has_word}
use Rattle.entry_table.proofs.EntryLemmas.{end_of, last_where-below}
use Rattle.entry_table.proofs.PlaceLemmas.{PlacesBehind, places-first, places-at, places-more}
use Rattle.entry_table.proofs.PlaceLemmas.{places-last}
use Rattle.entry_table.proofs.half.Half.places_of.Goals as goal

pub loop-next-init : goal.loop-next-init
loop-next-init c =
    subst (PlacesBehind c.args.entries.now (c.args.front.now ++ c.args.back.now)
    c.last_of-next.result) (sym c.new-places.ensures.items)
    (places-first c.args.entries.now (c.args.front.now ++ c.args.back.now)
    c.last_of-next.result c.last_of-next.ensures)

pub before-next-requires-clause-place : goal.before-next-requires-clause-place
before-next-requires-clause-place c =
    places-at c.args.entries.now (c.args.front.now ++ c.args.back.now) c.in-Some.place
    c.loop-next.places.items
    (subst (λ next. PlacesBehind c.args.entries.now (c.args.front.now ++ c.args.back.now) next
    c.loop-next.places.items) c.in-Some.is c.loop-next.invariant)

pub loop-next-smaller : goal.loop-next-smaller
loop-next-smaller c =
    let place = c.in-Some.place in
    let below : end_of c.before-next.result ≤ place =
    subst (λ found. end_of found ≤ place) (sym c.before-next.ensures)
    (last_where-below (has_word _) c.args.entries.now place) in
    let is : end_of c.loop-next.next ≡ suc place = ap end_of c.in-Some.is in
    let less : end_of c.before-next.result < end_of c.loop-next.next = omega (arith, below, is) in
    less

pub loop-next-preserved : goal.loop-next-preserved
loop-next-preserved c =
    places-more c.args.entries.now (c.args.front.now ++ c.args.back.now) c.in-Some.place
    c.before-next.result c.loop-next.places.items c.push.new.self.items
    (subst (λ next. PlacesBehind c.args.entries.now (c.args.front.now ++ c.args.back.now) next
    c.loop-next.places.items) c.in-Some.is c.loop-next.invariant)
    c.in_ok-push.ensures.ok c.before-next.ensures

pub returns : goal.returns
returns c =
    places-last c.args.entries.now (c.args.front.now ++ c.args.back.now)
    c.loop-next.places.items
    (subst (λ next. PlacesBehind c.args.entries.now (c.args.front.now ++ c.args.back.now) next
    c.loop-next.places.items) c.in_default.is c.loop-next.invariant)
