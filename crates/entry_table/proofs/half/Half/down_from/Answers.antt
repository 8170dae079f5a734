-- The place has the word, or another one with its hash is passed over.
use Rattle.std.proofs.Common.{◌≡◌, ◌∙◌, sym, ap, subst, suc, ◌<◌, ◌≤◌, ◌++◌, arith}
use Rattle.entry_table.proofs.EntryLemmas.{end_of, IsOnWay, way-first, way-more, way-found}
use Rattle.entry_table.proofs.EntryLemmas.{way-last, earlier-below}
use Rattle.entry_table.proofs.half.Half.down_from.Goals as goal

pub loop-next-init : goal.loop-next-init
loop-next-init c = way-first c.args.entries.now (c.args.front.now ++ c.args.back.now) c.args.start

pub returns-then-is_word_at : goal.returns-then-is_word_at
returns-then-is_word_at c = λ bound from.
    let entries = c.args.entries.now in
    let word = c.args.front.now ++ c.args.back.now in
    way-found entries word c.args.start c.in-Some.place bound
    (subst (IsOnWay entries word c.args.start) c.in-Some.is c.loop-next.invariant)
    (sym c.is_word_at.ensures ∙ c.if-is_word_at.true) from

pub loop-next-smaller : goal.loop-next-smaller
loop-next-smaller c =
    let place = c.in-Some.place in
    let below : end_of c.earlier_of-next.result ≤ place =
    subst (λ found. end_of found ≤ place) (sym c.earlier_of-next.ensures)
    (earlier-below _ c.args.entries.now c.args.self.now place c.requires) in
    let is : end_of c.loop-next.next ≡ suc place = ap end_of c.in-Some.is in
    let less : end_of c.earlier_of-next.result < end_of c.loop-next.next =
    omega (arith, below, is) in
    less

pub loop-next-preserved : goal.loop-next-preserved
loop-next-preserved c =
    let entries = c.args.entries.now in
    let word = c.args.front.now ++ c.args.back.now in
    way-more entries c.args.self.now word c.args.start c.in-Some.place c.earlier_of-next.result
    c.requires
    (subst (IsOnWay entries word c.args.start) c.in-Some.is c.loop-next.invariant)
    (sym c.is_word_at.ensures ∙ c.if-is_word_at.false) c.earlier_of-next.ensures

pub returns : goal.returns
returns c = λ bound from.
    let entries = c.args.entries.now in
    let word = c.args.front.now ++ c.args.back.now in
    way-last entries word c.args.start bound
    (subst (IsOnWay entries word c.args.start) c.in_default.is c.loop-next.invariant) from
