-- The place has its row, or no rest begins there.
use Rattle.std.proofs.Common.{◌∙◌, ◌-◌, refl, sym, subst}
use Rattle.compound_words.specs.Rests.{asked_by, patterns_of, AreHeads, AreRows}
use Rattle.compound_words.proofs.RowLemmas.{rows-none, rows-more, empty-none}
use Rattle.compound_words.proofs.rows.add_row.Goals as goal

pub returns-in_ok-push : goal.returns-in_ok-push
returns-in_ok-push c =
    subst (AreRows (asked_by c.args.search.now) (patterns_of c.args.search.now)
    c.args.reached.now c.args.word.now (c.args.from - 1)) (sym c.in_ok-push.ensures.items)
    (rows-more
    (record { place = c.args.from; rests = c.in_ok-rests.rests; heads = c.in_ok-heads.heads }) refl
    c.requires.rows c.requires.some c.requires.within c.in_ok-rests.ensures
    (subst (λ rests. AreHeads rests c.in_ok-heads.heads) c.deref-then-not-is_empty.ensures
    c.in_ok-heads.ensures))

pub returns-else-not-is_empty : goal.returns-else-not-is_empty
returns-else-not-is_empty c =
    rows-none (asked_by c.args.search.now) (patterns_of c.args.search.now) c.args.reached.now
    c.args.word.now c.args.from c.args.rows.now.items c.in_ok-rests.rests c.requires.rows
    c.in_ok-rests.ensures
    (empty-none c.in_ok-rests.rests (sym c.is_empty.ensures ∙ c.if-not-is_empty.false))
