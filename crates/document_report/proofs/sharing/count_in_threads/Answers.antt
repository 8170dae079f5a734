-- Each taker has taken shares of this part, by this judge.
use Rattle.std.proofs.Common.{◌≡◌, IfOk, subst, rules}
use Rattle.std.specs.Arc.{arc_value}
use Rattle.document_report.specs.Parts.{AreOfShares}
use Rattle.document_report.proofs.ShareLemmas.{all-done}
use Rattle.document_report.proofs.sharing.count_in_threads.Goals as goal

pub add_shares-requires-clause-taken : goal.add_shares-requires-clause-taken
add_shares-requires-clause-taken g c =
    let lexicon_of = g.J.Judge.lexicon in
    all-done
    (λ taker. (taker.output ≡ c.args.output) × (taker.judge.now ≡ c.args.judge.now)
    × (taker.shares.now ≡ record { part = c.args.part; size = c.share_size.result }))
    (λ taker. IfOk taker.taken
    (AreOfShares c.args.output (lexicon_of (arc_value c.args.judge.now))
    (record { part = c.args.part; size = c.share_size.result })))
    (λ old new. IfOk new.taken
    (AreOfShares old.output (lexicon_of (arc_value old.judge.now)) old.shares.now))
    c.in_ok-takers.takers.items c.as_slice.result.now
    (λ old new is took.
    subst (λ output. IfOk new.taken
    (AreOfShares output (lexicon_of (arc_value c.args.judge.now))
    (record { part = c.args.part; size = c.share_size.result }))) is.0
    (subst (λ judge. IfOk new.taken
    (AreOfShares old.output (lexicon_of (arc_value judge))
    (record { part = c.args.part; size = c.share_size.result }))) is.1
    (subst (λ shares. IfOk new.taken
    (AreOfShares old.output (lexicon_of (arc_value old.judge.now)) shares)) is.2 took)))
    c.in_ok-takers.ensures (search rules)
