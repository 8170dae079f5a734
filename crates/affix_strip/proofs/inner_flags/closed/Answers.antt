-- No rule lacks the flag of its class, or all of them were put in.
use Rattle.std.proofs.Common.{◌∙◌, sym}
use Rattle.affix_strip.proofs.InnerFlagLemmas.{none-lacks, all-joined}
use Rattle.affix_strip.proofs.inner_flags.closed.Goals as goal

pub returns-then-not-one_lacks_carrier-clause-closed :
    goal.returns-then-not-one_lacks_carrier-clause-closed
returns-then-not-one_lacks_carrier-clause-closed c =
    none-lacks c.loop.flags c.args.rules.now
    (sym c.one_lacks_carrier.ensures ∙ c.if-not-one_lacks_carrier.true)

pub returns-clause-closed : goal.returns-clause-closed
returns-clause-closed c =
    all-joined c.sets_have_their_flags.ensures.members c.sets_have_their_flags.ensures.told
    c.args.rules.now c.joined-2.result c.if-carry_few.flags c.as_slice-2.result.now
    c.joined-2.ensures (c.as_slice-2.ensures.value ∙ c.in_ok-all.ensures)
