-- A line more goes over from those ahead.
use Rattle.std.proofs.Common.{sym, subst}
use Rattle.text_lines.proofs.LineLemmas.{Walks, walk_more}
use Rattle.text_lines.proofs.lines.Goals as goal

pub loop-line-preserved : goal.loop-line-preserved
loop-line-preserved c =
    subst (λ good. Walks c.args.bytes.now good c.in-Some.next) (sym c.in_ok-push.ensures.ok)
    (walk_more c.args.bytes.now c.loop-line.good c.loop-line.ahead c.in-Some.next c.in-Some.line
    c.loop-line.invariant c.in-Some.ensures.good c.in-Some.ensures.next)
