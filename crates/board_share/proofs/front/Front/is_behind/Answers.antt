-- Both are beginnings of what both know together.
use Rattle.std.proofs.Common.{◌≤◌, ap, subst, List, length, arith}
use Rattle.std.proofs.lemmas.Bool.Decides.{nat_tests}
use mathlib.Core.List.{IsPrefix}
use Rattle.edit_core.specs.Runs.{Entry}
use Rattle.board_share.proofs.Prefixes.{prefix_shorter}
use Rattle.board_share.proofs.front.Front.is_behind.Goals as goal

pub returns-clause-behind : goal.returns-clause-behind
returns-clause-behind g c is =
    let both = c.learn.new.self.log in
    let this : IsPrefix c.self.inside.seen.log both =
    subst (λ (l : List Entry). IsPrefix l both) (ap (λ s. s.log) c.again-both.ensures)
    c.learn.ensures.2 in
    let less : length c.self.inside.seen.log ≤ length c.other.inside.seen.log =
    grind (arith, nat_tests, c.self.invariant.number, c.other.invariant.number) in
    rw (← c.self.view_is, ← c.other.view_is)
    (prefix_shorter c.self.inside.seen.log c.other.inside.seen.log both this c.learn.ensures.3
    less)

pub returns-clause-ahead : goal.returns-clause-ahead
returns-clause-ahead g c is =
    let both = c.learn.new.self.log in
    let this : IsPrefix c.self.inside.seen.log both =
    subst (λ (l : List Entry). IsPrefix l both) (ap (λ s. s.log) c.again-both.ensures)
    c.learn.ensures.2 in
    let less : length c.other.inside.seen.log ≤ length c.self.inside.seen.log =
    grind (arith, nat_tests, c.self.invariant.number, c.other.invariant.number) in
    rw (← c.self.view_is, ← c.other.view_is)
    (prefix_shorter c.other.inside.seen.log c.self.inside.seen.log both c.learn.ensures.3 this
    less)
