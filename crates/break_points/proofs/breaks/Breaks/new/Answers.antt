-- Sorting moves patterns, and each is kept once.
use Rattle.std.proofs.lemmas.List.Filters.{dedup_is}
use Rattle.break_points.proofs.Prepared.{same_pattern, pattern-ties, kept-in_order, kept-alike}
use Rattle.break_points.proofs.breaks.Breaks.new.Goals as goal

pub invariant_of-result : goal.invariant_of-result
invariant_of-result c =
    kept-in_order same_pattern pattern-ties c.sort_unstable.new.self.items c.dedup.new.self.items
    c.sort_unstable.ensures.sorted
    (dedup_is same_pattern c.sort_unstable.new.self.items c.dedup.new.self.items
    c.dedup.ensures.filtered)

pub returns : goal.returns
returns c =
    kept-alike same_pattern pattern-ties c.in_ok-patterns.patterns.items
    c.sort_unstable.new.self.items c.dedup.new.self.items c.args.breaks.now
    c.in_ok-patterns.ensures c.sort_unstable.ensures.permutation
    (dedup_is same_pattern c.sort_unstable.new.self.items c.dedup.new.self.items
    c.dedup.ensures.filtered)
