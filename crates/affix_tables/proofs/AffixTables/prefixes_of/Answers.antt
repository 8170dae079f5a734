-- The places at the fronts, sorted, are those of the rules whose added text begins the word.
use Rattle.std.proofs.Common.{subst, IsPermutation}
use Rattle.affix_tables.proofs.GatherLemmas.{prefixes-found}
use Rattle.affix_tables.proofs.AffixTables.prefixes_of.Goals as goal

pub returns : goal.returns
returns c = λ rules holds.
    prefixes-found rules c.args.self.now.prefixes c.args.word.now c.sort_unstable.new.self.items
    holds.prefixes
    (subst (λ found. IsPermutation found c.sort_unstable.new.self.items) c.in_ok-fronts.ensures
    c.sort_unstable.ensures.permutation)
    c.sort_unstable.ensures.sorted
