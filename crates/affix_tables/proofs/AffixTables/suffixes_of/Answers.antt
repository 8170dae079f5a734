-- The places at the endings, sorted, are those of the rules whose added text ends the word.
use Rattle.std.proofs.Common.{subst, IsPermutation}
use Rattle.affix_tables.proofs.GatherLemmas.{suffixes-found}
use Rattle.affix_tables.proofs.AffixTables.suffixes_of.Goals as goal

pub returns : goal.returns
returns c = λ rules holds.
    suffixes-found rules c.args.self.now.suffixes c.args.word.now c.sort_unstable.new.self.items
    holds.suffixes
    (subst (λ found. IsPermutation found c.sort_unstable.new.self.items) c.in_ok-endings.ensures
    c.sort_unstable.ensures.permutation)
    c.sort_unstable.ensures.sorted
