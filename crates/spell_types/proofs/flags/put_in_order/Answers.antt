-- A sort moves flags, and each is kept once.
use Rattle.std.proofs.Common.{refl}
use Rattle.std.proofs.lemmas.List.Filters.{dedup_is}
use Rattle.spell_types.proofs.FlagLemmas.{sorted_set}
use Rattle.spell_types.proofs.flags.put_in_order.Goals as goal

pub returns : goal.returns
returns c =
    sorted_set _ (λ x y. refl) c.args.flags.now.items c.sort_unstable.new.self.items
    c.dedup.new.self.items c.sort_unstable.ensures.permutation c.sort_unstable.ensures.sorted
    (dedup_is _ _ _ c.dedup.ensures.filtered)
