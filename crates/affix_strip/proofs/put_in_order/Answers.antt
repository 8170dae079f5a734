-- A sort moves derivations, and each is kept once.
use Rattle.std.proofs.Common.{rules, ◌≡◌, ◌↔◌, ap, Contains}
use Rattle.std.specs.Ordering.{is_lt}
use Rattle.std.proofs.lemmas.List.Filters.{dedup_is}
use Rattle.std.proofs.lemmas.List.Sorted.{ranks_by, answers_always}
use Rattle.spell_types.specs.declared.derivations.Derivation.{Derivation}
use Rattle.affix_strip.specs.Found.{derivation_cmp, AreDerivationsInOrder}
use Rattle.affix_strip.proofs.SameLemmas.{derivations-total, in-order, same-ties, same-is}
use Rattle.affix_strip.proofs.put_in_order.Goals as goal

both : (c : goal.After-dedup) → AreDerivationsInOrder c.dedup.new.self.items
    × ((d : Derivation) → Contains c.dedup.new.self.items d ↔ Contains c.args.found.now.items d)
both c =
    in-order _ same-ties same-is c.args.found.now.items c.sort_unstable_by.new.self.items
    c.dedup.new.self.items c.sort_unstable_by.ensures.permutation
    (c.sort_unstable_by.ensures.sorted (λ x y. is_lt (derivation_cmp x y))
    (ranks_by derivations-total (λ (d : Derivation). d))
    (answers_always _ _ _ (λ f a r g called.
    let is : r ≡ derivation_cmp a.0.now a.1.0.now = search rules in ap is_lt is)))
    (dedup_is _ _ _ c.dedup.ensures.filtered)

pub returns-clause-order : goal.returns-clause-order
returns-clause-order c = (both c).0

pub returns-clause-members : goal.returns-clause-members
returns-clause-members c = (both c).1
