-- Sorting moves characters.
use Rattle.std.proofs.Common.{rules, ◌≡◌, ◌∙◌, ap}
use Rattle.std.proofs.lemmas.List.Sorted.{IsNonDecreasingBy-from_sort}
use Rattle.spell_types.specs.Conversions.{is_kept}
use Rattle.conversions.proofs.Ignoring.{kept-moved}
use Rattle.conversions.proofs.ignored.Ignored.new.Goals as goal

pub invariant_of-result : goal.invariant_of-result
invariant_of-result c =
    IsNonDecreasingBy-from_sort (λ x. x) c.sort_unstable.new.self.items
    c.sort_unstable.ensures.sorted

pub returns : goal.returns
returns c = λ x.
    let is : c.in_ok-characters.characters.items ≡ c.args.ignore.now = search rules in
    kept-moved c.in_ok-characters.characters.items c.sort_unstable.new.self.items x
    c.sort_unstable.ensures.permutation ∙ ap (λ ignore. is_kept ignore x) is
