-- A sort moves the words.
use Rattle.std.proofs.Common.{rules, ◌≡◌, ap, subst, Ok}
use Rattle.std.specs.List.Sorted.{IsPermutation}
use Rattle.std.specs.Ordering.{is_lt}
use Rattle.std.specs.declared.alloc.AllocError.{AllocError}
use Rattle.std.proofs.lemmas.Cmp.{nat_list_cmp_total}
use Rattle.std.proofs.lemmas.Iterator.{items_from_collect}
use Rattle.std.proofs.lemmas.Iterator.Consumers.{YieldsList-from_rest}
use Rattle.std.proofs.lemmas.List.Sorted.{ranks_by, answers_always}
use Rattle.form_lister.specs.Forms.{by_characters}
use Rattle.form_lister.proofs.FoundLemmas.{in-order}
use Rattle.form_lister.proofs.found.Found.into_list.Goals as goal

pub returns : goal.returns
returns c =
    let words = c.args.self.words.keys in
    let gathered : c.in_ok-list.list.items ≡ words =
    items_from_collect {E = AllocError} (Ok c.in_ok-list.list) c.in_ok-list.ensures.ran
    (YieldsList-from_rest words c.into_iter.ensures.into_iter_gives.0) in
    in-order words c.sort_unstable_by.new.self.items c.into_iter.ensures.into_iter_gives.3
    (subst (λ ws. IsPermutation ws c.sort_unstable_by.new.self.items) gathered
    c.sort_unstable_by.ensures.permutation)
    (c.sort_unstable_by.ensures.sorted (λ word other. is_lt (by_characters word other))
    (ranks_by nat_list_cmp_total (λ word. word))
    (answers_always _ _ _ (λ f a r g called.
    let is : r ≡ by_characters a.0.now a.1.0.now = search rules in ap is_lt is)))
