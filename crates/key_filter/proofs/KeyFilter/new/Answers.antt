-- No bit is set.
use Rattle.std.proofs.Common.{rules, ◌≡◌, ◌∙◌, ◌^◌, ◌*◌, ◌%◌, ap, replicate}
use Rattle.std.proofs.lemmas.Nat.{one_shl}
use Rattle.key_filter.proofs.FilterLemmas.{new-has-none}
use Rattle.key_filter.proofs.KeyFilter.new.Goals as goal

pub returns : goal.returns
returns c = λ key small.
    let bits = c.min-bits.result in
    let one : (1 * 2 ^ bits) % 2 ^ 64 ≡ 2 ^ bits = one_shl bits 64 (search rules) in
    new-has-none _ bits key (search rules) (search rules) (search rules)
    (c.in_ok-words.ensures.items_if_clones_equal (λ y is. is) ∙ ap (λ n. replicate n 0) one) small
