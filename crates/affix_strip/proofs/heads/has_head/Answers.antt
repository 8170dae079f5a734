-- No front is one of the heads.
use Rattle.std.proofs.Common.{◌≡◌, ◌∙◌, ◌+◌, ◌-◌, ap, sym, take, drop, arith}
use Rattle.key_filter.specs.Filter.{may_have}
use Rattle.entry_table.specs.declared.hashed.TheConstants.{START}
use Rattle.entry_table.specs.Hashes.{hash_of}
use Rattle.affix_strip.proofs.EdgeLemmas.{hash-more}
use Rattle.affix_strip.proofs.HeadLemmas.{none-first, one-head-more}
use Rattle.entry_table.specs.HashLaws.{folded-none}
use Rattle.affix_strip.proofs.heads.has_head.Goals as goal

pub loop-count-init : goal.loop-count-init
loop-count-init c = record {
  hash = sym (folded-none START);
  none = none-first c.args.heads.now c.args.word.now
      (ap (may_have c.args.heads.now) (folded-none START) ∙ sym c.may_have.ensures
      ∙ c.if-may_have.false);
}

pub loop-count-preserved : goal.loop-count-preserved
loop-count-preserved c =
    let word = c.args.word.now in
    let count = c.loop-count.count in
    let one : (count + 1) - count ≡ 1 = omega arith in
    let next : c.fold-key.result ≡ hash_of (take (count + 1) word) =
    hash-more word count c.loop-count.invariant.hash (ap (λ n. take n (drop count word)) one)
    c.fold-key.ensures in
    record {
      hash = next;
      none = one-head-more c.args.heads.now word count
          (ap (may_have c.args.heads.now) (sym next) ∙ sym c.may_have-in-loop-count.ensures
          ∙ c.if-may_have-2.false)
          c.loop-count.invariant.none;
    }
