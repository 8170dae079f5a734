-- No front has the hash of what a rule adds.
use Rattle.std.proofs.Common.{◌≡◌, ◌∙◌, ◌+◌, ◌-◌, ap, sym, take, drop, arith}
use Rattle.key_filter.specs.Filter.{may_have}
use Rattle.entry_table.specs.declared.hashed.TheConstants.{START}
use Rattle.entry_table.specs.Hashes.{hash_of}
use Rattle.affix_strip.proofs.EdgeLemmas.{hash-more}
use Rattle.affix_strip.proofs.HeadLemmas.{no-fronts, one-front-noted, fronts-silent}
use Rattle.entry_table.specs.HashLaws.{folded-none}
use Rattle.affix_strip.proofs.edges.Edge.may_begin.Goals as goal

pub loop-count-init : goal.loop-count-init
loop-count-init c = record {
  hash = sym (folded-none START);
  none = no-fronts c.args.self.now c.args.text.now;
}

pub loop-count-preserved : goal.loop-count-preserved
loop-count-preserved c =
    let edge = c.args.self.now in
    let text = c.args.text.now in
    let count = c.loop-count.count in
    let one : (count + 1) - count ≡ 1 = omega arith in
    let next : c.fold-key.result ≡ hash_of (take (count + 1) text) =
    hash-more text count c.loop-count.invariant.hash (ap (λ n. take n (drop count text)) one)
    c.fold-key.ensures in
    record {
      hash = next;
      none = one-front-noted edge text count
          (ap (may_have edge.plain) (sym next) ∙ sym c.may_have.ensures ∙ c.if-may_have.false)
          (ap (may_have edge.exchanged) (sym next) ∙ sym c.may_have-else-may_have.ensures
          ∙ c.if-may_have-2.false)
          c.loop-count.invariant.none;
    }

pub returns : goal.returns
returns c = λ so rule rest noted begins.
    fronts-silent c.args.self.now c.args.text.now c.loop-count.count c.if-self.false
    c.loop-count.invariant.none
    (omega (arith, c.loop-count-test.false, c.min-count-end.ensures)) rule rest noted begins
