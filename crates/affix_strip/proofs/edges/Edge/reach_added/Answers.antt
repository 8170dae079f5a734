-- It is told of the place behind one character more.
use Rattle.std.proofs.Common.{◌≡◌, ◌∙◌, ◌+◌, ◌-◌, ap, sym, take, drop, arith}
use Rattle.entry_table.specs.declared.hashed.TheConstants.{START}
use Rattle.affix_strip.specs.Edges.{adds}
use Rattle.entry_table.specs.Hashes.{hash_of}
use Rattle.affix_strip.proofs.EdgeLemmas.{hash-more}
use Rattle.entry_table.specs.HashLaws.{folded-none}
use Rattle.affix_strip.proofs.ReachingLemmas.{added-none, added-more, added-all}
use Rattle.affix_strip.proofs.edges.Edge.reach_added.Goals as goal

pub loop-count-init : goal.loop-count-init
loop-count-init c = record {
  hash = sym (folded-none START);
  reaches = added-none c.args.self.now c.args.text.now c.args.at c.args.whole c.args.reached.now;
}

pub loop-count-preserved : goal.loop-count-preserved
loop-count-preserved c =
    let text = c.args.text.now in
    let count = c.loop-count.count in
    let one : (count + 1) - count ≡ 1 = omega arith in
    let next : c.fold-key.result ≡ hash_of (take (count + 1) text) =
    hash-more text count c.loop-count.invariant.hash (ap (λ n. take n (drop count text)) one)
    c.fold-key.ensures in
    record {
      hash = next;
      reaches = added-more c.args.self.now text c.args.at c.args.whole count
          (c.requires ∙ sym c.loop-count.invariant.reaches.kept.long) c.reach.ensures.kept
          (λ does within. c.reach.ensures.told
          (c.adds.ensures ∙ ap (adds c.args.self.now c.args.whole) next ∙ does) within)
          c.loop-count.invariant.reaches;
    }

pub returns : goal.returns
returns c =
    added-all (omega (arith, c.loop-count-test.false, c.min-count-end.ensures))
    c.loop-count.invariant.reaches
