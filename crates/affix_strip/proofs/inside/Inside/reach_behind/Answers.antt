-- It is told of the words behind one character more, or of all places.
use Rattle.std.proofs.Common.{◌≡◌, ◌∙◌, ◌+◌, ◌-◌, ap, sym, take, drop, arith}
use Rattle.spell_types.specs.lists.Laws.{take-rest}
use Rattle.entry_table.specs.declared.hashed.TheConstants.{START}
use Rattle.entry_table.specs.Hashes.{hash_of}
use Rattle.affix_strip.proofs.EdgeLemmas.{hash-more}
use Rattle.entry_table.specs.HashLaws.{folded-none}
use Rattle.affix_strip.proofs.ReachingLemmas.{behind-none, behind-more, behind-all, behind-each}
use Rattle.affix_strip.proofs.inside.Inside.reach_behind.Goals as goal

pub loop-count-init : goal.loop-count-init
loop-count-init c = record {
  hash = sym (folded-none START);
  reaches = behind-none c.args.self.now.known c.args.fronts.now c.args.self.now.ends c.args.text.now
      c.args.at c.args.reached.now;
}

pub returns-then-may_have : goal.returns-then-may_have
returns-then-may_have c =
    behind-each c.args.self.now.known c.args.fronts.now c.args.self.now.ends c.args.text.now
    c.args.at
    (c.requires ∙ sym (c.reach_all.ensures.kept.long ∙ c.loop-count.invariant.reaches.kept.long))
    c.loop-count.invariant.reaches.kept c.reach_all.ensures

pub loop-count-preserved : goal.loop-count-preserved
loop-count-preserved c =
    let text = c.args.text.now in
    let count = c.loop-count.count in
    let one : (count + 1) - count ≡ 1 = omega arith in
    let next : c.fold-key.result ≡ hash_of (take (count + 1) text) =
    hash-more text count c.loop-count.invariant.hash (ap (λ n. take n (drop count text)) one)
    c.fold-key.ensures in
    record {
      hash = next;
      reaches = behind-more c.args.self.now.known c.args.fronts.now c.args.self.now.ends text
          c.args.at count (take-rest (count + 1) text) next
          (sym c.may_have.ensures ∙ c.if-may_have.false) c.may_have-may.ensures
          c.reach_words_if.ensures c.loop-count.invariant.reaches;
    }

pub returns : goal.returns
returns c =
    behind-all (omega (arith, c.loop-count-test.false, c.min-count-end.ensures))
    c.loop-count.invariant.reaches
