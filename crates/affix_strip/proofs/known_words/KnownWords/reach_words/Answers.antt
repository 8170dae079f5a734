-- It is told of the words of which one character more is kept, or no word begins so.
use Rattle.std.proofs.Common.{◌≡◌, ◌∙◌, ◌+◌, ◌-◌, ap, sym, ℕ, take, drop, List, arith}
use Rattle.spell_types.specs.lists.Laws.{take-rest}
use Rattle.key_filter.specs.Filter.{may_have}
use Rattle.entry_table.specs.declared.hashed.TheConstants.{START}
use Rattle.entry_table.specs.Hashes.{folded, hash_of}
use Rattle.affix_strip.proofs.EdgeLemmas.{hash-more}
use Rattle.entry_table.specs.HashLaws.{folded-none}
use Rattle.affix_strip.proofs.ReachingLemmas.{words-none, words-more, words-end, words-all}
use Rattle.affix_strip.proofs.known_words.KnownWords.reach_words.Goals as goal

pub loop-count-init : goal.loop-count-init
loop-count-init c = record {
  hash = sym (folded-none START);
  reaches = words-none c.args.self.now c.args.ends.now c.args.text.now c.args.at c.args.reached.now;
}

-- the hash of one character more
next-hash : (text : List ℕ) (count : ℕ) {key next : ℕ} → key ≡ hash_of (take count text)
    → next ≡ folded key (take ((count + 1) - count) (drop count text))
    → next ≡ hash_of (take (count + 1) text)
next-hash text count was is =
    let one : (count + 1) - count ≡ 1 = omega arith in
    hash-more text count was (ap (λ n. take n (drop count text)) one) is

pub returns-then-not-may_have : goal.returns-then-not-may_have
returns-then-not-may_have c =
    let known = c.args.self.now in
    let text = c.args.text.now in
    let count = c.loop-count.count in
    let next : c.fold-key.result ≡ hash_of (take (count + 1) text) =
    next-hash text count c.loop-count.invariant.hash c.fold-key.ensures in
    words-end known c.args.ends.now text c.args.at count
    (omega (arith, c.if-count-lt-MOST_OF_HEAD.true))
    (ap (may_have known.heads) (sym next) ∙ sym c.may_have-then-count-lt-MOST_OF_HEAD.ensures
    ∙ c.if-not-may_have.true)
    (words-more known c.args.ends.now text c.args.at count
    (take-rest count text) c.loop-count.invariant.hash c.may_have.ensures c.reach_endings.ensures
    c.loop-count.invariant.reaches)

pub loop-count-preserved : goal.loop-count-preserved
loop-count-preserved c =
    let text = c.args.text.now in
    let count = c.loop-count.count in
    record {
      hash = next-hash text count c.loop-count.invariant.hash c.fold-key.ensures;
      reaches = words-more c.args.self.now c.args.ends.now text c.args.at count
          (take-rest count text) c.loop-count.invariant.hash c.may_have.ensures
          c.reach_endings.ensures c.loop-count.invariant.reaches;
    }

pub returns : goal.returns
returns c =
    words-all (omega (arith, c.loop-count-test.false)) c.loop-count.invariant.reaches
