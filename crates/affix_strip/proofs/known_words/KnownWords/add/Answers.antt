-- One character more is in the hash, and then the word is there.
use Rattle.std.proofs.Common.{rules, ◌≡◌, sym, subst, [], chars, IsUtf8}
use Rattle.std.specs.Str.Iter.{chars_rest}
use Rattle.std.proofs.lemmas.Str.{IsUtf8-past_char, chars_past_char}
use Rattle.entry_table.specs.declared.hashed.TheConstants.{START}
use Rattle.affix_strip.proofs.KnownLemmas.{IsAddedTo, added-first, added-one, added-all}
use Rattle.entry_table.specs.TextLaws.{chars-empty}
use Rattle.affix_strip.proofs.known_words.KnownWords.add.Goals as goal

pub loop-c-preserved : goal.loop-c-preserved
loop-c-preserved c =
    let held = c.loop-c.invariant in
    let parts = c.in-Some.ensures.steps.0 in (
      IsUtf8-past_char _ _ c.in-Some.c held.0 parts,
      added-one c.in-Some.c (chars (chars_rest c.next.new.self))
          (chars_past_char _ _ c.in-Some.c held.0 parts) c.fold-key.ensures
          c.add_head-count.ensures.count c.add_head-count.ensures.there c.add_head-count.ensures.kept
          held.1,
    )

pub loop-c-init : goal.loop-c-init
loop-c-init c =
    let same : chars_rest c.into_iter-c-iterator.result ≡ c.args.word.now = search rules in (
      subst IsUtf8 (sym same) c.utf8.word,
      subst (λ rest. IsAddedTo c.args.self.now c.args.self.now (chars c.args.word.now) (chars rest)
          START 0) (sym same) (added-first c.args.self.now (chars c.args.word.now)),
    )

pub returns-clause-there : goal.returns-clause-there
returns-clause-there c =
    let none : chars (chars_rest c.loop-c.c-iterator) ≡ [] =
    chars-empty _ c.in-None.ensures.steps.0.0 in
    (added-all c.insert.ensures.there
    (record { words = λ key is. c.insert.ensures.kept key is; heads = λ key is. is })
    (subst (λ rest. IsAddedTo c.args.self.now c.loop-c.self (chars c.args.word.now) rest
    c.loop-c.key c.loop-c.count) none c.loop-c.invariant.1)).0
