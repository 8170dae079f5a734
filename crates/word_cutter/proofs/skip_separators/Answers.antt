-- Each separator is passed; what is left has all the words.
use Rattle.std.proofs.Common.{◌∙◌, refl, rules, sym, arith}
use Rattle.std.proofs.lemmas.Str.{len_utf8_bounds}
use Rattle.word_cutter.proofs.CutLemmas.{IsFirst, first-size}
use Rattle.word_cutter.proofs.LetterLemmas.{skip-begins, skip-on, skip-ends}
use Rattle.word_cutter.proofs.skip_separators.Goals as goal

pub loop-c-init : goal.loop-c-init
loop-c-init c = (search rules, skip-begins c.args.wordchars.now c.args.rest)

pub loop-c-smaller : goal.loop-c-smaller
loop-c-smaller c =
    let first : IsFirst c.loop-c.text.now c.in-Some.c c.in-Some.behind.now =
    record { characters = c.in-Some.ensures.some.0; whole = c.in-Some.ensures.some.1 } in
    let size = first-size c.loop-c.text.now c.in-Some.behind.now c.in-Some.c first in
    let width = (len_utf8_bounds c.in-Some.c).0 in
    omega arith

pub loop-c-preserved : goal.loop-c-preserved
loop-c-preserved c =
    let l = c.loop-c in
    let first : IsFirst l.text.now c.in-Some.c c.in-Some.behind.now =
    record { characters = c.in-Some.ensures.some.0; whole = c.in-Some.ensures.some.1 } in (
      search rules,
      skip-on c.args.wordchars.now c.args.rest l.text.now c.in-Some.behind.now l.before c.in-Some.c
          l.invariant.1 first
          (sym c.is_separator.ensures ∙ c.if-not-is_separator.false),
    )

pub returns-clause-words : goal.returns-clause-words
returns-clause-words c =
    let l = c.loop-c in
    (skip-ends c.args.wordchars.now c.args.rest _ l.text.now l.before l.invariant.1 refl refl
    refl).0
