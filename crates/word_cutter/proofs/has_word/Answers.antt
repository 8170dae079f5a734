-- Each character shows a word or does not; at the end there is none.
use Rattle.std.proofs.Common.{◌∙◌, rules, sym, arith}
use Rattle.std.proofs.lemmas.Str.{len_utf8_bounds}
use Rattle.word_cutter.proofs.CutLemmas.{IsFirst, first-size, seek-begins, seek-on, seek-found}
use Rattle.word_cutter.proofs.CutLemmas.{seek-ends}
use Rattle.word_cutter.proofs.has_word.Goals as goal

pub loop-c-init : goal.loop-c-init
loop-c-init c = (search rules, seek-begins c.args.wordchars.now c.args.rest)

pub loop-c-smaller : goal.loop-c-smaller
loop-c-smaller c =
    let first : IsFirst c.loop-c.text.now c.in-Some.c c.in-Some.behind.now =
    record { characters = c.in-Some.ensures.some.0; whole = c.in-Some.ensures.some.1 } in
    let size = first-size c.loop-c.text.now c.in-Some.behind.now c.in-Some.c first in
    let width = (len_utf8_bounds c.in-Some.c).0 in
    omega arith

pub loop-c-preserved : goal.loop-c-preserved
loop-c-preserved c =
    let l = c.loop-c in
    let first : IsFirst l.text.now c.in-Some.c c.in-Some.behind.now =
    record { characters = c.in-Some.ensures.some.0; whole = c.in-Some.ensures.some.1 } in (
      search rules,
      seek-on c.args.wordchars.now c.args.rest l.text.now c.in-Some.behind.now l.before c.in-Some.c
          l.invariant.1 first
          (sym c.shows_word.ensures ∙ c.if-shows_word.false),
    )

pub returns-then-shows_word : goal.returns-then-shows_word
returns-then-shows_word c =
    let l = c.loop-c in
    let first : IsFirst l.text.now c.in-Some.c c.in-Some.behind.now =
    record { characters = c.in-Some.ensures.some.0; whole = c.in-Some.ensures.some.1 } in
    sym (seek-found c.args.wordchars.now c.args.rest l.text.now c.in-Some.behind.now l.before
    c.in-Some.c l.invariant.1 first
    (sym c.shows_word.ensures ∙ c.if-shows_word.true))

pub returns : goal.returns
returns c =
    let l = c.loop-c in
    sym (seek-ends c.args.wordchars.now c.args.rest l.text.now l.before l.invariant.1
    c.in_default.ensures.none.0)
