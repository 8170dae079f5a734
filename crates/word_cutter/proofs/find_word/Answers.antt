-- Each character goes on with the run, ends it, or lies outside; and at the end the run ends.
use Rattle.std.proofs.Common.{◌≡◌, ◌+◌, ◌-◌, ◌∙◌, drop, ◌||◌, refl, rules, sym, ap, subst, arith}
use Rattle.mark_types.specs.Characters.{is_letter_or_digit}
use Rattle.word_cutter.proofs.CutLemmas.{Walks, IsFirst, walk-begins, walk-on, walk-over}
use Rattle.word_cutter.proofs.CutLemmas.{walk-found, walk-ends, walk-stops, walk-leaves-less}
use Rattle.word_cutter.proofs.CutLemmas.{first-size, first-back, back-on}
use Rattle.std.proofs.lemmas.Str.{IsUtf8-past_char}
use Rattle.word_cutter.proofs.find_word.Goals as goal

pub loop-c-init : goal.loop-c-init
loop-c-init c = (
  search rules,
  walk-begins c.args.wordchars.now c.args.rest c.clear.new.self.items
      c.clear.ensures.items,
)

pub loop-c-preserved-then-is_word : goal.loop-c-preserved-then-is_word
loop-c-preserved-then-is_word c =
    let l = c.loop-c in
    let first : IsFirst l.text.now c.in-Some.c c.in-Some.behind.now =
    record { characters = c.in-Some.ensures.some.0; whole = c.in-Some.ensures.some.1 } in
    let still : l.is_word ≡ (l.is_word || is_letter_or_digit c.in-Some.c) =
    rw (c.if-is_word.true) refl in (
      search rules,
      subst (λ width. Walks c.args.wordchars.now c.args.rest c.in-Some.behind.now (l.at + width)
          c.in-Some.c l.from l.is_word c.push.new.self.items) (sym c.len_utf8.ensures.value)
          (walk-on c.args.wordchars.now c.args.rest l.text.now c.in-Some.behind.now l.at l.before
          l.from c.in-Some.c l.is_word l.is_word l.word.items c.push.new.self.items
          l.invariant.1 first (sym c.belongs-inside.ensures ∙ c.if-inside.true) still
          c.in_ok-push.ensures.items),
    )

pub loop-c-preserved-else-is_word : goal.loop-c-preserved-else-is_word
loop-c-preserved-else-is_word c =
    let l = c.loop-c in
    let first : IsFirst l.text.now c.in-Some.c c.in-Some.behind.now =
    record { characters = c.in-Some.ensures.some.0; whole = c.in-Some.ensures.some.1 } in
    let now : c.is_letter_or_digit-is_word.result ≡ (l.is_word || is_letter_or_digit c.in-Some.c) =
    c.is_letter_or_digit-is_word.ensures
    ∙ sym (ap (λ b. b || is_letter_or_digit c.in-Some.c) c.if-is_word.false) in (
      search rules,
      subst (λ width. Walks c.args.wordchars.now c.args.rest c.in-Some.behind.now (l.at + width)
          c.in-Some.c l.from c.is_letter_or_digit-is_word.result c.push.new.self.items)
          (sym c.len_utf8.ensures.value)
          (walk-on c.args.wordchars.now c.args.rest l.text.now c.in-Some.behind.now l.at l.before
          l.from c.in-Some.c l.is_word c.is_letter_or_digit-is_word.result l.word.items
          c.push.new.self.items l.invariant.1 first
          (sym c.belongs-inside.ensures ∙ c.if-inside.true) now c.in_ok-push.ensures.items),
    )

pub loop-c-preserved : goal.loop-c-preserved
loop-c-preserved c =
    let l = c.loop-c in
    let first : IsFirst l.text.now c.in-Some.c c.in-Some.behind.now =
    record { characters = c.in-Some.ensures.some.0; whole = c.in-Some.ensures.some.1 } in (
      search rules,
      subst (λ width. Walks c.args.wordchars.now c.args.rest c.in-Some.behind.now (l.at + width)
          c.in-Some.c (l.at + width) l.is_word c.clear-else-is_word-2.new.self.items)
          (sym c.len_utf8.ensures.value)
          (walk-over c.args.wordchars.now c.args.rest l.text.now c.in-Some.behind.now l.at l.before
          l.from c.in-Some.c l.is_word l.word.items c.clear-else-is_word-2.new.self.items
          l.invariant.1 first (sym c.belongs-inside.ensures ∙ c.if-inside.false)
          c.if-is_word-2.false c.clear-else-is_word-2.ensures.items),
    )

pub returns-then-is_word-2-clause-words : goal.returns-then-is_word-2-clause-words
returns-then-is_word-2-clause-words c =
    let l = c.loop-c in
    let first : IsFirst l.text.now c.in-Some.c c.in-Some.behind.now =
    record { characters = c.in-Some.ensures.some.0; whole = c.in-Some.ensures.some.1 } in
    walk-found c.args.wordchars.now c.args.rest l.text.now c.in-Some.behind.now l.at l.before l.from
    c.in-Some.c l.is_word l.word.items _ l.invariant.1 first
    (sym c.belongs-inside.ensures ∙ c.if-inside.false) c.if-is_word-2.true
    (record {
      from_is = refl;
      to_is = refl;
      text_is = refl;
      at_is = ap (λ width. l.at + width) c.len_utf8.ensures.value;
      before_is = refl;
    })

pub returns-then-is_word-2-clause-less : goal.returns-then-is_word-2-clause-less
returns-then-is_word-2-clause-less c =
    let l = c.loop-c in
    let first : IsFirst l.text.now c.in-Some.c c.in-Some.behind.now =
    record { characters = c.in-Some.ensures.some.0; whole = c.in-Some.ensures.some.1 } in
    let walks = l.invariant.1 in
    let width = first-size l.text.now c.in-Some.behind.now c.in-Some.c first in
    let step = c.len_utf8.ensures.value in
    let ends = walks.ends in
    let later = walks.later in
    walk-leaves-less c.args.wordchars.now c.args.rest l.text.now c.in-Some.behind.now l.at l.before
    l.from (l.at + c.len_utf8.result) c.in-Some.c l.is_word l.word.items _ walks
    c.if-is_word-2.true
    (record { from_is = refl; to_is = refl; text_is = refl; at_is = refl; before_is = refl })
    (omega arith) (omega arith)
    (back-on c.args.rest l.text.now c.in-Some.behind.now l.at c.in-Some.c (omega arith) walks.back
    (first-back l.text.now c.in-Some.behind.now c.in-Some.c first)
    ∙ ap (λ n. drop (l.at + n - c.args.rest.at) c.args.rest.text.now) (sym step))
    (λ is_text. IsUtf8-past_char l.text.now c.in-Some.behind.now c.in-Some.c (walks.utf8 is_text)
    first.whole)

pub returns-then-not-is_word-clause-words : goal.returns-then-not-is_word-clause-words
returns-then-not-is_word-clause-words c =
    let l = c.loop-c in
    walk-stops c.args.wordchars.now c.args.rest l.text.now l.at l.before l.from l.is_word
    l.word.items l.invariant.1 c.in_default.ensures.none.0 c.if-not-is_word.true

pub returns-clause-words : goal.returns-clause-words
returns-clause-words c =
    let l = c.loop-c in
    walk-ends c.args.wordchars.now c.args.rest l.text.now l.at l.before l.from l.is_word
    l.word.items _ l.invariant.1 c.in_default.ensures.none.0 c.if-not-is_word.false
    (record { from_is = refl; to_is = refl; text_is = refl; at_is = refl; before_is = refl })

pub returns-clause-less : goal.returns-clause-less
returns-clause-less c =
    let l = c.loop-c in
    walk-leaves-less c.args.wordchars.now c.args.rest l.text.now l.text.now l.at l.before l.from
    l.at l.before l.is_word l.word.items _ l.invariant.1 c.if-not-is_word.false
    (record { from_is = refl; to_is = refl; text_is = refl; at_is = refl; before_is = refl })
    (omega arith) refl l.invariant.1.back l.invariant.1.utf8
