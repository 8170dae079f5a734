-- One character of both more is compared.
use Rattle.std.proofs.Common.{◌∙◌, sym}
use Rattle.std.specs.Str.{chars}
use Rattle.std.specs.Str.Iter.{chars_rest}
use Rattle.std.proofs.lemmas.Str.{IsUtf8-past_char, chars_past_char}
use Rattle.entry_table.specs.TextLaws.{chars-empty}
use Rattle.entry_table.proofs.TurnLemmas.{front-ends, front-other, front-more}
use Rattle.entry_table.proofs.half.rest_behind.Goals as goal

pub returns-in-None : goal.returns-in-None
returns-in-None c = λ back.
    sym (c.loop-c.invariant.1 back)
    ∙ front-ends (chars (chars_rest c.loop-c.left)) c.args.front.now c.loop-c.c-index
    c.c-item.result (chars-empty _ c.in-None.ensures.steps.0.0) c.loop-c-test.true c.c-item.is back

pub returns-then-first-c : goal.returns-then-first-c
returns-then-first-c c = λ back.
    let held = c.loop-c.invariant in
    let step = chars_past_char _ _ c.in-Some.first held.0 c.in-Some.ensures.steps.0 in
    sym (held.1 back)
    ∙ front-other (chars (chars_rest c.loop-c.left)) (chars (chars_rest c.next.new.self))
    c.args.front.now c.loop-c.c-index c.c-item.result c.in-Some.first step c.if-first-c.true
    c.loop-c-test.true c.c-item.is back

pub loop-c-preserved : goal.loop-c-preserved
loop-c-preserved c =
    let held = c.loop-c.invariant in
    let parts = c.in-Some.ensures.steps.0 in (
      IsUtf8-past_char _ _ c.in-Some.first held.0 parts,
      λ back.
          front-more (chars (chars_rest c.loop-c.left)) (chars (chars_rest c.next.new.self))
          c.args.front.now c.loop-c.c-index c.c-item.result c.in-Some.first
          (chars_past_char _ _ c.in-Some.first held.0 parts) c.if-first-c.false
          c.loop-c-test.true c.c-item.is back
          ∙ held.1 back,
    )
