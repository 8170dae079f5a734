-- One character of the word more is looked at.
use Rattle.std.proofs.Common.{ne_eqb}
use Rattle.std.proofs.lemmas.Str.{IsUtf8-past_char, chars_past_char}
use Rattle.spell_types.proofs.TextLemmas.{chars-empty}
use Rattle.spell_types.proofs.licences.holds_sharp.Goals as goal

pub returns-then-c-eq223 : goal.returns-then-c-eq223
returns-then-c-eq223 c =
    let held = c.loop-c.invariant in
    let step = chars_past_char _ _ c.in-Some.c held.0 c.in-Some.ensures.steps.0 in
    rw (step, c.if-c-eq223.true) at held.1

pub loop-c-preserved : goal.loop-c-preserved
loop-c-preserved c =
    let held = c.loop-c.invariant in
    let parts = c.in-Some.ensures.steps.0 in (
      IsUtf8-past_char _ _ c.in-Some.c held.0 parts,
      rw (
        chars_past_char _ _ c.in-Some.c held.0 parts,
        ne_eqb c.in-Some.c 223 c.if-c-eq223.false,
      ) at held.1,
    )

pub returns : goal.returns
returns c = rw (chars-empty _ c.in-None.ensures.steps.0.0) at c.loop-c.invariant.1
