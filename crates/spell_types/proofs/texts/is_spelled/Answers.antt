-- One character of both more is compared.
use Rattle.std.proofs.Common.{◌∙◌, sym, eq-eqb}
use Rattle.std.proofs.lemmas.Str.{IsUtf8-past_char, chars_past_char}
use Rattle.spell_types.proofs.TextLemmas.{chars-empty, none-left}
use Rattle.spell_types.proofs.texts.is_spelled.Goals as goal

pub loop-c-preserved : goal.loop-c-preserved
loop-c-preserved c =
    let held = c.loop-c.invariant in
    let parts = c.in-Some.ensures.steps.0 in (
      IsUtf8-past_char _ _ c.in-Some.c held.0 parts,
      rw (
        chars_past_char _ _ c.in-Some.c held.0 parts,
        c.in-Some-split_first.ensures.cases.0,
        eq-eqb c.in-Some.c c.in-Some-split_first.first.now c.if-c-first.false,
      ) at held.1,
    )

pub returns : goal.returns
returns c =
    c.is_empty.ensures ∙ sym (none-left c.loop-c.left.now)
    ∙ rw (chars-empty _ c.in-None.ensures.steps.0.0) at c.loop-c.invariant.1
