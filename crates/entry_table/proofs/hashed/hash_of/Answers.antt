-- One character more is in the hash.
use Rattle.std.proofs.Common.{◌∙◌, ◌∷◌, [], sym, ap}
use Rattle.std.specs.Str.{chars}
use Rattle.std.specs.Str.Iter.{chars_rest}
use Rattle.std.proofs.lemmas.Str.{IsUtf8-past_char, chars_past_char}
use Rattle.entry_table.specs.Hashes.{folded}
use Rattle.entry_table.specs.HashLaws.{folded-append, folded-none}
use Rattle.entry_table.specs.TextLaws.{chars-empty}
use Rattle.entry_table.proofs.hashed.hash_of.Goals as goal

pub loop-c-preserved : goal.loop-c-preserved
loop-c-preserved c =
    let held = c.loop-c.invariant in
    let parts = c.in-Some.ensures.steps.0 in
    let later = chars (chars_rest c.next.new.self) in (
      IsUtf8-past_char _ _ c.in-Some.c held.0 parts,
      ap (λ hash. folded hash later) c.fold-folded.ensures
          ∙ sym (folded-append c.loop-c.folded (c.in-Some.c ∷ []) later)
          ∙ sym (ap (folded c.loop-c.folded) (chars_past_char _ _ c.in-Some.c held.0 parts))
          ∙ held.1,
    )

pub returns : goal.returns
returns c =
    sym (folded-none c.loop-c.folded)
    ∙ sym (ap (folded c.loop-c.folded) (chars-empty _ c.in-None.ensures.steps.0.0))
    ∙ c.loop-c.invariant.1
