-- One character more is in the hash.
use Rattle.std.proofs.Common.{◌∙◌, sym, ap, ◌+◌, ◌*◌, ◌%◌, ◌^◌}
use Rattle.entry_table.specs.declared.hashed.TheConstants.{FACTOR}
use Rattle.entry_table.specs.HashLaws.{folded-none}
use Rattle.entry_table.proofs.EntryLemmas.{folded-more}
use Rattle.entry_table.proofs.hashed.fold.Goals as goal

pub loop-c-init : goal.loop-c-init
loop-c-init c = sym (folded-none c.args.hash)

pub loop-c-preserved : goal.loop-c-preserved
loop-c-preserved c =
    ap (λ h. ((h * FACTOR) % 2 ^ 64 + c.c-item.result) % 2 ^ 64) c.loop-c.invariant
    ∙ sym (folded-more c.args.hash c.args.characters.now c.loop-c.c-index c.c-item.result
    c.loop-c-test.true c.c-item.is)
