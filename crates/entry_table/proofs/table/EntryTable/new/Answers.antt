-- One entry more is in the table.
use Rattle.std.proofs.Common.{◌∙◌, [], sym, ap, subst, take}
use Rattle.std.proofs.Common.{length-take-le, arith}
use Rattle.std.proofs.lemmas.Option.{slice_get_within}
use Rattle.entry_table.specs.EntryTable.{HasEntries}
use Rattle.entry_table.specs.Hashes.{hash_of}
use Rattle.entry_table.proofs.TurnLemmas.{take-place}
use Rattle.entry_table.proofs.table.EntryTable.new.Goals as goal

pub loop-place-preserved : goal.loop-place-preserved
loop-place-preserved c =
    let place = c.loop-place.place in
    let entries = c.args.entries.now in
    let entry = c.at.result in
    subst (λ es. HasEntries es c.add.new.self) (sym (take-place entries place entry c.at.ensures))
    (c.in_ok-add.ensures (take place entries) entry
    (length-take-le place entries
    (omega (arith, slice_get_within entries place entry c.at.ensures)))
    (c.hash_of.ensures ∙ ap hash_of c.word.ensures) c.loop-place.invariant)

pub loop-place-init : goal.loop-place-init
loop-place-init c = c.of-table.ensures [] c.in_ok-even.ensures c.in_ok-odd.ensures
