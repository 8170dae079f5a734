-- One entry more is in the half.
use Rattle.std.proofs.Common.{◌∙◌, sym, ap, subst, take}
use Rattle.std.proofs.Common.{length-take-le, arith}
use Rattle.std.proofs.lemmas.Option.{slice_get_within}
use Rattle.entry_table.specs.EntryTable.{HasHalf}
use Rattle.entry_table.specs.Hashes.{hash_of}
use Rattle.entry_table.proofs.TurnLemmas.{take-place}
use Rattle.entry_table.proofs.half.Half.new.Goals as goal

pub loop-place-preserved : goal.loop-place-preserved
loop-place-preserved c =
    let place = c.loop-place.place in
    let entries = c.args.entries.now in
    let entry = c.at.result in
    subst (λ es. HasHalf c.args.remainder es c.add.new.self)
    (sym (take-place entries place entry c.at.ensures))
    (c.in_ok-add.ensures c.args.remainder (take place entries) entry
    (length-take-le place entries
    (omega (arith, slice_get_within entries place entry c.at.ensures)))
    (c.hash_of.ensures ∙ ap hash_of c.word.ensures) c.loop-place.invariant)
