-- A place at which the entry does not end belongs to it.
use Rattle.std.proofs.Common.{◌<◌, length, subst, sym}
use Rattle.dic_reader.proofs.CuttingLemmas.{before_fields-more}
use Rattle.dic_reader.proofs.cutting.before_fields.Goals as goal

pub loop-place-preserved : goal.loop-place-preserved
loop-place-preserved c =
    before_fields-more c.args.line.now c.as_bytes-bytes.result.now c.loop-place.place
    c.as_bytes-bytes.ensures.value
    (subst (λ bytes. c.loop-place.place < length bytes) c.as_bytes-bytes.ensures.value
    c.loop-place-test.true)
    (sym c.if-ends_at.ensures) c.loop-place.invariant
