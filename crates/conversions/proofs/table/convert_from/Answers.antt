-- At the end of the word all is written.
use Rattle.std.proofs.Common.{◌++◌, take, drop}
use Rattle.spell_types.specs.Conversions.{converted}
use Rattle.conversions.proofs.Steps.{all_converted}
use Rattle.conversions.proofs.table.convert_from.Goals as goal

pub returns : goal.returns
returns c =
    all_converted c.args.table.now c.args.word.now c.loop-place.made
    (take c.args.start c.args.word.now
    ++ converted c.args.table.now (drop c.args.start c.args.word.now)) c.loop-place.place
    c.loop-place-test.false c.loop-place.invariant.whole
