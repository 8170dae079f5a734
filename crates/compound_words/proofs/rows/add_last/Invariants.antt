-- The parts that are left are to be looked at.
use Rattle.std.proofs.Common.{[], length}
use Rattle.spell_types.specs.declared.parts.Place.TheVariants.{Middle}
use Rattle.compound_words.specs.Rests.{asked_by, patterns_of}
use Rattle.compound_words.proofs.AddLemmas.{AreLeft}
use Rattle.compound_words.proofs.rows.add_last.Given as goal

abbrev pub invariant-loop-part : goal.invariant-loop-part
invariant-loop-part l =
    AreLeft (asked_by l.search) (patterns_of l.search) Middle l.text
    (record { before = l.fn.start.before.now; front = l.text; following = []; rests = [] })
    l.parts.items l.fn.row l.row

abbrev pub decreases-loop-part : goal.decreases-loop-part
decreases-loop-part l = length l.parts.items
