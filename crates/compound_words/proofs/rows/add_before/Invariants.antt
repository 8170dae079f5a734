-- The parts that are left are to be looked at.
use Rattle.std.proofs.Common.{◌++◌, length}
use Rattle.compound_words.specs.Rests.{asked_by, patterns_of}
use Rattle.compound_words.proofs.AddLemmas.{AreLeft}
use Rattle.compound_words.proofs.rows.add_before.Given as goal

abbrev pub invariant-loop-part : goal.invariant-loop-part
invariant-loop-part l =
    AreLeft (asked_by l.search) (patterns_of l.search) l.here
    (l.piece.text.now ++ l.piece.following.now)
    (record {
      before = l.piece.start.now.before.now;
      front = l.piece.text.now;
      following = l.piece.following.now;
      rests = l.piece.rests.now;
    }) l.parts.items l.fn.row l.row

abbrev pub decreases-loop-part : goal.decreases-loop-part
decreases-loop-part l = length l.parts.items
