-- What is read, with what the rest is behind it, is what the whole text is.
use Rattle.std.proofs.Common.{◌≡◌, ◌≤◌, ◌-◌, length, drop}
use Rattle.affix_classes.specs.ConditionTexts.{pieces_of}
use Rattle.affix_classes.proofs.PieceLemmas.{after}
use Rattle.affix_classes.proofs.reading.read_pieces.Given as goal

abbrev pub invariant-loop-place : goal.invariant-loop-place
invariant-loop-place l = record {
  within : l.place ≤ length l.text;
  whole : after l.made.items (pieces_of (drop l.place l.text)) ≡ pieces_of l.text;
}

abbrev pub decreases-loop-place : goal.decreases-loop-place
decreases-loop-place l = length l.text - l.place
