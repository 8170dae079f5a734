-- So far the models have the flags of the entries from the loop's place on.
use Rattle.std.proofs.Common.{◌≤◌, length, drop}
use Rattle.personal_words.specs.declared.items.OwnItem.{OwnItem}
use Rattle.personal_words.specs.Models.{HasModel, AreLike}
use Rattle.personal_words.proofs.models.fill.Given as goal

abbrev pub invariant-loop-place : goal.invariant-loop-place
invariant-loop-place l = record {
  within : l.place ≤ length l.entries;
  each : (item : OwnItem) → HasModel l.fn.models item → HasModel l.models item;
  like : AreLike (drop l.place l.entries) l.models;
}

abbrev pub decreases-loop-place : goal.decreases-loop-place
decreases-loop-place l = l.place
