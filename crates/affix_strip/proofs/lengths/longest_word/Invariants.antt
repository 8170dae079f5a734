-- None before the loop's place is longer.
use Rattle.std.proofs.Common.{◌≡◌, ℕ, ◌<◌, ◌≤◌, length, slice_get, Some}
use Rattle.spell_types.specs.declared.Entry.{Entry}
use Rattle.affix_strip.proofs.lengths.longest_word.Given as goal

abbrev pub invariant-loop-place : goal.invariant-loop-place
invariant-loop-place l = (at : ℕ) (entry : Entry) → at < l.place
    → slice_get l.entries at ≡ Some entry → length entry.word ≤ l.found
