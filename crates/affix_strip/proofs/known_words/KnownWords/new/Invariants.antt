-- So far the words of the entries before the loop's place are known.
use Rattle.std.proofs.Common.{◌≡◌, ℕ, ◌<◌, true, slice_get, Some}
use Rattle.spell_types.specs.declared.Entry.{Entry}
use Rattle.spell_types.specs.Flags.{has_flag_of}
use Rattle.affix_strip.specs.Inside.{IsKnown}
use Rattle.affix_strip.proofs.known_words.KnownWords.new.Given as goal

abbrev pub invariant-loop-place : goal.invariant-loop-place
invariant-loop-place l = (at : ℕ) (entry : Entry) → at < l.place
    → slice_get l.entries at ≡ Some entry → has_flag_of l.flags entry.flags ≡ true
    → IsKnown l.known entry.word
