-- So far the heads of the entries before the loop's place are there.
use Rattle.std.proofs.Common.{◌≡◌, ℕ, ◌<◌, slice_get, Some}
use Rattle.spell_types.specs.declared.Entry.{Entry}
use Rattle.affix_strip.specs.Heads.{IsNotedHead}
use Rattle.affix_strip.proofs.heads.heads_of.Given as goal

abbrev pub invariant-loop-place : goal.invariant-loop-place
invariant-loop-place l = (at : ℕ) (entry : Entry) → at < l.place
    → slice_get l.lexicon.entries at ≡ Some entry
    → IsNotedHead l.lexicon.affixes.signs.forbidden l.most l.heads entry
