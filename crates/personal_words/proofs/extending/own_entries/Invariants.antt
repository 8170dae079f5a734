-- The entries of the items so far stand there.
use Rattle.std.proofs.Common.{◌≡◌, map, take}
use Rattle.mark_types.specs.spell_types.declared.Lexicon.{Lexicon}
use Rattle.personal_words.specs.Extended.{entry_of_item, forbidding}
use Rattle.personal_words.proofs.extending.own_entries.Given as goal

abbrev pub invariant-loop-item : goal.invariant-loop-item
invariant-loop-item l =
    (lexicon : Lexicon) → l.fn.entries ≡ lexicon.entries → l.fn.flag ≡ forbidding lexicon
    → l.made.items ≡ map (entry_of_item lexicon) (take l.item-index l.items)
