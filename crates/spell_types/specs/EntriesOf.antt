-- What the entry of a derivation says.
use Rattle.std.specs.Prelude.{ℕ, Bool, false, List, [], slice_get}
use Rattle.std.specs.Option.{option_map_or}
use Rattle.spell_types.specs.declared.Lexicon.{Lexicon}
use Rattle.spell_types.specs.declared.derivations.Derivation.{Derivation}
use Rattle.spell_types.specs.declared.flags.Flag.{Flag}
use Rattle.spell_types.specs.Cases.{is_same_word}

-- the flags of the derivation's entry
abbrev pub entry_flags : Lexicon → Derivation → List Flag
entry_flags lexicon d = option_map_or (λ entry. entry.flags) (slice_get lexicon.entries d.entry) []

-- whether the text is the word of the derivation's entry, as it is
abbrev pub is_entry_word : Lexicon → List ℕ → Derivation → Bool
is_entry_word lexicon text d =
    option_map_or (λ entry. is_same_word entry.word text) (slice_get lexicon.entries d.entry) false
