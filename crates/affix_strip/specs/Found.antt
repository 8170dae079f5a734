-- All derivations of a word, and their order.
use Rattle.std.specs.Prelude.{ℕ, Bool, ◌&&◌, List}
use Rattle.std.specs.List.{filter}
use Rattle.std.specs.List.Sorted.{IsStrictlySortedBy}
use Rattle.std.specs.Option.{option_cmp}
use Rattle.std.specs.declared.cmp.Ordering.{Ordering}
use Rattle.std.specs.Ordering.{ordering_then, nat_cmp}
use Rattle.spell_types.specs.declared.Lexicon.{Lexicon}
use Rattle.spell_types.specs.declared.derivations.Derivation.{Derivation}
use Rattle.spell_types.specs.Derivations.{all_derivations}
use Rattle.spell_types.specs.Licences.{is_licensed, has_form}

-- whether the derivation is licensed and its form is the word
abbrev pub derives : Lexicon → List ℕ → Derivation → Bool
derives lexicon word d = is_licensed lexicon d && has_form lexicon word d

-- the derivations of a word: of all that there are, those that are licensed and whose form is the
-- word
unfoldable pub derivations_of : Lexicon → List ℕ → List Derivation
derivations_of lexicon word = filter (derives lexicon word) (all_derivations lexicon)

-- the order by entry, then by prefix, then by first, then by second suffix, none before any
abbrev pub derivation_cmp : Derivation → Derivation → Ordering
derivation_cmp d e =
    ordering_then (nat_cmp d.entry e.entry)
    (ordering_then (option_cmp nat_cmp d.prefix e.prefix)
    (ordering_then (option_cmp nat_cmp d.first e.first) (option_cmp nat_cmp d.second e.second)))

-- each derivation stands before all after it, so that none stands in the list twice
abbrev pub AreDerivationsInOrder : List Derivation → Type 0
AreDerivationsInOrder found = IsStrictlySortedBy derivation_cmp found
