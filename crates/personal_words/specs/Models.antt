-- The flags of the words that items name as their models, as they are looked up.
use Rattle.std.specs.Prelude.{◌≡◌, ℕ, List, [], Option, Some, unwrap_or, IsSome, IfSome}
use Rattle.std.specs.Prelude.{if◌then◌else◌}
use Rattle.indexmap.specs.IndexMap.{IndexMap, get_by}
use Rattle.mark_types.specs.spell_types.declared.Entry.{Entry}
use Rattle.mark_types.specs.spell_types.declared.flags.Flag.{Flag}
use Rattle.mark_types.specs.spell_types.Cases.{is_same_word}
use Rattle.personal_words.specs.declared.items.OwnItem.{OwnItem}
use Rattle.personal_words.specs.Extended.{flags_like}

module _ {S : Type 0} where
  -- the flags that are kept at a text
  abbrev pub flags_at : IndexMap (List ℕ) (List Flag) S → List ℕ → Option (List Flag)
  flags_at models text = get_by (is_same_word text) models

  abbrev pub flags_kept : IndexMap (List ℕ) (List Flag) S → List ℕ → List Flag
  flags_kept models text = unwrap_or (flags_at models text) []

  -- the item's model is kept, if it has one
  abbrev pub HasModel : IndexMap (List ℕ) (List Flag) S → OwnItem → Type 0
  HasModel models item = IfSome item.model (λ model. IsSome (flags_at models model))

  -- what is kept at a text are the flags of the first of these entries with that word
  abbrev pub AreLike : List Entry → IndexMap (List ℕ) (List Flag) S → Type 0
  AreLike entries models = (text : List ℕ) (flags : List Flag) → flags_at models text ≡ Some flags
      → flags ≡ flags_like entries text

  -- the flags are put at a text
  abbrev pub Puts : IndexMap (List ℕ) (List Flag) S → List ℕ → List Flag
      → IndexMap (List ℕ) (List Flag) S → Type 0
  Puts old model flags new = (text : List ℕ)
      → flags_at new text ≡ (if is_same_word model text then Some flags else flags_at old text)
