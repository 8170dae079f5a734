-- Entries by a hash of their words.
use Rattle.std.specs.Prelude.{◌≡◌, ◌↔◌, ◌%◌, ℕ, zero, suc, Bool, true, false, List, length, nat_eq}
use Rattle.std.specs.Prelude.{slice_get}
use Rattle.std.specs.Prelude.{Contains, Option, None, Some, if◌then◌else◌}
use Rattle.std.specs.Option.{option_map, option_map_or}
use Rattle.indexmap.specs.IndexMap.{get}
use Rattle.spell_types.specs.declared.Entry.{Entry}
use Rattle.spell_types.specs.Cases.{is_same_word}
use Rattle.key_filter.specs.Filter.{may_have}
use Rattle.entry_table.specs.declared.table.EntryTable.{EntryTable}
use Rattle.entry_table.specs.declared.half.Half.{Half}
use Rattle.entry_table.specs.Hashes.{hash_of}

abbrev pub has_hash : ℕ → Entry → Bool
has_hash hash entry = nat_eq (hash_of entry.word) hash

abbrev pub has_word : List ℕ → Entry → Bool
has_word word entry = is_same_word entry.word word

-- whether there is an entry at the place, and it passes the test
abbrev pub passes_at : (Entry → Bool) → List Entry → ℕ → Bool
passes_at test entries place = option_map_or test (slice_get entries place) false

-- the last place below the bound whose entry passes the test, if there is one
abbrev pub last_where : (Entry → Bool) → List Entry → ℕ → Option ℕ
last_where test entries zero = None
last_where test entries (suc place) =
    if passes_at test entries place then Some place else last_where test entries place

-- the half has, of the hashes that leave the remainder, at each the last place of an entry whose
-- word has it, and at each place of such an entry the last one below it of the same hash, and what
-- the filter excludes has no place
pub record HasHalf (remainder : ℕ) (entries : List Entry) (half : Half) : Type 0 where
  pub is_for : half.remainder ≡ remainder
  pub count : length half.earlier.items ≡ length entries
  pub last : (hash : ℕ) → hash % 2 ≡ remainder → get nat_eq half.last hash
      ≡ last_where (has_hash hash) entries (length entries)
  pub earlier : (place : ℕ) → slice_get half.earlier.items place ≡ option_map
      (λ entry. if nat_eq (hash_of entry.word % 2) remainder
      then last_where (has_hash (hash_of entry.word)) entries place else None)
      (slice_get entries place)
  pub hashes : (hash : ℕ) → hash % 2 ≡ remainder → may_have half.hashes hash ≡ false
      → get nat_eq half.last hash ≡ None

-- the table has a half for each remainder
pub record HasEntries (entries : List Entry) (table : EntryTable) : Type 0 where
  pub even : HasHalf 0 entries table.even
  pub odd : HasHalf 1 entries table.odd

-- the place is noted as the last of a hash, if the half is for that; `earlier` was the last one
pub record Notes (before now : Half) (hash place : ℕ) (earlier : Option ℕ) : Type 0 where
  pub remainder : now.remainder ≡ before.remainder
  pub same : now.earlier.items ≡ before.earlier.items
  pub given : earlier ≡ (if nat_eq (hash % 2) before.remainder then get nat_eq before.last hash else None)
  pub last : (other : ℕ) → other % 2 ≡ before.remainder → get nat_eq now.last other
      ≡ (if nat_eq hash other then Some place else get nat_eq before.last other)
  pub there : hash % 2 ≡ before.remainder → may_have now.hashes hash ≡ true
  pub kept : (other : ℕ) → may_have before.hashes other ≡ true → may_have now.hashes other ≡ true

-- these are the places of the entries of a word
pub record AreEntriesOf (entries : List Entry) (word places : List ℕ) : Type 0 where
  pub are : (place : ℕ) → Contains places place
      ↔ ((entry : Entry) × (slice_get entries place ≡ Some entry) × (entry.word ≡ word))
