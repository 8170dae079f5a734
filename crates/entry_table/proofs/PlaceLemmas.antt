-- The places of a word's entries, from the last one on.
use Rattle.std.proofs.Common.{◌≡◌, ◌∙◌, ◌↔◌, ◌⊎◌, inl, inr, sym, ap, subst, ℕ, suc, ◌<◌, ◌≤◌}
use Rattle.std.proofs.Common.{length, true, false, List, [], ◌∷◌, ◌++◌, slice_get, Contains, Option}
use Rattle.std.proofs.Common.{None, Some, arith}
use Rattle.std.specs.Option.{option_map_or}
use Rattle.std.proofs.lemmas.Bool.{cases_order}
use Rattle.std.proofs.lemmas.List.Elements.{Contains-push, Contains-push_cases}
use Rattle.std.proofs.lemmas.List.Elements.{Contains-append_left}
use Rattle.std.proofs.lemmas.Option.{slice_get_within}
use Rattle.std.proofs.lemmas.Slice.Eq.{bytes_eq-Decides}
use Rattle.spell_types.specs.declared.Entry.{Entry}
use Rattle.entry_table.specs.Hashes.{hash_of}
use Rattle.entry_table.specs.EntryTable.{has_hash, has_word, passes_at, last_where, AreEntriesOf}
use Rattle.entry_table.proofs.EntryLemmas.{end_of, same-hash, last_where-fewer, last_where-is}
use Rattle.entry_table.proofs.EntryLemmas.{last_where-below, last_where-end, passes-entry}

-- the places from the end of the next one on are there, which is the last one of the word below a
-- bound
pub record PlacesBehind (entries : List Entry) (word : List ℕ) (next : Option ℕ)
    (places : List ℕ) : Type 0 where
  pub below : (bound : ℕ) × (next ≡ last_where (has_word word) entries bound)
  pub are : (place : ℕ) → Contains places place
      ↔ ((passes_at (has_word word) entries place ≡ true) × (end_of next ≤ place))

pub places-first : (entries : List Entry) (word : List ℕ) (next : Option ℕ)
    → next ≡ last_where (has_word word) entries (length entries) → PlacesBehind entries word next []
places-first entries word next is = record {
  below = (length entries, is);
  are = λ place.
      (λ (k, within, at). absurd (omega (arith, within)), λ has. absurd (none place has.0 has.1));
}
  where
    none : (place : ℕ) → passes_at (has_word word) entries place ≡ true → end_of next ≤ place → ⊥
    none place passes from = by (passes-entry (has_word word) entries place passes)
      where
        by : ((entry : Entry) × (slice_get entries place ≡ Some entry)
            × (has_word word entry ≡ true)) → ⊥
        by (entry, at, same) =
            let within : place < length entries = slice_get_within entries place entry at in
            let before : place < end_of (last_where (has_word word) entries (length entries)) =
            last_where-end (has_word word) entries (length entries) place within passes in
            let begins : end_of (last_where (has_word word) entries (length entries)) ≤ place =
            subst (λ found. end_of found ≤ place) is from in
            omega (arith, before, begins)

pub places-at : (entries : List Entry) (word : List ℕ) (place : ℕ) (places : List ℕ)
    → PlacesBehind entries word (Some place) places → passes_at (has_word word) entries place ≡ true
places-at entries word place places so =
    (last_where-is (has_word word) entries so.below.0 place (sym so.below.1)).1

pub places-more : (entries : List Entry) (word : List ℕ) (place : ℕ) (next : Option ℕ)
    (before now : List ℕ) → PlacesBehind entries word (Some place) before
    → now ≡ before ++ place ∷ [] → next ≡ last_where (has_word word) entries place
    → PlacesBehind entries word next now
places-more entries word place next before now so grown is = record {
  below = (place, is);
  are = λ other.
      subst (λ places. Contains places other
      ↔ ((passes_at (has_word word) entries other ≡ true) × (end_of next ≤ other))) (sym grown)
      (there other, back other);
}
  where
    ends : end_of next ≤ place
    ends = subst (λ found. end_of found ≤ place) (sym is)
        (last_where-below (has_word word) entries place)

    there : (other : ℕ) → Contains (before ++ place ∷ []) other
        → (passes_at (has_word word) entries other ≡ true) × (end_of next ≤ other)
    there other inside = by (Contains-push_cases before place other inside)
      where
        by : Contains before other ⊎ (place ≡ other)
            → (passes_at (has_word word) entries other ≡ true) × (end_of next ≤ other)
        by (inl old) =
            let has : (passes_at (has_word word) entries other ≡ true) × (suc place ≤ other) =
            (so.are other).0 old in
            (has.0, omega (arith, has.1, ends))
        by (inr same) =
            subst (λ i. (passes_at (has_word word) entries i ≡ true) × (end_of next ≤ i)) same
            (places-at entries word place before so, ends)

    back : (other : ℕ) → (passes_at (has_word word) entries other ≡ true) × (end_of next ≤ other)
        → Contains (before ++ place ∷ []) other
    back other (passes, from) = by (cases_order other place)
      where
        by : (other ≡ place) ⊎ ((other < place) ⊎ (place < other))
            → Contains (before ++ place ∷ []) other
        by (inl same) =
            subst (λ i. Contains (before ++ place ∷ []) i) (sym same) (Contains-push before place)
        by (inr (inl less)) =
            let upper : other < end_of (last_where (has_word word) entries place) =
            last_where-end (has_word word) entries place other less passes in
            let begins : end_of (last_where (has_word word) entries place) ≤ other =
            subst (λ found. end_of found ≤ other) is from in
            absurd (omega (arith, upper, begins))
        by (inr (inr more)) =
            Contains-append_left before (place ∷ []) other
            ((so.are other).1 (passes, omega (arith, more)))

pub places-last : (entries : List Entry) (word places : List ℕ)
    → PlacesBehind entries word None places → AreEntriesOf entries word places
places-last entries word places so =
    record {
      are = λ place. (
        λ inside. there place
            (passes-entry (has_word word) entries place ((so.are place).0 inside).0),
        λ known. (so.are place).1 (back place known, omega arith),
      );
    }
  where
    there : (place : ℕ)
        → ((entry : Entry) × (slice_get entries place ≡ Some entry) × (has_word word entry ≡ true))
        → ((entry : Entry) × (slice_get entries place ≡ Some entry) × (entry.word ≡ word))
    there place (entry, at, same) = (entry, at, (bytes_eq-Decides entry.word word).0 same)

    back : (place : ℕ)
        → ((entry : Entry) × (slice_get entries place ≡ Some entry) × (entry.word ≡ word))
        → passes_at (has_word word) entries place ≡ true
    back place (entry, at, is) = ap (λ found. option_map_or (has_word word) found false) at
        ∙ (bytes_eq-Decides entry.word word).1 is

-- a word whose hash no entry's word has is no entry's
pub no-places : (entries : List Entry) (word : List ℕ)
    → last_where (has_hash (hash_of word)) entries (length entries) ≡ None
    → AreEntriesOf entries word []
no-places entries word none =
    places-last entries word []
    (places-first entries word None
    (sym (last_where-fewer (has_word word) (has_hash (hash_of word)) entries (same-hash word)
    (length entries) ∙ ap (λ found. last_where (has_word word) entries (end_of found)) none)))
