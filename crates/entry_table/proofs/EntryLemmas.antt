-- The last place whose entry passes a test: one entry more, a test that fewer pass, and the tables
-- that hold them.
use Rattle.std.proofs.Common.{◌≡◌, ◌∙◌, ◌⊎◌, inl, inr, refl, sym, ap, ap₂, subst, ℕ, zero, suc, ◌+◌}
use Rattle.std.proofs.Common.{◌*◌, ◌%◌, ◌^◌, ◌<◌, ◌≤◌, Bool, true, false, cond, true≢false, List}
use Rattle.std.proofs.Common.{[], ◌∷◌, ◌++◌, length, take, drop, get_or, nat_eq, slice_get, Option}
use Rattle.std.proofs.Common.{None, Some, if◌then◌else◌, length-append, eq-eqb, eqb-true, arith}
use Rattle.std.specs.Option.{option_map, option_map_or, option_flatten}
use Rattle.std.specs.Cmp.Lexicographic.{pointwise}
use Rattle.std.proofs.Math.Seq.{take-append_seam}
use Rattle.std.proofs.lemmas.Bool.{cases_order, false_from_ne_true}
use Rattle.std.proofs.lemmas.List.{append_cancel_left, take_more, take-append-drop}
use Rattle.std.proofs.lemmas.Option.{slice_get_past}
use Rattle.std.proofs.lemmas.Slice.Eq.{bytes_eq-Decides}
use Rattle.std.specs.Map.{lookup}
use Rattle.indexmap.specs.IndexMap.{get}
use Rattle.spell_types.specs.declared.Entry.{Entry}
use Rattle.spell_types.specs.Cases.{is_same_word}
use Rattle.entry_table.specs.declared.half.Half.{Half}
use Rattle.std.specs.declared.alloc.Global.{Global}
use Rattle.std.specs.declared.vec.Vec.{Vec}
use Rattle.key_filter.specs.Filter.{may_have}
use Rattle.entry_table.specs.declared.hashed.Hashed.{Hashed}
use Rattle.entry_table.specs.declared.hashed.TheConstants.{START, FACTOR}
use Rattle.entry_table.specs.HashLaws.{folded-append}
use Rattle.entry_table.specs.Hashes.{folded, hash_of, IsHashed}
use Rattle.entry_table.specs.EntryTable.{has_hash, has_word, passes_at, last_where, HasHalf}
use Rattle.entry_table.specs.EntryTable.{Notes}

-- ---- a list with one item more
get-before : {X : Type 0} (xs : List X) (x : X) (i : ℕ) → i < length xs
    → slice_get (xs ++ x ∷ []) i ≡ slice_get xs i
get-before [] x i within = absurd (omega (arith, within))
get-before (y ∷ xs) x zero within = refl
get-before (y ∷ xs) x (suc i) within = get-before xs x i (omega (arith, within))

get-last : {X : Type 0} (xs : List X) (x : X) (i : ℕ) → i ≡ length xs
    → slice_get (xs ++ x ∷ []) i ≡ Some x
get-last [] x i is = ap (slice_get (x ∷ [])) is
get-last (y ∷ xs) x zero is = absurd (omega (arith, is))
get-last (y ∷ xs) x (suc i) is = get-last xs x i (omega (arith, is))

last_where-before : (test : Entry → Bool) (entries : List Entry) (entry : Entry) (bound : ℕ)
    → bound ≤ length entries → last_where test (entries ++ entry ∷ []) bound
    ≡ last_where test entries bound
last_where-before test entries entry zero within = refl
last_where-before test entries entry (suc bound) within =
    ap (λ found. cond (option_map_or test found false) (Some bound)
    (last_where test (entries ++ entry ∷ []) bound))
    (get-before entries entry bound (omega (arith, within)))
    ∙ ap (cond (passes_at test entries bound) (Some bound))
    (last_where-before test entries entry bound (omega (arith, within)))

last_where-all : (test : Entry → Bool) (entries : List Entry) (entry : Entry)
    → last_where test (entries ++ entry ∷ []) (length (entries ++ entry ∷ []))
    ≡ (if test entry then Some (length entries) else last_where test entries (length entries))
last_where-all test entries entry =
    let one : length (entries ++ entry ∷ []) ≡ suc (length entries) =
    omega (arith, length-append entries (entry ∷ [])) in
    let fits : length entries ≤ length entries = omega arith in
    ap (last_where test (entries ++ entry ∷ [])) one
    ∙ ap (λ found. cond (option_map_or test found false) (Some (length entries))
    (last_where test (entries ++ entry ∷ []) (length entries)))
    (get-last entries entry (length entries) refl)
    ∙ ap (cond (test entry) (Some (length entries)))
    (last_where-before test entries entry (length entries) fits)

-- ---- what the last place says
-- below which all places are still to be looked at
abbrev pub end_of : Option ℕ → ℕ
end_of None = 0
end_of (Some place) = suc place

pub last_where-is : (test : Entry → Bool) (entries : List Entry) (bound place : ℕ)
    → last_where test entries bound ≡ Some place → (place < bound)
    × (passes_at test entries place ≡ true)
last_where-is test entries zero place is = absurd (cc)
last_where-is test entries (suc bound) place is =
    by (last_where-is test entries bound place) (passes_at test entries bound) refl is
  where
    by : (last_where test entries bound ≡ Some place → (place < bound)
        × (passes_at test entries place ≡ true)) → (b : Bool) → passes_at test entries bound ≡ b
        → cond b (Some bound) (last_where test entries bound) ≡ Some place
        → (place < suc bound) × (passes_at test entries place ≡ true)
    by so true passes is =
        let same : bound ≡ place = cc in
        (omega arith, subst (λ i. passes_at test entries i ≡ true) same passes)
    by so false passes is =
        let below : (place < bound) × (passes_at test entries place ≡ true) = so is in
        (omega (arith, below.0), below.1)

pub last_where-below : (test : Entry → Bool) (entries : List Entry) (bound : ℕ)
    → end_of (last_where test entries bound) ≤ bound
last_where-below test entries bound = by (last_where test entries bound) refl
  where
    by : (found : Option ℕ) → last_where test entries bound ≡ found → end_of found ≤ bound
    by None is = omega arith
    by (Some place) is =
        let below : (place < bound) × (passes_at test entries place ≡ true) =
        last_where-is test entries bound place is in
        omega (arith, below.0)

-- no place below the bound passes that lies behind the last
pub last_where-end : (test : Entry → Bool) (entries : List Entry) (bound place : ℕ) → place < bound
    → passes_at test entries place ≡ true → place < end_of (last_where test entries bound)
last_where-end test entries zero place within passes = absurd (omega (arith, within))
last_where-end test entries (suc bound) place within passes =
    by (λ less. last_where-end test entries bound place less passes) (passes_at test entries bound)
    refl
  where
    at : (i : ℕ) → place ≡ i → passes_at test entries i ≡ false → ⊥
    at i same is = true≢false (sym passes ∙ ap (passes_at test entries) same ∙ is)

    by : (place < bound → place < end_of (last_where test entries bound)) → (b : Bool)
        → passes_at test entries bound ≡ b
        → place < end_of (cond b (Some bound) (last_where test entries bound))
    by so true is = within
    by so false is = below (cases_order place bound)
      where
        below : (place ≡ bound) ⊎ ((place < bound) ⊎ (bound < place))
            → place < end_of (last_where test entries bound)
        below (inl same) = absurd (at bound same is)
        below (inr (inl less)) = so less
        below (inr (inr more)) = absurd (omega (arith, within, more))

-- where fewer pass, their last place is that of many or lies below it
pub last_where-fewer : (few many : Entry → Bool) (entries : List Entry)
    → ((entry : Entry) → few entry ≡ true → many entry ≡ true) → (bound : ℕ)
    → last_where few entries bound ≡ last_where few entries (end_of (last_where many entries bound))
last_where-fewer few many entries so zero = refl
last_where-fewer few many entries so (suc bound) =
    by (last_where-fewer few many entries so bound) (passes_at many entries bound) refl
  where
    neither : (found : Option Entry) → option_map_or many found false ≡ false
        → option_map_or few found false ≡ false
    neither None is = refl
    neither (Some entry) is = not-few (few entry) refl
      where
        not-few : (b : Bool) → few entry ≡ b → b ≡ false
        not-few true holds = absurd (true≢false (sym (so entry holds) ∙ is))
        not-few false holds = refl

    by : last_where few entries bound ≡ last_where few entries
        (end_of (last_where many entries bound)) → (b : Bool) → passes_at many entries bound ≡ b
        → last_where few entries (suc bound) ≡ last_where few entries
        (end_of (cond b (Some bound) (last_where many entries bound)))
    by below true is = refl
    by below false is =
        ap (λ b. cond b (Some bound) (last_where few entries bound))
        (neither (slice_get entries bound) is) ∙ below

-- ---- words and their hashes
folded-one : (hash c : ℕ) → folded hash (c ∷ []) ≡ ((hash * FACTOR) % 2 ^ 64 + c) % 2 ^ 64
unfolding folded
folded-one hash c = refl

pub folded-more : (hash : ℕ) (text : List ℕ) (i c : ℕ) → i < length text → c ≡ get_or text i c
    → folded hash (take (i + 1) text) ≡ ((folded hash (take i text) * FACTOR) % 2 ^ 64 + c) % 2 ^ 64
folded-more hash text i c within is =
    ap (folded hash) (take_more text i c within ∙ ap (λ last. take i text ++ last ∷ []) (sym is))
    ∙ folded-append hash (take i text) (c ∷ [])
    ∙ folded-one (folded hash (take i text)) c

-- the hash of a text with its hash, taken on over what stands behind it
pub joined-hash : (front : Hashed) (back : List ℕ) (hash : ℕ) → hash ≡ folded front.hash back
    → IsHashed front → hash ≡ hash_of (front.text.now ++ back)
joined-hash front back hash is hashed =
    is ∙ ap (λ h. folded h back) hashed ∙ sym (folded-append START front.text.now back)

pub same-hash : (word : List ℕ) (entry : Entry) → has_word word entry ≡ true
    → has_hash (hash_of word) entry ≡ true
same-hash word entry is =
    let same : entry.word ≡ word = (bytes_eq-Decides entry.word word).0 is in
    eq-eqb (hash_of entry.word) (hash_of word) (ap hash_of same)

-- the test of a place where an entry stands
pub passes-entry : (test : Entry → Bool) (entries : List Entry) (place : ℕ)
    → passes_at test entries place ≡ true → (entry : Entry) × (slice_get entries place ≡ Some entry)
    × (test entry ≡ true)
passes-entry test entries place passes = by (slice_get entries place) refl passes
  where
    by : (found : Option Entry) → slice_get entries place ≡ found
        → option_map_or test found false ≡ true → (entry : Entry)
        × (slice_get entries place ≡ Some entry) × (test entry ≡ true)
    by None at is = absurd (true≢false (sym is))
    by (Some entry) at is = (entry, at, is)

-- what a half with the remainder has at a place of an entry
abbrev pub last-in : ℕ → List Entry → ℕ → Entry → Option ℕ
last-in remainder entries place entry =
    if nat_eq (hash_of entry.word % 2) remainder
    then last_where (has_hash (hash_of entry.word)) entries place else None

-- no place has a hash that the filter excludes
pub hash-none : (entries : List Entry) (half : Half) (hash : ℕ) → HasHalf (hash % 2) entries half
    → may_have half.hashes hash ≡ false → last_where (has_hash hash) entries (length entries) ≡ None
hash-none entries half hash holds none = sym (holds.last hash refl) ∙ holds.hashes hash refl none

-- the place before one with the hash is the last one below it that has the hash
pub earlier-is : (entries : List Entry) (half : Half) (hash place : ℕ)
    → HasHalf (hash % 2) entries half → passes_at (has_hash hash) entries place ≡ true
    → option_flatten (slice_get half.earlier.items place) ≡ last_where (has_hash hash) entries place
earlier-is entries half hash place holds passes =
    by (passes-entry (has_hash hash) entries place passes)
  where
    by : ((entry : Entry) × (slice_get entries place ≡ Some entry) × (has_hash hash entry ≡ true))
        → option_flatten (slice_get half.earlier.items place) ≡ last_where (has_hash hash) entries
        place
    by (entry, at, is) =
        ap option_flatten
        (holds.earlier place
        ∙ ap (option_map (last-in (hash % 2) entries place)) at)
        ∙ ap (λ h. cond (nat_eq (h % 2) (hash % 2)) (last_where (has_hash h) entries place) None)
        (eqb-true (hash_of entry.word) hash is)
        ∙ ap (λ b. cond b (last_where (has_hash hash) entries place) None)
        (eq-eqb (hash % 2) (hash % 2) refl)

-- the place before one lies below it
pub earlier-below : (remainder : ℕ) (entries : List Entry) (half : Half) (place : ℕ)
    → HasHalf remainder entries half → end_of (option_flatten (slice_get half.earlier.items place))
    ≤ place
earlier-below remainder entries half place holds =
    subst (λ found. end_of (option_flatten found) ≤ place) (sym (holds.earlier place))
    (by (slice_get entries place))
  where
    either : (hash : ℕ) (b : Bool) → end_of (cond b (last_where (has_hash hash) entries place) None)
        ≤ place
    either hash true = last_where-below (has_hash hash) entries place
    either hash false = omega arith

    by : (found : Option Entry)
        → end_of (option_flatten (option_map (last-in remainder entries place) found)) ≤ place
    by None = omega arith
    by (Some entry) = either (hash_of entry.word) (nat_eq (hash_of entry.word % 2) remainder)

-- ---- down the places of a hash
-- Where the walk is: the next place is the last of the hash below a bound, and no place of the word
-- was passed over.
pub record IsOnWay (entries : List Entry) (word : List ℕ) (start next : Option ℕ) : Type 0 where
  pub reaches : (bound : ℕ) → start ≡ last_where (has_hash (hash_of word)) entries bound
      → ((end : ℕ) × (next ≡ last_where (has_hash (hash_of word)) entries end))
      × (last_where (has_word word) entries bound ≡ last_where (has_word word) entries
      (end_of next))

pub way-first : (entries : List Entry) (word : List ℕ) (start : Option ℕ)
    → IsOnWay entries word start start
way-first entries word start = record {
  reaches = λ bound is. (
    (bound, is),
    last_where-fewer (has_word word) (has_hash (hash_of word)) entries (same-hash word) bound
        ∙ ap (λ found. last_where (has_word word) entries (end_of found)) (sym is),
  );
}

-- the place has another word, and the next is the one before it
pub way-more : (entries : List Entry) (half : Half) (word : List ℕ) (start : Option ℕ)
    (place : ℕ) (next : Option ℕ) → HasHalf (hash_of word % 2) entries half
    → IsOnWay entries word start (Some place) → passes_at (has_word word) entries place ≡ false
    → next ≡ option_flatten (slice_get half.earlier.items place) → IsOnWay entries word start next
way-more entries half word start place next holds way other is =
    record { reaches = λ bound from. on bound (way.reaches bound from) }
  where
    on : (bound : ℕ) → ((end : ℕ) × (Some place ≡ last_where (has_hash (hash_of word)) entries end))
        × (last_where (has_word word) entries bound ≡ last_where (has_word word) entries
        (end_of (Some place)))
        → ((end : ℕ) × (next ≡ last_where (has_hash (hash_of word)) entries end))
        × (last_where (has_word word) entries bound ≡ last_where (has_word word) entries
        (end_of next))
    on bound ((end, at), same) =
        let passes : passes_at (has_hash (hash_of word)) entries place ≡ true =
        (last_where-is (has_hash (hash_of word)) entries end place (sym at)).1 in
        let next-is : next ≡ last_where (has_hash (hash_of word)) entries place =
        is ∙ earlier-is entries half (hash_of word) place holds passes in (
          (place, next-is),
          same
              ∙ ap (λ b. cond b (Some place) (last_where (has_word word) entries place)) other
              ∙ last_where-fewer (has_word word) (has_hash (hash_of word)) entries (same-hash word)
              place
              ∙ ap (λ found. last_where (has_word word) entries (end_of found)) (sym next-is),
        )

-- the place has the word
pub way-found : (entries : List Entry) (word : List ℕ) (start : Option ℕ) (place bound : ℕ)
    → IsOnWay entries word start (Some place) → passes_at (has_word word) entries place ≡ true
    → start ≡ last_where (has_hash (hash_of word)) entries bound
    → Some place ≡ last_where (has_word word) entries bound
way-found entries word start place bound way here from =
    ap (λ b. cond b (Some place) (last_where (has_word word) entries place)) (sym here)
    ∙ sym (way.reaches bound from).1

-- there is no place left
pub way-last : (entries : List Entry) (word : List ℕ) (start : Option ℕ) (bound : ℕ)
    → IsOnWay entries word start None → start ≡ last_where (has_hash (hash_of word)) entries bound
    → None ≡ last_where (has_word word) entries bound
way-last entries word start bound way from = sym (way.reaches bound from).1

-- ---- one entry more
pub half-none : (remainder : ℕ) (half : Half) → half.remainder ≡ remainder
    → half.last.entries ≡ [] → half.earlier.items ≡ [] → HasHalf remainder [] half
half-none remainder half is_for last earlier = record {
  is_for = is_for;
  count = ap length earlier;
  last = λ hash is. ap (lookup (nat_eq hash)) last;
  earlier = λ place. ap (λ items. slice_get items place) earlier;
  hashes = λ hash is none. ap (lookup (nat_eq hash)) last;
}

own-more : (entries : List Entry) (entry : Entry) (before noted : Half)
    (earlier : Vec (Option ℕ) Global) (old : Option ℕ) → HasHalf before.remainder entries before
    → Notes before noted (hash_of entry.word) (length entries) old
    → earlier.items ≡ noted.earlier.items ++ old ∷ []
    → HasHalf before.remainder (entries ++ entry ∷ [])
    record {
      remainder = noted.remainder;
      last = noted.last;
      earlier = earlier;
      hashes = noted.hashes;
    }
own-more entries entry before noted earlier old holds notes pushes = record {
  is_for = notes.remainder;
  count = ap length pushed ∙ longer;
  last = λ hash is.
      notes.last hash is
      ∙ ap (cond (nat_eq (hash_of entry.word) hash) (Some (length entries))) (holds.last hash is)
      ∙ sym (last_where-all (has_hash hash) entries entry);
  earlier = λ place. ap (λ items. slice_get items place) pushed
      ∙ at place (cases_order place (length entries));
  hashes = λ hash is none.
      notes.last hash is ∙ no-place hash is none (nat_eq (hash_of entry.word) hash) refl;
}
  where
    pushed : earlier.items ≡ before.earlier.items ++ old ∷ []
    pushed = pushes ∙ ap (λ items. items ++ old ∷ []) notes.same

    no-place : (hash : ℕ) → hash % 2 ≡ before.remainder → may_have noted.hashes hash ≡ false
        → (b : Bool) → nat_eq (hash_of entry.word) hash ≡ b
        → cond b (Some (length entries)) (get nat_eq before.last hash) ≡ None
    no-place hash is none true same =
        let equal : hash_of entry.word ≡ hash = eqb-true (hash_of entry.word) hash same in
        absurd (true≢false
        (sym (notes.there (ap (λ h. h % 2) equal ∙ is)) ∙ ap (may_have noted.hashes) equal ∙ none))
    no-place hash is none false other =
        holds.hashes hash is
        (false_from_ne_true (may_have before.hashes hash)
        (λ had. true≢false (sym (notes.kept hash had) ∙ none)))

    longer : length (before.earlier.items ++ old ∷ []) ≡ length (entries ++ entry ∷ [])
    longer = omega (
      arith,
      length-append before.earlier.items (old ∷ []),
      length-append entries (entry ∷ []),
      holds.count,
    )

    same-at : (place : ℕ) (found : Option Entry) → place ≤ length entries
        → option_map (last-in before.remainder entries place) found
        ≡ option_map (last-in before.remainder (entries ++ entry ∷ []) place) found
    same-at place None within = refl
    same-at place (Some e) within =
        ap (λ last. Some (cond (nat_eq (hash_of e.word % 2) before.remainder) last None))
        (sym (last_where-before (has_hash (hash_of e.word)) entries entry place within))

    old-in : (b : Bool) → nat_eq (hash_of entry.word % 2) before.remainder ≡ b
        → cond b (get nat_eq before.last (hash_of entry.word)) None
        ≡ cond b (last_where (has_hash (hash_of entry.word)) entries (length entries)) None
    old-in true is =
        holds.last (hash_of entry.word) (eqb-true (hash_of entry.word % 2) before.remainder is)
    old-in false is = refl

    at : (place : ℕ) → (place ≡ length entries)
        ⊎ ((place < length entries) ⊎ (length entries < place))
        → slice_get (before.earlier.items ++ old ∷ []) place
        ≡ option_map (last-in before.remainder (entries ++ entry ∷ []) place)
        (slice_get (entries ++ entry ∷ []) place)
    at place (inl same) =
        get-last before.earlier.items old place (omega (arith, same, holds.count))
        ∙ ap (λ last. Some last)
        (notes.given ∙ old-in (nat_eq (hash_of entry.word % 2) before.remainder) refl
        ∙ ap (λ end. last-in before.remainder entries end entry) (sym same))
        ∙ same-at place (Some entry) (omega (arith, same))
        ∙ ap (option_map (last-in before.remainder (entries ++ entry ∷ []) place))
        (sym (get-last entries entry place same))
    at place (inr (inl less)) =
        get-before before.earlier.items old place (omega (arith, less, holds.count))
        ∙ holds.earlier place
        ∙ same-at place (slice_get entries place) (omega (arith, less))
        ∙ ap (option_map (last-in before.remainder (entries ++ entry ∷ []) place))
        (sym (get-before entries entry place less))
    at place (inr (inr more)) =
        slice_get_past (before.earlier.items ++ old ∷ []) place
        (omega (arith, more, longer, length-append entries (entry ∷ [])))
        ∙ ap (option_map (last-in before.remainder (entries ++ entry ∷ []) place))
        (sym (slice_get_past (entries ++ entry ∷ []) place
        (omega (arith, more, length-append entries (entry ∷ [])))))

pub half-more : (remainder : ℕ) (entries : List Entry) (entry : Entry) (before noted : Half)
    (earlier : Vec (Option ℕ) Global) (old : Option ℕ) → HasHalf remainder entries before
    → Notes before noted (hash_of entry.word) (length entries) old
    → earlier.items ≡ noted.earlier.items ++ old ∷ []
    → HasHalf remainder (entries ++ entry ∷ [])
    record {
      remainder = noted.remainder;
      last = noted.last;
      earlier = earlier;
      hashes = noted.hashes;
    }
half-more remainder entries entry before noted earlier old holds notes pushes =
    subst (λ r. HasHalf r (entries ++ entry ∷ [])
    record {
      remainder = noted.remainder;
      last = noted.last;
      earlier = earlier;
      hashes = noted.hashes;
    }) holds.is_for
    (own-more entries entry before noted earlier old
    (subst (λ r. HasHalf r entries before) (sym holds.is_for) holds) notes pushes)

-- ---- a word of two parts
pub joined-none : (word front back : List ℕ) → pointwise nat_eq (take (length front) word) front
    ≡ false → is_same_word word (front ++ back) ≡ false
joined-none word front back other = by (is_same_word word (front ++ back)) refl
  where
    by : (b : Bool) → is_same_word word (front ++ back) ≡ b → b ≡ false
    by true is =
        let same : word ≡ front ++ back = (bytes_eq-Decides word (front ++ back)).0 is in
        let begins : take (length front) word ≡ front =
        ap (take (length front)) same ∙ take-append_seam front back in
        absurd (true≢false (sym ((bytes_eq-Decides (take (length front) word) front).1 begins)
        ∙ other))
    by false is = refl

pub joined-some : (word front back rest : List ℕ)
    → pointwise nat_eq (take (length front) word) front ≡ true → rest ≡ drop (length front) word
    → is_same_word word (front ++ back) ≡ pointwise nat_eq rest back
joined-some word front back rest begins ends =
    by (pointwise nat_eq rest back) refl (is_same_word word (front ++ back)) refl
  where
    is : word ≡ front ++ rest
    is = sym (take-append-drop (length front) word)
        ∙ ap₂ (λ xs ys. xs ++ ys) ((bytes_eq-Decides (take (length front) word) front).0 begins)
        (sym ends)

    by : (b : Bool) → pointwise nat_eq rest back ≡ b → (c : Bool)
        → is_same_word word (front ++ back) ≡ c → c ≡ b
    by true same true joined = refl
    by false other false apart = refl
    by true same false apart =
        let equal : rest ≡ back = (bytes_eq-Decides rest back).0 same in
        absurd (true≢false
        (sym ((bytes_eq-Decides word (front ++ back)).1 (is ∙ ap (λ xs. front ++ xs) equal))
        ∙ apart))
    by false other true joined =
        let equal : word ≡ front ++ back = (bytes_eq-Decides word (front ++ back)).0 joined in
        absurd (true≢false
        (sym ((bytes_eq-Decides rest back).1
        (append_cancel_left front rest back (sym is ∙ equal))) ∙ other))
