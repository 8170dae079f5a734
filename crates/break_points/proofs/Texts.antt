-- The texts of patterns that stand at a place, one character after another.
use Rattle.std.proofs.Common.{◌≡◌, ◌∙◌, ◌⊎◌, inl, inr, sym, ap, subst, ℕ, zero, suc, ◌+◌, ◌<◌}
use Rattle.std.proofs.Common.{◌≤◌, Bool, List, [], ◌∷◌, ◌++◌, length, map, take, drop, get_or}
use Rattle.std.proofs.Common.{nat_eq, length-drop, arith}
use Rattle.std.specs.Cmp.Lexicographic.{pointwise}
use Rattle.std.specs.List.{All, Contains, starts_with}
use Rattle.std.proofs.lemmas.Bool.{cases_lt}
use Rattle.std.proofs.lemmas.List.{length-take-le, take-take}
use Rattle.std.proofs.lemmas.List.Elements.{All-append, All-map, All-same}
use Rattle.std.proofs.lemmas.List.Elements.{Contains-get_or, Contains-append_left}
use Rattle.std.proofs.lemmas.List.Elements.{Contains-append_right}
use Rattle.std.proofs.lemmas.Slice.Eq.{bytes_eq-Decides}
use Rattle.spell_types.specs.lists.Laws.{contains-head, contains-tail, contains-filter}
use Rattle.spell_types.specs.lists.Laws.{contains-map}
use Rattle.spell_types.specs.lists.Laws.{contains-none, filter-holds, filter-among}
use Rattle.spell_types.specs.declared.breaks.Anchored.{Anchored}
use Rattle.text_order.specs.TextOrder.{AreInOrder, beginning, having}
use Rattle.break_points.specs.declared.occurrences.Occurrence.{Occurrence}
use Rattle.break_points.specs.Patterns.{BreakPattern, anchored_of}
use Rattle.break_points.specs.Occurrences.{occurrence_of, IsOccurrence}

-- ---- what stays among others
-- what was made of some item
pub made-of : {X Y : Type 0} (f : X → Y) (xs : List X) (y : Y) → Contains (map f xs) y
    → (x : X) × Contains xs x × (f x ≡ y)
made-of {X} {Y} f [] y (k, within, at) = absurd (omega (arith, within))
made-of {X} {Y} f (x ∷ xs) y (k, within, at) = by (made-of f xs y) k within at
  where
    by : (Contains (map f xs) y → (x : X) × Contains xs x × (f x ≡ y)) → (k : ℕ)
        → k < length (f x ∷ map f xs) → get_or (f x ∷ map f xs) k y ≡ y
        → (z : X) × Contains (x ∷ xs) z × (f z ≡ y)
    by later zero within at = (x, contains-head x xs, at)
    by later (suc k) within at = let low =
        later (k, omega (arith, within), at) in
        (low.0, contains-tail x low.0 xs low.1, low.2)

-- ---- occurrences of one length
abbrev pub same_text : List ℕ → BreakPattern → Bool
same_text text p = pointwise nat_eq p.0.items text

each_sound : (patterns : List BreakPattern) (word : List ℕ) (place len : ℕ)
    → place + len ≤ length word
    → All (IsOccurrence (map anchored_of patterns) word)
    (map (occurrence_of place len) (having (take len (drop place word)) patterns))
each_sound patterns word place len within =
    All-map (IsOccurrence (map anchored_of patterns) word) (occurrence_of place len) found
    (λ k d inside. one (get_or found k d) (Contains-get_or found k d inside))
  where
    text : List ℕ
    text = take len (drop place word)

    found : List BreakPattern
    found = having text patterns

    one : (p : BreakPattern) → Contains (having text patterns) p
        → IsOccurrence (map anchored_of patterns) word (occurrence_of place len p)
    one p inside =
        let same : p.0.items ≡ text =
        (bytes_eq-Decides p.0.items text).0
        (filter-holds (same_text text) patterns p inside) in
        record {
          within = within;
          among = subst (λ t. let a : Anchored = record { text = t; front = p.1.0; back = p.1.1 } in
              Contains (map anchored_of patterns) a) same
              (contains-map anchored_of patterns p
              (filter-among (same_text text) patterns p inside));
        }

-- the pattern of an occurrence
own_pattern : (patterns : List BreakPattern) (word : List ℕ) (occurrence : Occurrence)
    → IsOccurrence (map anchored_of patterns) word occurrence
    → (p : BreakPattern) × Contains patterns p
    × (anchored_of p
    ≡ record {
      text = take occurrence.len (drop occurrence.place word);
      front = occurrence.front;
      back = occurrence.back;
    })
own_pattern patterns word occurrence is = made-of anchored_of patterns _ is.among

each_whole : (patterns : List BreakPattern) (word : List ℕ) (occurrence : Occurrence)
    → IsOccurrence (map anchored_of patterns) word occurrence
    → Contains (map (occurrence_of occurrence.place occurrence.len)
    (having (take occurrence.len (drop occurrence.place word)) patterns)) occurrence
each_whole patterns word occurrence is = by (own_pattern patterns word occurrence is)
  where
    text : List ℕ
    text = take occurrence.len (drop occurrence.place word)

    by : ((p : BreakPattern) × Contains patterns p
        × (anchored_of p
        ≡ record { text = text; front = occurrence.front; back = occurrence.back }))
        → Contains (map (occurrence_of occurrence.place occurrence.len) (having text patterns))
        occurrence
    by (p, among, same) =
        let items : p.0.items ≡ text = ap (λ (a : Anchored). a.text) same in
        subst (Contains
        (map (occurrence_of occurrence.place occurrence.len) (having text patterns)))
        (ap (λ (a : Anchored). let m : Occurrence =
        record {
          place = occurrence.place;
          len = occurrence.len;
          front = a.front;
          back = a.back;
        } in m) same)
        (contains-map (occurrence_of occurrence.place occurrence.len) (having text patterns) p
        (contains-filter (same_text text) patterns p among
        ((bytes_eq-Decides p.0.items text).1 items)))

-- where no pattern begins with the next front no occurrence is longer
none_longer : (patterns : List BreakPattern) (word : List ℕ) (occurrence : Occurrence) (n : ℕ)
    → n ≤ length (drop occurrence.place word)
    → beginning (take n (drop occurrence.place word)) patterns ≡ []
    → IsOccurrence (map anchored_of patterns) word occurrence → occurrence.len < n
none_longer patterns word occurrence n within none is =
    by (cases_lt occurrence.len n) (own_pattern patterns word occurrence is)
  where
    rest : List ℕ
    rest = drop occurrence.place word

    by : (occurrence.len < n) ⊎ (n ≤ occurrence.len)
        → ((p : BreakPattern) × Contains patterns p
        × (anchored_of p
        ≡ record {
          text = take occurrence.len (drop occurrence.place word);
          front = occurrence.front;
          back = occurrence.back;
        })) → occurrence.len < n
    by (inl less) own = less
    by (inr long) (p, among, same) =
        let items : p.0.items ≡ take occurrence.len rest = ap (λ (a : Anchored). a.text) same in
        let front : take (length (take n rest)) p.0.items ≡ take n rest =
        ap (λ k. take k p.0.items) (length-take-le n rest within) ∙ ap (take n) items
        ∙ take-take n occurrence.len rest long in
        absurd (contains-none (beginning (take n rest) patterns) p none
        (contains-filter (λ (q : BreakPattern). starts_with nat_eq q.0.items (take n rest)) patterns p
        among
        ((bytes_eq-Decides (take n rest) (take (length (take n rest)) p.0.items)).1 (sym front))))

-- ---- occurrences of one length more
pub record Adds (patterns : List BreakPattern) (word : List ℕ) (place len : ℕ)
    (earlier later : List Occurrence) : Type 0 where
  within : place + len ≤ length word
  is : later ≡ earlier
      ++ map (occurrence_of place len) (having (take len (drop place word)) patterns)

pub adds : (patterns alike found : List BreakPattern) (word text : List ℕ) (place len : ℕ)
    (earlier later : List Occurrence) → text ≡ drop place word → place + len ≤ length word
    → AreInOrder patterns → alike ≡ beginning (take len text) patterns
    → ((all : List BreakPattern) (front : List ℕ) → AreInOrder all → length front ≡ len
    → alike ≡ beginning front all → found ≡ having front all)
    → later ≡ earlier ++ map (occurrence_of place len) found
    → Adds patterns word place len earlier later
adds patterns alike found word text place len earlier later rest within sorted so_far ends made =
    record {
      within = within;
      is = made ∙ ap (λ ps. earlier ++ map (occurrence_of place len) ps)
          (ends patterns (take len text) sorted
          (length-take-le len text (omega (arith, within, ap length rest, length-drop place word)))
          so_far
          ∙ ap (λ t. having (take len t) patterns) rest);
    }

pub adds-kept : (patterns : List BreakPattern) (word : List ℕ) (place len : ℕ)
    (earlier later : List Occurrence) → Adds patterns word place len earlier later
    → (occurrence : Occurrence) → Contains earlier occurrence → Contains later occurrence
adds-kept patterns word place len earlier later adding occurrence inside =
    subst (λ occurrences. Contains occurrences occurrence) (sym adding.is)
    (Contains-append_left earlier
    (map (occurrence_of place len) (having (take len (drop place word)) patterns)) occurrence
    inside)

pub adds-sound : (patterns : List BreakPattern) (word : List ℕ) (place len : ℕ)
    (earlier later : List Occurrence) → Adds patterns word place len earlier later
    → All (IsOccurrence (map anchored_of patterns) word) earlier
    → All (IsOccurrence (map anchored_of patterns) word) later
adds-sound patterns word place len earlier later adding sound =
    All-same (IsOccurrence (map anchored_of patterns) word) later
    (earlier ++ map (occurrence_of place len) (having (take len (drop place word)) patterns))
    adding.is
    (All-append (IsOccurrence (map anchored_of patterns) word) earlier
    (map (occurrence_of place len) (having (take len (drop place word)) patterns)) sound
    (each_sound patterns word place len adding.within))

adds-here : (patterns : List BreakPattern) (word : List ℕ) (place len : ℕ)
    (earlier later : List Occurrence) → Adds patterns word place len earlier later
    → (occurrence : Occurrence) → occurrence.place ≡ place → occurrence.len ≡ len
    → IsOccurrence (map anchored_of patterns) word occurrence → Contains later occurrence
adds-here patterns word place len earlier later adding occurrence at long is =
    subst (λ occurrences. Contains occurrences occurrence) (sym adding.is)
    (Contains-append_right earlier
    (map (occurrence_of place len) (having (take len (drop place word)) patterns)) occurrence
    (subst (λ p. Contains (map (occurrence_of p len) (having (take len (drop p word)) patterns))
    occurrence) at
    (subst (λ n.
    Contains (map (occurrence_of occurrence.place n)
    (having (take n (drop occurrence.place word)) patterns)) occurrence) long
    (each_whole patterns word occurrence is))))

-- all that are no longer are there
pub adds-whole : (patterns : List BreakPattern) (word : List ℕ) (place len : ℕ)
    (earlier later : List Occurrence) → Adds patterns word place len earlier later
    → ((occurrence : Occurrence) → occurrence.place ≡ place → occurrence.len < len
    → IsOccurrence (map anchored_of patterns) word occurrence → Contains earlier occurrence)
    → (occurrence : Occurrence) → occurrence.place ≡ place → occurrence.len < len + 1
    → IsOccurrence (map anchored_of patterns) word occurrence → Contains later occurrence
adds-whole patterns word place len earlier later adding shorter occurrence at below is =
    by (cases_lt occurrence.len len)
  where
    by : (occurrence.len < len) ⊎ (len ≤ occurrence.len) → Contains later occurrence
    by (inl less) =
        adds-kept patterns word place len earlier later adding occurrence
        (shorter occurrence at less is)
    by (inr more) =
        adds-here patterns word place len earlier later adding occurrence at
        (omega (arith, below, more)) is

-- where no pattern begins with the next front, those are all
pub adds-all : (patterns : List BreakPattern) (word text : List ℕ) (place len : ℕ)
    (earlier later : List Occurrence) → text ≡ drop place word → len + 1 ≤ length text
    → beginning (take (len + 1) text) patterns ≡ []
    → Adds patterns word place len earlier later
    → ((occurrence : Occurrence) → occurrence.place ≡ place → occurrence.len < len
    → IsOccurrence (map anchored_of patterns) word occurrence → Contains earlier occurrence)
    → (occurrence : Occurrence) → occurrence.place ≡ place
    → IsOccurrence (map anchored_of patterns) word occurrence → Contains later occurrence
adds-all patterns word text place len earlier later rest within none adding shorter occurrence at
    is =
    let same : text ≡ drop occurrence.place word = rest ∙ ap (λ p. drop p word) (sym at) in
    adds-whole patterns word place len earlier later adding shorter occurrence at
    (none_longer patterns word occurrence (len + 1) (omega (arith, within, ap length same))
    (ap (λ t. beginning (take (len + 1) t) patterns) (sym same) ∙ none) is) is

-- and so at the end of the word
pub adds-last : (patterns : List BreakPattern) (word text : List ℕ) (place : ℕ)
    (earlier later : List Occurrence) → text ≡ drop place word → place < length word
    → Adds patterns word place (length text) earlier later
    → ((occurrence : Occurrence) → occurrence.place ≡ place → occurrence.len < length text
    → IsOccurrence (map anchored_of patterns) word occurrence → Contains earlier occurrence)
    → (occurrence : Occurrence) → occurrence.place ≡ place
    → IsOccurrence (map anchored_of patterns) word occurrence → Contains later occurrence
adds-last patterns word text place earlier later rest inside adding shorter occurrence at is =
    adds-whole patterns word place (length text) earlier later adding shorter occurrence at
    (omega (arith, is.within, at, inside, ap length rest, length-drop place word)) is
