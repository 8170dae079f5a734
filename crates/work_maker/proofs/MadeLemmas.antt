-- The made files, one entry or one word at a time: a word of the text is followed by a line feed
-- where it ends a line, and else by a space.
use Rattle.std.proofs.Common.{◌≡◌, ◌∙◌, ◌≢◌, sym, ap, ap₂, inl, inr, ⊎_elim, ◌⊎◌, ℕ, zero, suc, ◌+◌}
use Rattle.std.proofs.Common.{◌-◌, ◌*◌, ◌/◌, ◌%◌, ◌<◌, ◌≤◌, min, ◌||◌, List, [], ◌∷◌, ◌++◌, map}
use Rattle.std.proofs.Common.{append-nil, append_assoc, add-one, take, drop, ◌==◌, if◌then◌else◌}
use Rattle.std.proofs.Common.{arith}
use Rattle.std.specs.Fmt.{decimal}
use Rattle.std.specs.Fork.{slice_chunk}
use Rattle.std.specs.List.{flat_map, range_with_len, join_with_byte}
use Rattle.std.proofs.lemmas.Bool.{cases_lt}
use Rattle.std.proofs.lemmas.Bool.Decides.{nat_tests}
use Rattle.std.proofs.lemmas.List.{take_min, map_push}
use Rattle.std.proofs.lemmas.List.Concat.{flat_map-append}
use Rattle.std.proofs.lemmas.List.FromFn.{map-range_with_len_more, take-map-range_with_len}
use Rattle.std.proofs.lemmas.List.FromFn.{length-map-range_with_len}
use Rattle.work_maker.specs.Made.{ended, made_entry, drawn, drawn_after, drawn_word, made_words}
use Rattle.work_maker.specs.Made.{text_bytes}

ended-push : (lines : List (List ℕ)) (line : List ℕ) → ended (lines ++ line ∷ []) ≡ ended lines
    ++ (line ++ 10 ∷ [])
ended-push lines line =
    flat_map-append (λ l. l ++ 10 ∷ []) lines (line ∷ [])
    ∙ ap (λ last. ended lines ++ last) (append-nil (line ++ 10 ∷ []))

-- ---- the dictionary

-- one entry more
pub dic_bytes-more : (size number : ℕ)
    → ended (decimal size ∷ map made_entry (range_with_len 0 (number + 1)))
    ≡ ended (decimal size ∷ map made_entry (range_with_len 0 number)) ++ (made_entry number ++ 10 ∷ [])
dic_bytes-more size number =
    ap (λ entries. ended (decimal size ∷ entries))
    (map-range_with_len_more made_entry 0 number number (omega arith))
    ∙ ended-push (decimal size ∷ map made_entry (range_with_len 0 number)) (made_entry number)

-- ---- the text

-- what stands behind the word at a place
abbrev pub end_of : ℕ → ℕ → ℕ
end_of size place = if place % 10 == 0 || place == size then 10 else 32

end_of-last : (size place : ℕ) → (place % 10 ≡ 0) ⊎ (place ≡ size) → end_of size place ≡ 10
end_of-last size place last = grind (arith, nat_tests)

end_of-inner : (size place : ℕ) → place % 10 ≢ 0 → place ≢ size → end_of size place ≡ 32
end_of-inner size place inner before = grind (arith, nat_tests)

-- ---- any words, by their places
module _ (word : ℕ → List ℕ) (size : ℕ) where
  -- the word at a place, and what stands behind it
  abbrev pub with_end : ℕ → List ℕ
  with_end place = word place ++ end_of size place ∷ []

  -- so many words from a place on
  abbrev pub run : ℕ → ℕ → List ℕ
  run from count = flat_map with_end (range_with_len from count)

  pub run-more : (from count place : ℕ) → from + count ≡ place
      → run from (count + 1) ≡ run from count ++ with_end place
  run-more from zero place at = append-nil (with_end from) ∙ ap with_end (omega arith)
  run-more from (suc count) place at =
      ap (run from) (add-one (suc count))
      ∙ ap (λ n. with_end from ++ run (from + 1) n) (sym (add-one count))
      ∙ ap (λ rest. with_end from ++ rest) (run-more (from + 1) count place (omega arith))
      ∙ sym (append_assoc (with_end from) (run (from + 1) count) (with_end place))

  run-append : (from first second : ℕ) → run from first ++ run (from + first) second
      ≡ run from (first + second)
  run-append from zero second = ap₂ run (omega arith) (omega arith)
  run-append from (suc first) second =
      let count : suc (first + second) ≡ suc first + second = omega arith in
      append_assoc (with_end from) (run (from + 1) first) (run (from + suc first) second)
      ∙ ap (λ place. with_end from ++ (run (from + 1) first ++ run place second)) (omega arith)
      ∙ ap (λ rest. with_end from ++ rest) (run-append (from + 1) first second)
      ∙ ap (run from) count

  -- words of which the last alone ends a line are a line
  line-run : (from count : ℕ) → ((k : ℕ) → k < count → end_of size (from + k) ≡ 32)
      → end_of size (from + count) ≡ 10
      → join_with_byte 32 (map word (range_with_len from (suc count))) ++ 10
      ∷ [] ≡ run from (suc count)
  line-run from zero inner last =
      ap (λ end. word from ++ end ∷ []) (sym last ∙ ap (end_of size) (omega arith))
      ∙ sym (append-nil (with_end from))
  line-run from (suc count) inner last =
      let space : 32 ≡ end_of size from =
      sym (inner 0 (omega arith)) ∙ ap (end_of size) (omega arith) in
      let rest = line-run (from + 1) count
      (λ k within. ap (end_of size) (omega arith) ∙ inner (suc k) (omega arith))
      (ap (end_of size) (omega arith) ∙ last) in
      let later : List ℕ = join_with_byte 32 (map word (range_with_len (from + 1) (suc count))) in
      append_assoc (word from) (32 ∷ later) (10 ∷ [])
      ∙ ap₂ (λ end line. word from ++ (end ∷ line)) space rest
      ∙ sym (append_assoc (word from) (end_of size from ∷ []) (run (from + 1) (suc count)))

  drop-range : (skipped from count : ℕ) → drop skipped (map word (range_with_len from count))
      ≡ map word (range_with_len (from + skipped) (count - skipped))
  drop-range zero from count =
      ap₂ (λ place n. map word (range_with_len place n)) (omega arith) (omega arith)
  drop-range (suc skipped) from zero =
      let none : 0 ≡ 0 - suc skipped =
      omega arith in ap (λ n. map word (range_with_len (from + suc skipped) n)) none
  drop-range (suc skipped) from (suc count) =
      let place : from + 1 + skipped ≡ from + suc skipped = omega arith in
      let left : count - skipped ≡ suc count - suc skipped = omega arith in
      drop-range skipped (from + 1) count ∙ ap₂ (λ p n. map word (range_with_len p n)) place left

  take-range : (taken from count : ℕ) → take taken (map word (range_with_len from count))
      ≡ map word (range_with_len from (min taken count))
  take-range taken from count =
      let words : List (List ℕ) = map word (range_with_len from count) in
      sym (take_min taken words)
      ∙ ap (λ n. take (min taken n) words) (length-map-range_with_len word from count)
      ∙ take-map-range_with_len word from count (min taken count) (omega arith)

  abbrev words : List (List ℕ)
  words = map word (range_with_len 1 size)

  -- how many words stand in a line, of those with numbers from 0
  abbrev in_line : ℕ → ℕ
  in_line number = min 10 (size - number * 10)

  chunk-range : (number : ℕ)
      → slice_chunk words 10 number ≡ map word (range_with_len (1 + number * 10) (in_line number))
  chunk-range number = ap (take 10) (drop-range (number * 10) 1 size)
      ∙ take-range 10 (1 + number * 10) (size - number * 10)

  chunk-run : (number : ℕ) → number * 10 < size
      → join_with_byte 32 (slice_chunk words 10 number) ++ 10
      ∷ [] ≡ run (1 + number * 10) (in_line number)
  chunk-run number within =
      let from = 1 + number * 10 in
      let count = in_line number - 1 in
      let more : in_line number ≡ suc count = omega arith in
      let last : end_of size (from + count) ≡ 10 = end_of-last size (from + count) (⊎_elim
      (λ (whole : size - number * 10 < 10). inr (omega arith))
      (λ (cut : 10 ≤ size - number * 10). inl (omega arith))
      (cases_lt (size - number * 10) 10)) in
      ap (λ ws. join_with_byte 32 ws ++ 10 ∷ [])
      (chunk-range number ∙ ap (λ n. map word (range_with_len from n)) more)
      ∙ line-run from count
      (λ k inside. end_of-inner size (from + k) (λ even. omega arith) (λ at. omega arith)) last
      ∙ ap (run from) (sym more)

  pub lines-run : (count : ℕ) → count ≤ (size + 9) / 10
      → ended (map (join_with_byte 32) (map (slice_chunk words 10) (range_with_len 0 count)))
      ≡ run 1 (min (count * 10) size)
  lines-run zero within = let none : 0 ≡ min (0 * 10) size = omega arith in ap (run 1) none
  lines-run (suc count) within =
      let before : List (List (List ℕ)) = map (slice_chunk words 10) (range_with_len 0 count) in
      let whole : min (count * 10) size ≡ count * 10 = omega arith in
      let grown : count * 10 + in_line count ≡ min (suc count * 10) size = omega arith in
      ap (λ n. ended (map (join_with_byte 32) (map (slice_chunk words 10) (range_with_len 0 n))))
      (sym (add-one count))
      ∙ ap (λ cut. ended (map (join_with_byte 32) cut))
      (map-range_with_len_more (slice_chunk words 10) 0 count count (omega arith))
      ∙ ap ended (map_push (join_with_byte 32) before (slice_chunk words 10 count))
      ∙ ended-push (map (join_with_byte 32) before) (join_with_byte 32 (slice_chunk words 10 count))
      ∙ ap₂ (λ front line. front ++ line) (lines-run count (omega arith))
      (chunk-run count (omega arith))
      ∙ ap (λ n. run 1 n ++ run (1 + count * 10) (in_line count)) whole
      ∙ run-append 1 (count * 10) (in_line count)
      ∙ ap (run 1) grown

-- ---- the words that are drawn
pub drawn-more : (start before place : ℕ) → before + 1 ≡ place
    → drawn start place ≡ drawn_after (drawn start before)
unfolding drawn
drawn-more start before place at = ap (drawn start) (sym at ∙ add-one before)

pub text_bytes-run : (start size : ℕ)
    → text_bytes start size ≡ run (λ place. drawn_word size (drawn start place)) size 1 size
unfolding text_bytes
text_bytes-run start size =
    let word = λ (place : ℕ). drawn_word size (drawn start place) in
    let whole : min ((size + 9) / 10 * 10) size ≡ size = omega arith in
    ap (λ n. ended
    (map (join_with_byte 32)
    (map (slice_chunk (made_words start size) 10) (range_with_len 0 ((n + 9) / 10)))))
    (length-map-range_with_len word 1 size)
    ∙ lines-run word size ((size + 9) / 10) (omega arith)
    ∙ ap (run word size 1) whole
