-- The eyes of a desk behind a dialogue: their numbers, and who has events that are not of workers.
use Rattle.std.proofs.Common.{◌≡◌, ◌∙◌, refl, sym, ap, subst, ℕ, ◌+◌, ◌⊎◌, inl, inr, List, [], ◌∷◌}
use Rattle.std.proofs.Common.{◌++◌, length, map, zero-add, arith}
use Rattle.std.specs.List.{All, AllByRecursion, AllZip, Contains, range_with_len}
use Rattle.std.specs.List.Sorted.{IsPermutation}
use Rattle.std.proofs.lemmas.List.{length-map, map_push}
use Rattle.std.proofs.lemmas.List.Elements.{All-append, All-from_recursion, Contains-push}
use Rattle.std.proofs.lemmas.List.FromFn.{length-range_with_len, map-range_with_len_more}
use Rattle.std.proofs.lemmas.List.Sorted.{IsPermutation-refl}
use Rattle.board_share.specs.edit_core.Seen.{Seen}
use Rattle.board_share.specs.Eyes.{EyeSeen, events_in, fresh_eye}
use Rattle.worker_crew.specs.Crews.{HasWorked}

abbrev number_of : EyeSeen → ℕ
number_of eye = eye.number

fresh-numbers : (opening : Seen) (numbers : List ℕ)
    → map number_of (map (fresh_eye opening) numbers) ≡ numbers
fresh-numbers opening [] = refl
fresh-numbers opening (n ∷ numbers) = ap (λ l. n ∷ l) (fresh-numbers opening numbers)

same-numbers : (olds news : List EyeSeen) → AllZip HasWorked olds news
    → map number_of news ≡ map number_of olds
same-numbers [] [] worked = refl
same-numbers [] (new ∷ news) worked = absurd worked
same-numbers (old ∷ olds) [] worked = absurd worked
same-numbers (old ∷ olds) (new ∷ news) worked =
    λ i. worked.0.later.number i ∷ same-numbers olds news worked.1 i

none-asked : (opening : Seen) (numbers : List ℕ) (news : List EyeSeen)
    → AllZip HasWorked (map (fresh_eye opening) numbers) news
    → AllByRecursion (λ eye. events_in eye.counts ≡ 0) news
none-asked opening [] [] worked = tt
none-asked opening [] (new ∷ news) worked = absurd worked
none-asked opening (n ∷ numbers) [] worked = absurd worked
none-asked opening (n ∷ numbers) (new ∷ news) worked = (
  none new.counts.edits new.counts.loads new.counts.asks worked.0.counts.edits
      worked.0.counts.loads worked.0.counts.asks,
  none-asked opening numbers news worked.1,
)
  where
    none : (edits loads asks : ℕ) → edits ≡ 0 → loads ≡ 0 → asks ≡ 0
        → edits + (loads + asks) ≡ 0
    none edits loads asks one two three = omega (arith, one, two, three)

-- what becomes of workers becomes of their eyes
pub zip-eyes : {S : Type 0} (eye_of : S → EyeSeen) (olds news : List S)
    → AllZip (λ old new. HasWorked (eye_of old) (eye_of new)) olds news
    → AllZip HasWorked (map eye_of olds) (map eye_of news)
zip-eyes eye_of [] [] worked = tt
zip-eyes eye_of [] (new ∷ news) worked = absurd worked
zip-eyes eye_of (old ∷ olds) [] worked = absurd worked
zip-eyes eye_of (old ∷ olds) (new ∷ news) worked =
    (worked.0, zip-eyes eye_of olds news worked.1)

-- the eyes of so many workers, and last the console's, whose number is behind theirs
pub record AreNumbered (workers : ℕ) (eyes : List EyeSeen) (eye : EyeSeen) : Type 0 where
  pub numbers : map (λ (eye : EyeSeen). eye.number) eyes ≡ range_with_len 0 (workers + 1)
  pub permuted : IsPermutation (range_with_len 0 (length eyes))
      (map (λ (eye : EyeSeen). eye.number) eyes)
  pub count : length eyes ≡ workers + 1
  pub among : Contains eyes eye
  pub alone : All (λ (other : EyeSeen). (other.number ≡ workers) ⊎ (events_in other.counts ≡ 0))
      eyes

pub numbered : (opening : Seen) (workers : ℕ) (others eyes : List EyeSeen) (eye : EyeSeen)
    → AllZip HasWorked (map (fresh_eye opening) (range_with_len 0 workers)) others
    → eyes ≡ others ++ eye ∷ [] → eye.number ≡ workers → AreNumbered workers eyes eye
numbered opening workers others eyes eye worked eyes_are number =
    let range = range_with_len 0 workers in
    let numbers : map number_of eyes ≡ range_with_len 0 (workers + 1) =
    ap (map number_of) eyes_are ∙ map_push number_of others eye
    ∙ ap (λ l. l ++ eye.number ∷ []) (same-numbers (map (fresh_eye opening) range) others worked)
    ∙ ap (λ n. map number_of (map (fresh_eye opening) range) ++ n ∷ []) number
    ∙ sym (map_push number_of (map (fresh_eye opening) range) (fresh_eye opening workers))
    ∙ ap (map number_of)
    (sym (map-range_with_len_more (fresh_eye opening) 0 workers workers (zero-add workers)))
    ∙ fresh-numbers opening (range_with_len 0 (workers + 1)) in
    let count : length eyes ≡ workers + 1 =
    sym (length-map eyes number_of) ∙ ap length numbers
    ∙ length-range_with_len 0 (workers + 1) in
    let each : All (λ (other : EyeSeen). (other.number ≡ workers) ⊎ (events_in other.counts ≡ 0))
    others =
    λ k d less. inr (All-from_recursion (λ (other : EyeSeen). events_in other.counts ≡ 0) others
    (none-asked opening range others worked) k d less) in
    let own : All (λ (other : EyeSeen). (other.number ≡ workers) ⊎ (events_in other.counts ≡ 0))
    (eye ∷ []) =
    All-from_recursion
    (λ (other : EyeSeen). (other.number ≡ workers) ⊎ (events_in other.counts ≡ 0)) (eye ∷ [])
    (inl number, tt) in record {
      numbers = numbers;
      permuted = subst
          (λ (l : List ℕ). IsPermutation (range_with_len 0 (length eyes)) l) (sym numbers)
          (subst (λ n. IsPermutation (range_with_len 0 (length eyes)) (range_with_len 0 n)) count
          (IsPermutation-refl (range_with_len 0 (length eyes))));
      count = count;
      among = subst (λ l. Contains l eye) (sym eyes_are) (Contains-push others eye);
      alone = subst
          (λ l. All (λ (other : EyeSeen).
          (other.number ≡ workers) ⊎ (events_in other.counts ≡ 0)) l)
          (sym eyes_are)
          (All-append
          (λ (other : EyeSeen). (other.number ≡ workers) ⊎ (events_in other.counts ≡ 0))
          others (eye ∷ []) each own);
    }
