-- What each step keeps, and what it lets grow.
use Rattle.std.proofs.Common.{◌≡◌, ◌∙◌, ◌⊎◌, inl, inr, refl, sym, ap, subst, ℕ, zero, suc, ◌+◌}
use Rattle.std.proofs.Common.{◌==◌, Bool, true, false, cond, List, [], ◌∷◌, length, map, set}
use Rattle.std.proofs.Common.{slice_get, Some, length-set}
use Rattle.std.specs.List.{AllByRecursion, AllZip}
use Rattle.std.proofs.lemmas.Bool.{eqb-true, eq-eqb, ne_eqb, false≢true}
use Rattle.std.proofs.lemmas.Option.{none-some, same_Some}
use Rattle.paragraph_text.specs.Paragraphs.{Paragraph, AreValid}
use Rattle.paragraph_text.specs.Edits.{Applies, with_id, next_id_after}
use Rattle.paragraph_text.specs.Laws.{changes}
use Rattle.paragraph_text.specs.declared.edits.Edit.{Edit}
use Rattle.edit_core.specs.Seen.{Seen, IsValidBoard}
use Rattle.edit_core.specs.Events.{SeenEvent, AnEdit, ALoad, AClaim, AFinish, APark, AnAsk}
use Rattle.edit_core.specs.Steps.{Makes, MayClaim, MayFinish, Moves, Step, is_open, kept_after}
use Rattle.edit_core.specs.Steps.{reloaded}
use Rattle.edit_core.specs.Runs.{IsQuiet, MayBecome, is_quiet}
use Rattle.edit_core.specs.declared.state.Standing.{Standing}
use Rattle.edit_core.specs.declared.state.Standing.TheVariants as standing
use Rattle.edit_core.proofs.Boards.{valid-moved, valid-loaded, valid-edited}
use Rattle.edit_core.proofs.Kept.{map-long}
use Rattle.edit_core.proofs.Places.{edit-zip, length-of-zip, zip-of-length}

-- the law of edits
abbrev pub EditsKeepValidity : Type 0
EditsKeepValidity = (version next_id : ℕ) (paragraphs after : List Paragraph) (edit : Edit)
    → AreValid version next_id paragraphs → Applies version next_id paragraphs edit after
    → AreValid (version + 1) (next_id_after next_id edit) after

-- ---- a valid board comes behind a valid board
pub valid-after : EditsKeepValidity → (before after : Seen) (event : SeenEvent)
    → IsValidBoard before → Step before event after → IsValidBoard after
valid-after law before after event valid step = by event step.makes
  where
    moved : (id : ℕ) (may : Paragraph → Standing → Type 0) (becomes : Standing)
        → Moves before id may becomes after → IsValidBoard after
    moved id may becomes made =
        subst IsValidBoard (sym made.after_is)
        (valid-moved before (set before.standings made.place becomes) valid step.goes_on
        (length-set before.standings made.place becomes ∙ valid.standings))

    by : (event : SeenEvent) → Makes before event after → IsValidBoard after
    by (AnEdit session edit) made =
        let long : length (kept_after standing.Waiting before.paragraphs before.standings edit)
        ≡ length made.paragraphs =
        length-of-zip (λ _ _. Unit {0}) made.paragraphs
        (kept_after standing.Waiting before.paragraphs before.standings edit)
        (edit-zip (λ _ _. Unit {0}) standing.Waiting before.standings (λ _. tt)
        (changes (before.text_version + 1) before.next_id before.paragraphs made.paragraphs edit
        valid.paragraphs.own_ids made.applied)
        (zip-of-length before.paragraphs before.standings valid.standings)) in
        subst IsValidBoard (sym made.after_is)
        (valid-edited before edit made.paragraphs _ valid step.goes_on
        (law (before.text_version + 1) before.next_id before.paragraphs made.paragraphs edit
        valid.paragraphs made.applied) long)
    by (ALoad lexicon) made =
        subst IsValidBoard (sym made)
        (valid-loaded before lexicon (map reloaded before.standings) valid step.goes_on
        (map-long reloaded before.standings ∙ valid.standings))
    by (AClaim worker id rev) made = moved id (MayClaim rev) (standing.Held worker) made
    by (AFinish worker id rev dict text lexicon) made =
        moved id (MayFinish before rev dict text lexicon) standing.Finished made
    by (APark session id) made = moved id (λ _ stands. is_open stands ≡ true) standing.Parked made
    by (AnAsk session id) made =
        moved id (λ _ stands. stands ≡ standing.Parked) standing.Waiting made

pub point-after : (before after : Seen) (event : SeenEvent) → Step before event after
    → after.point ≡ before.point + 1
point-after before after event step = by event step.makes
  where
    by : (event : SeenEvent) → Makes before event after → after.point ≡ before.point + 1
    by (AnEdit session edit) made = ap (λ b. b.point) made.after_is
    by (ALoad lexicon) made = ap (λ b. b.point) made
    by (AClaim worker id rev) made = ap (λ b. b.point) made.after_is
    by (AFinish worker id rev dict text lexicon) made = ap (λ b. b.point) made.after_is
    by (APark session id) made = ap (λ b. b.point) made.after_is
    by (AnAsk session id) made = ap (λ b. b.point) made.after_is

-- ---- events of workers
pub becomes-same : (standings : List Standing) → AllZip MayBecome standings standings
becomes-same [] = tt
becomes-same (s ∷ standings) =
    (record { parked = refl; finished = λ is. is }, becomes-same standings)

becomes-set : (standings : List Standing) (place : ℕ) (stands becomes : Standing)
    → slice_get standings place ≡ Some stands → MayBecome stands becomes
    → AllZip MayBecome standings (set standings place becomes)
becomes-set [] place stands becomes at may = tt
becomes-set (s ∷ standings) zero stands becomes at may =
    let same : s ≡ stands = cc in
    (subst (λ t. MayBecome t becomes) (sym same) may, becomes-same standings)
becomes-set (s ∷ standings) (suc place) stands becomes at may = (
  record { parked = refl; finished = λ is. is },
  becomes-set standings place stands becomes at
      may,
)

claimed : (stands : Standing) (worker : ℕ) → stands ≡ standing.Waiting
    → MayBecome stands (standing.Held worker)
claimed stands worker is =
    subst (λ s. MayBecome s (standing.Held worker)) (sym is)
    (record { parked = refl; finished = λ finished. finished })

finished : (stands : Standing) → is_open stands ≡ true → MayBecome stands standing.Finished
finished standing.Waiting free = record { parked = refl; finished = λ _. refl }
finished (standing.Held worker) free = record { parked = refl; finished = λ _. refl }
finished standing.Parked free = absurd (false≢true free)
finished standing.Finished free = absurd (false≢true free)

pub quiet-after : (before after : Seen) (event : SeenEvent) → Step before event after
    → is_quiet event ≡ true → IsQuiet before after
quiet-after before after event step quiet = by event step.makes quiet
  where
    moved : (id : ℕ) (may : Paragraph → Standing → Type 0) (becomes : Standing)
        → (made : Moves before id may becomes after) → MayBecome made.stands becomes
        → IsQuiet before after
    moved id may becomes made may-become =
        subst (IsQuiet before) (sym made.after_is) (
        record {
          text = refl;
          dict = refl;
          lexicon = refl;
          next_id = refl;
          paragraphs = refl;
          standings = becomes-set before.standings made.place made.stands becomes
              made.here.standing_is may-become;
        }
        )

    by : (event : SeenEvent) → Makes before event after → is_quiet event ≡ true
        → IsQuiet before after
    by (AnEdit session edit) made quiet = absurd (false≢true quiet)
    by (ALoad lexicon) made quiet = absurd (false≢true quiet)
    by (AClaim worker id rev) made quiet =
        moved id (MayClaim rev) (standing.Held worker) made
        (claimed made.stands worker made.allowed.1)
    by (AFinish worker id rev dict text lexicon) made quiet =
        moved id (MayFinish before rev dict text lexicon) standing.Finished made
        (finished made.stands made.allowed.free)
    by (APark session id) made quiet = absurd (false≢true quiet)
    by (AnAsk session id) made quiet = absurd (false≢true quiet)

-- ---- what an edit does to the paragraph with an id
-- the first of a list with an id, or none
pub record Found (id : ℕ) (first : Paragraph) (others : List Paragraph) (found : Paragraph) : Type
    0 where
  pub is : ((first.id ≡ id) × (first ≡ found))
      ⊎ ((¬ (first.id ≡ id)) × (with_id id others ≡ Some found))

pub found-in : (id : ℕ) (first : Paragraph) (others : List Paragraph) (found : Paragraph)
    → with_id id (first ∷ others) ≡ Some found → Found id first others found
found-in id first others found is = by (first.id == id) refl
  where
    by : (b : Bool) → (first.id == id) ≡ b → Found id first others found
    by true equal =
        record {
          is =
              inl (
                eqb-true first.id id equal,
                same_Some first found (sym (ap (λ b. cond b (Some first) (with_id id others)) equal)
                    ∙ is),
              );
        }
    by false other =
        record {
          is =
              inr (
                λ same. false≢true (sym other ∙ eq-eqb first.id id same),
                sym (ap (λ b. cond b (Some first) (with_id id others)) other) ∙ is,
              );
        }

pub found-first : (id : ℕ) (first : Paragraph) (others : List Paragraph) → first.id ≡ id
    → with_id id (first ∷ others) ≡ Some first
found-first id first others same =
    ap (λ b. cond b (Some first) (with_id id others)) (eq-eqb first.id id same)

pub found-later : (id : ℕ) (first : Paragraph) (others : List Paragraph) (found : Paragraph)
    → ¬ (first.id ≡ id) → with_id id others ≡ Some found → with_id id (first ∷ others) ≡ Some found
found-later id first others found other is =
    ap (λ b. cond b (Some first) (with_id id others)) (ne_eqb first.id id other) ∙ is

-- what is found has the id
pub found-has : (id : ℕ) (paragraphs : List Paragraph) (found : Paragraph)
    → with_id id paragraphs ≡ Some found → found.id ≡ id
found-has id [] found is = absurd (none-some found is)
found-has id (first ∷ others) found is =
    by (found-has id others found) (found-in id first others found is).is
  where
    by : (with_id id others ≡ Some found → found.id ≡ id) → ((first.id ≡ id) × (first ≡ found))
        ⊎ ((¬ (first.id ≡ id)) × (with_id id others ≡ Some found)) → found.id ≡ id
    by more (inl (same, is)) = ap (λ p. p.id) (sym is) ∙ same
    by more (inr (other, is)) = more is

-- what holds of all holds of what is found
pub found-all : (P : Paragraph → Type 0) (id : ℕ) (paragraphs : List Paragraph) (found : Paragraph)
    → AllByRecursion P paragraphs → with_id id paragraphs ≡ Some found → P found
found-all P id [] found all is = absurd (none-some found is)
found-all P id (first ∷ others) found all is =
    by (found-all P id others found all.1) (found-in id first others found is).is
  where
    by : (with_id id others ≡ Some found → P found) → ((first.id ≡ id) × (first ≡ found))
        ⊎ ((¬ (first.id ≡ id)) × (with_id id others ≡ Some found)) → P found
    by more (inl (same, is)) = subst P is all.0
    by more (inr (other, is)) = more is
