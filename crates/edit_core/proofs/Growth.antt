-- What grows from one board of a history to a later one.
use Rattle.std.proofs.Common.{◌≡◌, ◌∙◌, ◌⊎◌, inl, inr, refl, sym, ap, subst, ℕ, ◌+◌, ◌<◌, ◌≤◌, true}
use Rattle.std.proofs.Common.{List, [], ◌∷◌, ◌++◌, Some, arith}
use Rattle.std.specs.List.{AllByRecursion, AllZip}
use Rattle.std.proofs.lemmas.Option.{same_Some}
use Rattle.mark_types.specs.lists.Laws.{each-middle}
use Rattle.paragraph_text.specs.Paragraphs.{Paragraph, AreValid, HaveOwnIds, IsValidIn}
use Rattle.paragraph_text.specs.Edits.{Applies, with_id, next_id_after}
use Rattle.paragraph_text.specs.declared.edits.Edit.{Edit}
use Rattle.paragraph_text.specs.declared.edits.Edit.TheVariants.{Insert, Remove, Replace}
use Rattle.edit_core.specs.Seen.{Seen, IsValidBoard}
use Rattle.edit_core.specs.Events.{SeenEvent, AnEdit, ALoad, AClaim, AFinish, APark, AnAsk}
use Rattle.edit_core.specs.Steps.{Makes, MayClaim, MayFinish, Moves, Step, is_open}
use Rattle.edit_core.specs.Runs.{AreQuiet, AreSteps, Entry, IsLive, IsQuiet, MayBecome, OnlyGrew}
use Rattle.edit_core.specs.Runs.{last_board}
use Rattle.edit_core.specs.declared.state.Standing.{Standing}
use Rattle.edit_core.specs.declared.state.Standing.TheVariants as standing
use Rattle.edit_core.proofs.Steps.{EditsKeepValidity, becomes-same, found-all, found-first}
use Rattle.edit_core.proofs.Steps.{found-has, found-in, found-later, quiet-after, valid-after}

-- ---- numbers
same-most : (n : ℕ) → n ≤ n
same-most n = omega arith

more-most : (n : ℕ) → n ≤ n + 1
more-most n = omega arith

not-more : {X : Type 0} (n : ℕ) → n ≡ n + 1 → X
not-more n is = absurd (omega (arith, is))

chain : (a b c : ℕ) → a ≤ b → b ≤ c → a ≤ c
chain a b c first second = omega (arith, first, second)

squeezed-low : (a b c : ℕ) → a ≤ b → b ≤ c → a ≡ c → a ≡ b
squeezed-low a b c first second is = omega (arith, first, second, is)

squeezed-high : (a b c : ℕ) → a ≤ b → b ≤ c → a ≡ c → b ≡ c
squeezed-high a b c first second is = omega (arith, first, second, is)

less-most : (a b : ℕ) → a < b → a ≤ b
less-most a b less = omega (arith, less)

less-apart : {X : Type 0} (a b : ℕ) → a < b → a ≡ b → X
less-apart a b less is = absurd (omega (arith, less, is))

equal-most : (a b : ℕ) → a ≡ b → a ≤ b
equal-most a b is = omega (arith, is)

-- ---- the paragraph with an id, behind an edit
-- it is the same one, or it was touched, and has a later rev
abbrev Newer : Paragraph → Paragraph → Type 0
Newer old new = (old ≡ new) ⊎ (old.rev < new.rev)

replaced : (id : ℕ) (front : List Paragraph) (touched made : Paragraph) (rest : List Paragraph)
    (old new : Paragraph) → touched.id ≡ made.id → with_id id (front ++ touched ∷ rest) ≡ Some old
    → with_id id (front ++ made ∷ rest) ≡ Some new → (old ≡ new) ⊎ ((touched ≡ old) × (made ≡ new))
replaced id [] touched made rest old new named was is =
    by (found-in id touched rest old was).is (found-in id made rest new is).is
  where
    by : ((touched.id ≡ id) × (touched ≡ old))
        ⊎ ((¬ (touched.id ≡ id)) × (with_id id rest ≡ Some old)) → ((made.id ≡ id) × (made ≡ new))
        ⊎ ((¬ (made.id ≡ id)) × (with_id id rest ≡ Some new)) → (old ≡ new)
        ⊎ ((touched ≡ old) × (made ≡ new))
    by (inl (here, first)) (inl (here', second)) = inr (first, second)
    by (inl (here, first)) (inr (there, second)) = absurd (there (sym named ∙ here))
    by (inr (there, first)) (inl (here, second)) = absurd (there (named ∙ here))
    by (inr (there, first)) (inr (there', second)) = inl (same_Some old new (sym first ∙ second))
replaced id (z ∷ front) touched made rest old new named was is =
    by (replaced id front touched made rest old new named)
    (found-in id z (front ++ touched ∷ rest) old was).is
    (found-in id z (front ++ made ∷ rest) new is).is
  where
    by : (with_id id (front ++ touched ∷ rest) ≡ Some old → with_id id (front ++ made ∷ rest)
        ≡ Some new → (old ≡ new) ⊎ ((touched ≡ old) × (made ≡ new))) → ((z.id ≡ id) × (z ≡ old))
        ⊎ ((¬ (z.id ≡ id)) × (with_id id (front ++ touched ∷ rest) ≡ Some old))
        → ((z.id ≡ id) × (z ≡ new))
        ⊎ ((¬ (z.id ≡ id)) × (with_id id (front ++ made ∷ rest) ≡ Some new)) → (old ≡ new)
        ⊎ ((touched ≡ old) × (made ≡ new))
    by more (inl (here, first)) (inl (here', second)) = inl (sym first ∙ second)
    by more (inl (here, first)) (inr (there, second)) = absurd (there here)
    by more (inr (there, first)) (inl (here, second)) = absurd (there here)
    by more (inr (there, first)) (inr (there', second)) = more first second

replaced-live : (id : ℕ) (front : List Paragraph) (touched made : Paragraph) (rest : List Paragraph)
    (new : Paragraph) → touched.id ≡ made.id → with_id id (front ++ made ∷ rest) ≡ Some new
    → IsLive id (front ++ touched ∷ rest)
replaced-live id [] touched made rest new named is = by (found-in id made rest new is).is
  where
    by : ((made.id ≡ id) × (made ≡ new)) ⊎ ((¬ (made.id ≡ id)) × (with_id id rest ≡ Some new))
        → IsLive id (touched ∷ rest)
    by (inl (here, first)) = (touched, found-first id touched rest (named ∙ here))
    by (inr (there, later)) =
        (new, found-later id touched rest new (λ same. there (sym named ∙ same)) later)
replaced-live id (z ∷ front) touched made rest new named is =
    by (replaced-live id front touched made rest new named)
    (found-in id z (front ++ made ∷ rest) new is).is
  where
    by : (with_id id (front ++ made ∷ rest) ≡ Some new → IsLive id (front ++ touched ∷ rest))
        → ((z.id ≡ id) × (z ≡ new))
        ⊎ ((¬ (z.id ≡ id)) × (with_id id (front ++ made ∷ rest) ≡ Some new))
        → IsLive id (z ∷ (front ++ touched ∷ rest))
    by more (inl (here, first)) = (z, found-first id z (front ++ touched ∷ rest) here)
    by more (inr (there, later)) =
        let live = more later in
        (live.0, found-later id z (front ++ touched ∷ rest) live.0 there live.1)

inserted : (id : ℕ) (front : List Paragraph) (made : Paragraph) (rest : List Paragraph)
    (new : Paragraph) → with_id id (front ++ made ∷ rest) ≡ Some new → (made.id ≡ id)
    ⊎ (with_id id (front ++ rest) ≡ Some new)
inserted id [] made rest new is = by (found-in id made rest new is).is
  where
    by : ((made.id ≡ id) × (made ≡ new)) ⊎ ((¬ (made.id ≡ id)) × (with_id id rest ≡ Some new))
        → (made.id ≡ id) ⊎ (with_id id rest ≡ Some new)
    by (inl (here, first)) = inl here
    by (inr (there, later)) = inr later
inserted id (z ∷ front) made rest new is =
    by (inserted id front made rest new) (found-in id z (front ++ made ∷ rest) new is).is
  where
    further : ¬ (z.id ≡ id) → (made.id ≡ id) ⊎ (with_id id (front ++ rest) ≡ Some new)
        → (made.id ≡ id) ⊎ (with_id id (z ∷ (front ++ rest)) ≡ Some new)
    further there (inl here) = inl here
    further there (inr later) = inr (found-later id z (front ++ rest) new there later)

    by : (with_id id (front ++ made ∷ rest) ≡ Some new → (made.id ≡ id)
        ⊎ (with_id id (front ++ rest) ≡ Some new)) → ((z.id ≡ id) × (z ≡ new))
        ⊎ ((¬ (z.id ≡ id)) × (with_id id (front ++ made ∷ rest) ≡ Some new)) → (made.id ≡ id)
        ⊎ (with_id id (z ∷ (front ++ rest)) ≡ Some new)
    by more (inl (here, first)) =
        inr (found-first id z (front ++ rest) here ∙ ap (λ p. Some p) first)
    by more (inr (there, later)) = further there (more later)

removed : (id : ℕ) (front : List Paragraph) (touched : Paragraph) (rest : List Paragraph)
    (new : Paragraph) → HaveOwnIds (front ++ touched ∷ rest) → with_id id (front ++ rest) ≡ Some new
    → with_id id (front ++ touched ∷ rest) ≡ Some new
removed id [] touched rest new own is =
    let other : ¬ (new.id ≡ touched.id) =
    found-all (λ p. ¬ (p.id ≡ touched.id)) id rest new own.0 is in
    found-later id touched rest new (λ same. other (found-has id rest new is ∙ sym same)) is
removed id (z ∷ front) touched rest new own is =
    by (removed id front touched rest new own.1) (found-in id z (front ++ rest) new is).is
  where
    by : (with_id id (front ++ rest) ≡ Some new → with_id id (front ++ touched ∷ rest) ≡ Some new)
        → ((z.id ≡ id) × (z ≡ new)) ⊎ ((¬ (z.id ≡ id)) × (with_id id (front ++ rest) ≡ Some new))
        → with_id id (z ∷ (front ++ touched ∷ rest)) ≡ Some new
    by more (inl (here, first)) =
        found-first id z (front ++ touched ∷ rest) here ∙ ap (λ p. Some p) first
    by more (inr (there, later)) = found-later id z (front ++ touched ∷ rest) new there (more later)

record ListGrew (next_id : ℕ) (before after : List Paragraph) : Type 0 where
  pub live : (id : ℕ) → IsLive id after → IsLive id before ⊎ (next_id ≤ id)
  pub newer : (id : ℕ) (old new : Paragraph) → with_id id before ≡ Some old
      → with_id id after ≡ Some new → Newer old new

list-replaced : (version next_id : ℕ) (front : List Paragraph) (touched made : Paragraph)
    (rest : List Paragraph) → touched.id ≡ made.id → touched.rev < version → made.rev ≡ version
    → ListGrew next_id (front ++ touched ∷ rest) (front ++ made ∷ rest)
list-replaced version next_id front touched made rest named older now =
    record {
      live = λ id live. inl (replaced-live id front touched made rest live.0 named live.1);
      newer = λ id old new was is.
          by id old new (replaced id front touched made rest old new named was is);
    }
  where
    later : (a b c : ℕ) → a < b → c ≡ b → a < c
    later a b c less is = omega (arith, less, is)

    by : (id : ℕ) (old new : Paragraph) → (old ≡ new) ⊎ ((touched ≡ old) × (made ≡ new))
        → Newer old new
    by id old new (inl same) = inl same
    by id old new (inr (first, second)) =
        inr (subst (λ (p : Paragraph). p.rev < new.rev) first
        (subst (λ (p : Paragraph). touched.rev < p.rev) second
        (later touched.rev version made.rev older now)))

list-inserted : (version next_id : ℕ) (front : List Paragraph) (made : Paragraph)
    (rest : List Paragraph) → made.id ≡ next_id
    → AllByRecursion (IsValidIn version next_id) (front ++ rest)
    → ListGrew next_id (front ++ rest) (front ++ made ∷ rest)
list-inserted version next_id front made rest named each =
    record {
      live = λ id live. alive id live.0 (inserted id front made rest live.0 live.1);
      newer = λ id old new was is. by id old new was (inserted id front made rest new is);
    }
  where
    alive : (id : ℕ) (new : Paragraph) → (made.id ≡ id) ⊎ (with_id id (front ++ rest) ≡ Some new)
        → IsLive id (front ++ rest) ⊎ (next_id ≤ id)
    alive id new (inl here) = inr (equal-most next_id id (sym named ∙ here))
    alive id new (inr there) = inl (new, there)

    by : (id : ℕ) (old new : Paragraph) → with_id id (front ++ rest) ≡ Some old → (made.id ≡ id)
        ⊎ (with_id id (front ++ rest) ≡ Some new) → Newer old new
    by id old new was (inl here) =
        less-apart old.id next_id
        (found-all (IsValidIn version next_id) id (front ++ rest) old each was).known
        (found-has id (front ++ rest) old was ∙ sym here ∙ named)
    by id old new was (inr there) = inl (same_Some old new (sym was ∙ there))

list-removed : (next_id : ℕ) (front : List Paragraph) (touched : Paragraph) (rest : List Paragraph)
    → HaveOwnIds (front ++ touched ∷ rest)
    → ListGrew next_id (front ++ touched ∷ rest) (front ++ rest)
list-removed next_id front touched rest own =
    record {
      live = λ id live. inl (live.0, removed id front touched rest live.0 own live.1);
      newer = λ id old new was is.
          inl (same_Some old new (sym was ∙ removed id front touched rest new own is));
    }

list-grew : (version next_id : ℕ) (before after : List Paragraph) (edit : Edit)
    → AreValid version next_id before → Applies version next_id before edit after
    → ListGrew next_id before after
list-grew version next_id before after (Replace id rev from to text) valid made =
    subst (λ ps. ListGrew next_id ps after) (sym made.before_is)
    (subst (ListGrew next_id (made.front ++ made.touched ∷ made.rest)) (sym made.after_is)
    (list-replaced version next_id made.front made.touched _ made.rest made.named
    (each-middle (IsValidIn version next_id) made.front made.touched made.rest
    (subst (AllByRecursion (IsValidIn version next_id)) made.before_is valid.each)).older refl))
list-grew version next_id before after (Insert gap text) valid made =
    subst (λ ps. ListGrew next_id ps after) (sym made.before_is)
    (subst (ListGrew next_id (made.front ++ made.rest)) (sym made.after_is)
    (list-inserted version next_id made.front _ made.rest refl
    (subst (AllByRecursion (IsValidIn version next_id)) made.before_is valid.each)))
list-grew version next_id before after (Remove id rev) valid made =
    subst (λ ps. ListGrew next_id ps after) (sym made.before_is)
    (subst (ListGrew next_id (made.front ++ made.touched ∷ made.rest)) (sym made.after_is)
    (list-removed next_id made.front made.touched made.rest
    (subst HaveOwnIds made.before_is valid.own_ids)))

-- ---- one step
same-revs : (paragraphs : List Paragraph) (id : ℕ) (old new : Paragraph)
    → with_id id paragraphs ≡ Some old → with_id id paragraphs ≡ Some new → (old.rev ≤ new.rev)
    × (old.rev ≡ new.rev → old.text ≡ new.text)
same-revs paragraphs id old new was is =
    let same : old ≡ new = same_Some old new (sym was ∙ is) in
    (equal-most old.rev new.rev (ap (λ p. p.rev) same), λ _. ap (λ p. p.text) same)

newer-revs : (old new : Paragraph) → Newer old new → (old.rev ≤ new.rev)
    × (old.rev ≡ new.rev → old.text ≡ new.text)
newer-revs old new (inl same) =
    (equal-most old.rev new.rev (ap (λ p. p.rev) same), λ _. ap (λ p. p.text) same)
newer-revs old new (inr less) =
    (less-most old.rev new.rev less, λ is. less-apart old.rev new.rev less is)

ids-grow : (next_id : ℕ) (edit : Edit) → next_id ≤ next_id_after next_id edit
ids-grow next_id (Replace id rev from to text) = same-most next_id
ids-grow next_id (Insert gap text) = more-most next_id
ids-grow next_id (Remove id rev) = same-most next_id

pub grew-after : (before after : Seen) (event : SeenEvent) → IsValidBoard before
    → Step before event after → OnlyGrew before after
grew-after before after event valid step = by event step.makes
  where
    moved : (id : ℕ) (may : Paragraph → Standing → Type 0) (becomes : Standing)
        → Moves before id may becomes after → OnlyGrew before after
    moved id may becomes made =
        subst (OnlyGrew before) (sym made.after_is) (
        record {
          point = more-most before.point;
          text = same-most before.text_version;
          dict = same-most before.dict_version;
          next_id = same-most before.next_id;
          live = λ id live. inl live;
          revs = same-revs before.paragraphs;
          texts = λ _. refl;
          lexicons = λ _. refl;
        }
        )

    by : (event : SeenEvent) → Makes before event after → OnlyGrew before after
    by (AnEdit session edit) made =
        let grew = list-grew (before.text_version + 1) before.next_id before.paragraphs
        made.paragraphs edit valid.paragraphs made.applied in
        subst (OnlyGrew before) (sym made.after_is) (
        record {
          point = more-most before.point;
          text = more-most before.text_version;
          dict = same-most before.dict_version;
          next_id = ids-grow before.next_id edit;
          live = grew.live;
          revs = λ id old new was is. newer-revs old new (grew.newer id old new was is);
          texts = λ is. not-more before.text_version is;
          lexicons = λ _. refl;
        }
        )
    by (ALoad lexicon) made =
        subst (OnlyGrew before) (sym made) (
        record {
          point = more-most before.point;
          text = same-most before.text_version;
          dict = more-most before.dict_version;
          next_id = same-most before.next_id;
          live = λ id live. inl live;
          revs = same-revs before.paragraphs;
          texts = λ _. refl;
          lexicons = λ is. not-more before.dict_version is;
        }
        )
    by (AClaim worker id rev) made = moved id (MayClaim rev) (standing.Held worker) made
    by (AFinish worker id rev dict text lexicon) made =
        moved id (MayFinish before rev dict text lexicon) standing.Finished made
    by (APark session id) made = moved id (λ _ stands. is_open stands ≡ true) standing.Parked made
    by (AnAsk session id) made =
        moved id (λ _ stands. stands ≡ standing.Parked) standing.Waiting made

-- ---- more steps
pub grew-not : (board : Seen) → OnlyGrew board board
grew-not board =
    record {
      point = same-most board.point;
      text = same-most board.text_version;
      dict = same-most board.dict_version;
      next_id = same-most board.next_id;
      live = λ id live. inl live;
      revs = same-revs board.paragraphs;
      texts = λ _. refl;
      lexicons = λ _. refl;
    }

pub grew-on : (a b c : Seen) → IsValidBoard a → OnlyGrew a b → OnlyGrew b c → OnlyGrew a c
grew-on a b c valid first second =
    record {
      point = chain a.point b.point c.point first.point second.point;
      text = chain a.text_version b.text_version c.text_version first.text second.text;
      dict = chain a.dict_version b.dict_version c.dict_version first.dict second.dict;
      next_id = chain a.next_id b.next_id c.next_id first.next_id second.next_id;
      live = λ id live. alive id (second.live id live);
      revs = λ id old new was is. revs id old new was is (second.live id (new, is));
      texts = λ is.
          first.texts
          (squeezed-low a.text_version b.text_version c.text_version first.text second.text is)
          ∙ second.texts
          (squeezed-high a.text_version b.text_version c.text_version first.text second.text is);
      lexicons = λ is.
          first.lexicons
          (squeezed-low a.dict_version b.dict_version c.dict_version first.dict second.dict is)
          ∙ second.lexicons
          (squeezed-high a.dict_version b.dict_version c.dict_version first.dict second.dict is);
    }
  where
    alive : (id : ℕ) → IsLive id b.paragraphs ⊎ (b.next_id ≤ id) → IsLive id a.paragraphs
        ⊎ (a.next_id ≤ id)
    alive id (inl live) = first.live id live
    alive id (inr new) = inr (chain a.next_id b.next_id id first.next_id new)

    not-new : {X : Type 0} (n low high id : ℕ) → n < low → low ≤ high → high ≤ id → n ≡ id → X
    not-new n low high id less up new is = absurd (omega (arith, less, up, new, is))

    revs : (id : ℕ) (old new : Paragraph) → with_id id a.paragraphs ≡ Some old
        → with_id id c.paragraphs ≡ Some new → IsLive id b.paragraphs ⊎ (b.next_id ≤ id)
        → (old.rev ≤ new.rev) × (old.rev ≡ new.rev → old.text ≡ new.text)
    revs id old new was is (inl (middle, there)) =
        let low = first.revs id old middle was there in
        let high = second.revs id middle new there is in (
          chain old.rev middle.rev new.rev low.0 high.0,
          λ same. low.1 (squeezed-low old.rev middle.rev new.rev low.0 high.0 same)
              ∙ high.1 (squeezed-high old.rev middle.rev new.rev low.0 high.0 same),
        )
    revs id old new was is (inr later) =
        not-new old.id a.next_id b.next_id id
        (found-all (IsValidIn (a.text_version + 1) a.next_id) id a.paragraphs old
        valid.paragraphs.each was).known first.next_id later (found-has id a.paragraphs old was)

pub grew-run : EditsKeepValidity → (board : Seen) (entries : List Entry) → IsValidBoard board
    → AreSteps board entries → OnlyGrew board (last_board board entries)
grew-run law board [] valid steps = grew-not board
grew-run law board (entry ∷ entries) valid steps =
    grew-on board entry.board (last_board entry.board entries) valid
    (grew-after board entry.board entry.event valid steps.0)
    (grew-run law entry.board entries (valid-after law board entry.board entry.event valid steps.0)
    steps.1)

pub grew-between : EditsKeepValidity → (board : Seen) (front back : List Entry) → IsValidBoard board
    → AreSteps board (front ++ back)
    → OnlyGrew (last_board board front) (last_board board (front ++ back))
grew-between law board [] back valid steps = grew-run law board back valid steps
grew-between law board (entry ∷ front) back valid steps =
    grew-between law entry.board front back
    (valid-after law board entry.board entry.event valid steps.0) steps.1

-- ---- events of workers
becomes-on : (a b c : List Standing) → AllZip MayBecome a b → AllZip MayBecome b c
    → AllZip MayBecome a c
becomes-on [] [] [] first second = tt
becomes-on [] [] (z ∷ c) first second = absurd second
becomes-on [] (y ∷ b) c first second = absurd first
becomes-on (x ∷ a) [] c first second = absurd first
becomes-on (x ∷ a) (y ∷ b) [] first second = absurd second
becomes-on (x ∷ a) (y ∷ b) (z ∷ c) first second = (
  record {
    parked = second.0.parked ∙ first.0.parked;
    finished = λ is. second.0.finished (first.0.finished is);
  },
  becomes-on a b c first.1 second.1,
)

pub quiet-run : (board : Seen) (entries : List Entry) → AreSteps board entries → AreQuiet entries
    → IsQuiet board (last_board board entries)
quiet-run board [] steps quiet =
    record {
      text = refl;
      dict = refl;
      lexicon = refl;
      next_id = refl;
      paragraphs = refl;
      standings = becomes-same board.standings;
    }
quiet-run board (entry ∷ entries) steps quiet =
    let first = quiet-after board entry.board entry.event steps.0 quiet.0 in
    let later = quiet-run entry.board entries steps.1 quiet.1 in
    record {
      text = later.text ∙ first.text;
      dict = later.dict ∙ first.dict;
      lexicon = later.lexicon ∙ first.lexicon;
      next_id = later.next_id ∙ first.next_id;
      paragraphs = later.paragraphs ∙ first.paragraphs;
      standings =
          becomes-on board.standings entry.board.standings
          (last_board entry.board entries).standings first.standings later.standings;
    }
