-- A board and an event make one board, or have one refusal.
use Rattle.std.proofs.Common.{◌≡◌, ◌∙◌, ◌⊎◌, inl, inr, refl, sym, ap, subst, ℕ, ◌+◌, ◌<◌, ◌^◌, ◌==◌}
use Rattle.std.proofs.Common.{Bool, true, false, List, length, map, set, slice_get, nat_lt, Option}
use Rattle.std.proofs.Common.{None, Some, ltb, arith}
use Rattle.std.specs.Option.{option_map, option_map_or, option_or}
use Rattle.std.proofs.lemmas.Bool.{eqb-true, eq-eqb, false≢true}
use Rattle.std.proofs.lemmas.Bool.Decides.{nat_tests}
use Rattle.mark_types.specs.spell_types.declared.Lexicon.{Lexicon}
use Rattle.paragraph_text.specs.Paragraphs.{Paragraph, AreValid}
use Rattle.paragraph_text.specs.Edits.{IsOnlyOne, next_id_after, edit_refusal}
use Rattle.paragraph_text.specs.Edits.{IsEditDecided}
use Rattle.paragraph_text.specs.declared.edits.Edit.{Edit}
use Rattle.paragraph_text.specs.declared.edits.EditRefusal.{EditRefusal}
use Rattle.edit_core.specs.Seen.{Seen, IsValidBoard}
use Rattle.edit_core.specs.Events.{SeenEvent, AnEdit, ALoad, AClaim, AFinish, APark, AnAsk}
use Rattle.edit_core.specs.Steps.{Edits, IsAt, IsDecided, IsFit, IsFitCheck, Makes, MayClaim}
use Rattle.edit_core.specs.Steps.{MayFinish, Moves, refused_behind, claim_refusal, event_refusal}
use Rattle.edit_core.specs.Steps.{finish_refusal, first_refusal, gone_or, is_open, kept_after}
use Rattle.edit_core.specs.Steps.{not_parked, not_waiting, outdated, place_of, refusal_of, reloaded}
use Rattle.edit_core.specs.Steps.{settled, unless}
use Rattle.edit_core.specs.declared.refusal.Refusal.{Refusal}
use Rattle.edit_core.specs.declared.refusal.Refusal.TheVariants.{Spent, Gone, Behind, Taken}
use Rattle.edit_core.specs.declared.refusal.Refusal.TheVariants.{Reloaded, Finished, Parked}
use Rattle.edit_core.specs.declared.refusal.Refusal.TheVariants.{NotParked}
use Rattle.edit_core.specs.declared.state.Standing.{Standing}
use Rattle.edit_core.specs.declared.state.Standing.TheVariants as standing
use Rattle.edit_core.proofs.Found.{found-none, found-some, some-at}

-- the law of edits
abbrev pub EditsAreDecided : Type 0
EditsAreDecided = (version next_id : ℕ) (paragraphs : List Paragraph) (edit : Edit)
    → AreValid version next_id paragraphs → IsEditDecided version next_id paragraphs edit

apart : {X Y : Type 0} (x : X) → None ≡ Some x → Y
apart x is = cc

same-some : {X : Type 0} (x y : X) → Some x ≡ Some y → x ≡ y
same-some x y is = cc

-- ---- a question has no refusal, and something may be, or it has one, and it may not be
abbrev Asks : Option Refusal → Type 0 → Type 0
Asks told Allowed =
    ((told ≡ None) × Allowed) ⊎ ((refusal : Refusal) × (told ≡ Some refusal) × (¬ Allowed))

both : (one two : Option Refusal) (P Q : Type 0) → Asks one P → Asks two Q
    → Asks (option_or one two) (P × Q)
both one two P Q (inr (refusal, is, not-p)) second =
    inr (refusal, ap (λ o. option_or o two) is, λ pq. not-p pq.0)
both one two P Q (inl (is, p)) (inr (refusal, is', not-q)) =
    inr (refusal, ap (λ o. option_or o two) is ∙ is', λ pq. not-q pq.1)
both one two P Q (inl (is, p)) (inl (is', q)) = inl (ap (λ o. option_or o two) is ∙ is', (p, q))

same-ask : (told : Option Refusal) (P Q : Type 0) → (P → Q) → (Q → P) → Asks told P → Asks told Q
same-ask told P Q there back (inl (is, p)) = inl (is, there p)
same-ask told P Q there back (inr (refusal, is, not-p)) = inr (refusal, is, λ q. not-p (back q))

equal : (a b : ℕ) (refusal : Refusal) → Asks (unless (a == b) refusal) (a ≡ b)
equal a b refusal = by (a == b) refl
  where
    by : (t : Bool) → (a == b) ≡ t → Asks (unless (a == b) refusal) (a ≡ b)
    by true is = inl (ap (λ t. unless t refusal) is, eqb-true a b is)
    by false is =
        inr (refusal, ap (λ t. unless t refusal) is, λ same. false≢true (sym is ∙ eq-eqb a b same))

waits : (rev : ℕ) (stands : Standing) → Asks (not_waiting rev stands) (stands ≡ standing.Waiting)
waits rev standing.Waiting = inl (refl, refl)
waits rev (standing.Held worker) = inr (Taken worker, refl, λ is. cc)
waits rev standing.Parked = inr (Parked rev, refl, λ is. cc)
waits rev standing.Finished = inr (Finished rev, refl, λ is. cc)

opens : (rev : ℕ) (stands : Standing) → Asks (settled rev stands) (is_open stands ≡ true)
opens rev standing.Waiting = inl (refl, refl)
opens rev (standing.Held worker) = inl (refl, refl)
opens rev standing.Parked = inr (Parked rev, refl, λ is. false≢true is)
opens rev standing.Finished = inr (Finished rev, refl, λ is. false≢true is)

parks : (rev : ℕ) (stands : Standing) → Asks (not_parked rev stands) (stands ≡ standing.Parked)
parks rev standing.Waiting = inr (NotParked rev, refl, λ is. cc)
parks rev (standing.Held worker) = inr (NotParked rev, refl, λ is. cc)
parks rev standing.Parked = inl (refl, refl)
parks rev standing.Finished = inr (NotParked rev, refl, λ is. cc)

-- ---- an event makes one board and has no refusal, or it has one and makes none
abbrev Settles : (Seen → Type 0) → Option Refusal → Type 0
Settles Made told =
    (IsOnlyOne Made × (told ≡ None))
    ⊎ ((refusal : Refusal) × (told ≡ Some refusal) × ((after : Seen) → ¬ Made after))

abbrev moved : Seen → Standing → ℕ → Seen
moved board becomes place =
    record board { point = board.point + 1; standings = set board.standings place becomes }

moves : (board : Seen) (id : ℕ) (may : Paragraph → Standing → Type 0) (becomes : Standing)
    (asked : Paragraph → Standing → Option Refusal)
    → length board.standings ≡ length board.paragraphs
    → ((place : ℕ) (paragraph : Paragraph) (stands : Standing)
    → IsAt board id place paragraph stands → Asks (asked paragraph stands) (may paragraph stands))
    → Settles (Moves board id may becomes) (gone_or id board asked)
moves board id may becomes asked long asks = by (place_of id board.paragraphs) refl
  where
    at : (place : ℕ) (paragraph : Paragraph) (stands : Standing)
        → IsAt board id place paragraph stands → gone_or id board asked ≡ asked paragraph stands
        → Asks (asked paragraph stands) (may paragraph stands)
        → Settles (Moves board id may becomes) (gone_or id board asked)
    at place paragraph stands here told (inl (none, allowed)) =
        inl (
          record {
            one = moved board becomes place;
            holds = record {
              place = place;
              paragraph = paragraph;
              stands = stands;
              here = here;
              allowed = allowed;
              after_is = refl;
            };
            only = λ other made. made.after_is
                ∙ ap (moved board becomes)
                (same-some made.place place (sym made.here.place_is ∙ here.place_is));
          },
          told ∙ none,
        )
    at place paragraph stands here told (inr (refusal, is, not-allowed)) =
        inr (
          refusal,
          told ∙ is,
          λ after made.
              let place-is : made.place ≡ place =
              same-some made.place place (sym made.here.place_is ∙ here.place_is) in
              let paragraph-is : made.paragraph ≡ paragraph =
              same-some made.paragraph paragraph
              (sym made.here.paragraph_is ∙ ap (slice_get board.paragraphs) place-is
              ∙ here.paragraph_is) in
              let stands-is : made.stands ≡ stands =
              same-some made.stands stands
              (sym made.here.standing_is ∙ ap (slice_get board.standings) place-is
              ∙ here.standing_is) in
              not-allowed
              (subst (λ s. may paragraph s) stands-is
              (subst (λ p. may p made.stands) paragraph-is made.allowed)),
        )

    by : (found : Option ℕ) → place_of id board.paragraphs ≡ found
        → Settles (Moves board id may becomes) (gone_or id board asked)
    by None is =
        inr (
          Gone id,
          ap (λ o. option_map_or (λ row. asked row.0 row.1) o (Some (Gone id)))
              (found-none board id is),
          λ after made. apart made.place (sym is ∙ made.here.place_is),
        )
    by (Some place) is =
        let there = some-at board id place long is in
        at place there.0 there.1 there.2
        (ap (λ o. option_map_or (λ row. asked row.0 row.1) o (Some (Gone id)))
        (found-some board id place there.0 there.1 there.2))
        (asks place there.0 there.1 there.2)

abbrev edited : Seen → Edit → List Paragraph → Seen
edited board edit paragraphs = record board {
  point = board.point + 1;
  text_version = board.text_version + 1;
  paragraphs = paragraphs;
  standings = kept_after standing.Waiting board.paragraphs board.standings edit;
  next_id = next_id_after board.next_id edit;
}

edits : (board : Seen) (edit : Edit)
    → IsEditDecided (board.text_version + 1) board.next_id board.paragraphs edit
    → Settles (Edits board edit) (option_map refusal_of (edit_refusal board.paragraphs edit))
edits board edit (inl (applies, free)) =
    inl (only-one, by (edit_refusal board.paragraphs edit) refl)
  where
    only-one : IsOnlyOne (Edits board edit)
    only-one = record {
      one = edited board edit applies.one;
      holds = record { paragraphs = applies.one; applied = applies.holds; after_is = refl };
      only = λ other made. made.after_is
          ∙ ap (edited board edit) (applies.only made.paragraphs made.applied);
    }

    by : (first : Option EditRefusal) → edit_refusal board.paragraphs edit ≡ first
        → option_map refusal_of (edit_refusal board.paragraphs edit) ≡ None
    by None is = ap (option_map refusal_of) is
    by (Some refusal) is = absurd (free refusal is)
edits board edit (inr (refused, none)) =
    inr (
      refusal_of refused.one,
      ap (option_map refusal_of) refused.holds,
      λ after made.
          none made.paragraphs made.applied,
    )

may-finish : (board : Seen) (id rev dict : ℕ) (text : List ℕ) (lexicon : Lexicon)
    → IsFitCheck board id rev dict text lexicon
    → (place : ℕ) (paragraph : Paragraph) (stands : Standing) → IsAt board id place paragraph stands
    → Asks (finish_refusal board rev dict paragraph stands)
    (MayFinish board rev dict text lexicon paragraph stands)
may-finish board id rev dict text lexicon fit place paragraph stands here =
    same-ask (finish_refusal board rev dict paragraph stands) _
    (MayFinish board rev dict text lexicon paragraph stands)
    (λ p. let it = fit place paragraph stands here p.0 p.1.0 in
    record { current = p.0; in_force = p.1.0; free = p.1.1; text_is = it.0; lexicon_is = it.1 })
    (λ may. (may.current, (may.in_force, may.free)))
    (both (refused_behind rev paragraph) (option_or (outdated board dict) (settled paragraph.rev stands))
    (paragraph.rev ≡ rev) ((board.dict_version ≡ dict) × (is_open stands ≡ true))
    (equal paragraph.rev rev (Behind paragraph.rev))
    (both (outdated board dict) (settled paragraph.rev stands) (board.dict_version ≡ dict)
    (is_open stands ≡ true) (equal board.dict_version dict (Reloaded board.dict_version))
    (opens paragraph.rev stands)))

settles : EditsAreDecided → (board : Seen) (event : SeenEvent) → IsValidBoard board
    → IsFit board event → Settles (Makes board event) (event_refusal board event)
settles law board (AnEdit session edit) valid fit =
    edits board edit
    (law (board.text_version + 1) board.next_id board.paragraphs edit valid.paragraphs)
settles law board (ALoad lexicon) valid fit =
    inl (
      record {
        one = record board {
          point = board.point + 1;
          dict_version = board.dict_version + 1;
          lexicon = lexicon;
          standings = map reloaded board.standings;
        };
        holds = refl;
        only = λ other is. is;
      },
      refl,
    )
settles law board (AClaim worker id rev) valid fit =
    moves board id (MayClaim rev) (standing.Held worker) (claim_refusal rev) valid.standings
    (λ place paragraph stands here. both (refused_behind rev paragraph) (not_waiting paragraph.rev stands)
    (paragraph.rev ≡ rev) (stands ≡ standing.Waiting)
    (equal paragraph.rev rev (Behind paragraph.rev)) (waits paragraph.rev stands))
settles law board (AFinish worker id rev dict text lexicon) valid fit =
    moves board id (MayFinish board rev dict text lexicon) standing.Finished
    (finish_refusal board rev dict) valid.standings
    (may-finish board id rev dict text lexicon fit)
settles law board (APark session id) valid fit =
    moves board id (λ _ stands. is_open stands ≡ true) standing.Parked
    (λ paragraph stands. settled paragraph.rev stands) valid.standings
    (λ place paragraph stands here. opens paragraph.rev stands)
settles law board (AnAsk session id) valid fit =
    moves board id (λ _ stands. stands ≡ standing.Parked) standing.Waiting
    (λ paragraph stands. not_parked paragraph.rev stands) valid.standings
    (λ place paragraph stands here. parks paragraph.rev stands)

-- ---- and so it is where the history goes on, and where it does not
below : (a b : ℕ) → ltb a b ≡ true → a < b
below a b is = grind (arith, nat_tests)

not-below : (a b : ℕ) → ltb a b ≡ false → ¬ (a < b)
not-below a b is less = absurd (false≢true (sym is ∙ yes a b less))
  where
    yes : (a b : ℕ) → a < b → ltb a b ≡ true
    yes a b less = grind (arith, nat_tests)

pub decided : EditsAreDecided → (board : Seen) (event : SeenEvent) → IsValidBoard board
    → IsFit board event → IsDecided board event
decided law board event valid fit =
    by (nat_lt board.point (2 ^ 62)) refl (settles law board event valid fit)
  where
    by : (t : Bool) → nat_lt board.point (2 ^ 62) ≡ t
        → Settles (Makes board event) (event_refusal board event) → IsDecided board event
    by false is settled =
        let last : first_refusal board event ≡ Some (Spent board.point) =
        ap (λ t. option_or (unless t (Spent board.point)) (event_refusal board event)) is in
        inr (
          record {
            one = Spent board.point;
            holds = last;
            only = λ other told. same-some other (Spent board.point) (sym told ∙ last);
          },
          λ after step. not-below board.point (2 ^ 62) is step.goes_on,
        )
    by true is (inl (made, none)) =
        let first : first_refusal board event ≡ None =
        ap (λ t. option_or (unless t (Spent board.point)) (event_refusal board event)) is
        ∙ none in
        inl (
          record {
            one = made.one;
            holds = record { goes_on = below board.point (2 ^ 62) is; makes = made.holds };
            only = λ other step. made.only other step.makes;
          },
          λ refusal told. apart refusal (sym first ∙ told),
        )
    by true is (inr (refusal, told, none)) =
        let first : first_refusal board event ≡ Some refusal =
        ap (λ t. option_or (unless t (Spent board.point)) (event_refusal board event)) is
        ∙ told in
        inr (
          record {
            one = refusal;
            holds = first;
            only = λ other told'. same-some other refusal (sym told' ∙ first);
          },
          λ after step. none after step.makes,
        )
