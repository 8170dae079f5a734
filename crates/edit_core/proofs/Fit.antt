-- Which checks are fit for a board.
use Rattle.std.proofs.Common.{◌≡◌, ◌∙◌, inl, inr, refl, sym, ap, subst, ℕ, List, [], ◌∷◌, slice_get}
use Rattle.std.proofs.Common.{Some}
use Rattle.std.specs.List.{AllByRecursion}
use Rattle.std.proofs.lemmas.Option.{same_Some}
use Rattle.paragraph_text.specs.Paragraphs.{Paragraph}
use Rattle.paragraph_text.specs.Edits.{with_id}
use Rattle.paragraph_text.specs.Laws.{found-at, own-placed}
use Rattle.edit_core.specs.Events.{SeenEvent, AnEdit, ALoad, AClaim, AFinish, APark, AnAsk}
use Rattle.edit_core.specs.Runs.{AreFit, IsAnswered, IsOfBoard, OnlyGrew}
use Rattle.edit_core.specs.Seen.{Seen, IsValidBoard}
use Rattle.edit_core.specs.Steps.{IsAt, IsFit, IsFitCheck, Makes, place_of}
use Rattle.edit_core.specs.declared.state.Standing.{Standing}
use Rattle.edit_core.proofs.Growth.{grew-after, grew-not, grew-on}
use Rattle.edit_core.proofs.Steps.{EditsKeepValidity, valid-after}

-- what stands at the place of an id is what the id names
pub at-named : (board : Seen) (id place : ℕ) (paragraph : Paragraph) (stands : Standing)
    → IsAt board id place paragraph stands
    → with_id id board.paragraphs ≡ Some paragraph
at-named board id place paragraph stands here =
    (found-at board.paragraphs id place paragraph here.place_is here.paragraph_is).found

-- on a valid board a paragraph stands at the place of its id, and is the one that its id names
pub own-place : (board : Seen) (place : ℕ) (paragraph : Paragraph) → IsValidBoard board
    → slice_get board.paragraphs place ≡ Some paragraph → place_of paragraph.id board.paragraphs
    ≡ Some place
own-place board place paragraph valid at =
    own-placed board.paragraphs place paragraph valid.paragraphs.own_ids at

pub own-here : (board : Seen) (place : ℕ) (paragraph : Paragraph) → IsValidBoard board
    → slice_get board.paragraphs place ≡ Some paragraph → with_id paragraph.id board.paragraphs
    ≡ Some paragraph
own-here board place paragraph valid at =
    (found-at board.paragraphs paragraph.id place paragraph
    (own-place board place paragraph valid at) at).found

-- a check of a board's own paragraph is fit for it, whatever its rev and its dictionary version
pub own-fit : (board : Seen) (place rev dict : ℕ) (paragraph : Paragraph) → IsValidBoard board
    → slice_get board.paragraphs place ≡ Some paragraph
    → IsFitCheck board paragraph.id rev dict paragraph.text board.lexicon
own-fit board place rev dict paragraph valid at place' paragraph' stands here rev-is dict-is =
    let same : paragraph ≡ paragraph' =
    same_Some paragraph paragraph'
    (sym (own-here board place paragraph valid at)
    ∙ at-named board paragraph.id place' paragraph' stands here) in
    (ap (λ p. p.text) same, refl)

-- a check of a paragraph of an earlier board, for its rev and its dictionary version, is fit for
-- each later one
pub later-fit : (earlier later : Seen) (id : ℕ) (paragraph : Paragraph) → OnlyGrew earlier later
    → with_id id earlier.paragraphs ≡ Some paragraph
    → IsFitCheck later id paragraph.rev earlier.dict_version paragraph.text earlier.lexicon
later-fit earlier later id paragraph grew was place paragraph' stands here rev-is dict-is = (
  (grew.revs id paragraph paragraph' was (at-named later id place paragraph' stands here)).1
      (sym rev-is),
  grew.lexicons (sym dict-is),
)

-- ---- a list of events that bring nothing that is not of one board
dictionary-after : (board before after : Seen) (event : SeenEvent) → before.lexicon ≡ board.lexicon
    → IsOfBoard board event → Makes before event after → after.lexicon ≡ board.lexicon
dictionary-after board before after (AnEdit session edit) same of made =
    ap (λ b. b.lexicon) made.after_is ∙ same
dictionary-after board before after (ALoad lexicon) same of made = ap (λ b. b.lexicon) made ∙ of
dictionary-after board before after (AClaim worker id rev) same of made =
    ap (λ b. b.lexicon) made.after_is ∙ same
dictionary-after board before after (AFinish worker id rev dict text lexicon) same of made =
    ap (λ b. b.lexicon) made.after_is ∙ same
dictionary-after board before after (APark session id) same of made =
    ap (λ b. b.lexicon) made.after_is ∙ same
dictionary-after board before after (AnAsk session id) same of made =
    ap (λ b. b.lexicon) made.after_is ∙ same

fit-now : (board now : Seen) (event : SeenEvent) → OnlyGrew board now → now.lexicon ≡ board.lexicon
    → IsOfBoard board event → IsFit now event
fit-now board now (AnEdit session edit) grew same of = tt
fit-now board now (ALoad lexicon) grew same of = tt
fit-now board now (AClaim worker id rev) grew same of = tt
fit-now board now (AFinish worker id rev dict text lexicon) grew same of =
    λ place paragraph stands here rev-is dict-is. (
      of.text_is ∙
          (grew.revs id of.paragraph paragraph of.named
          (at-named now id place paragraph stands here)).1
          (of.current ∙ sym rev-is),
      of.lexicon_is ∙ sym same,
    )
fit-now board now (APark session id) grew same of = tt
fit-now board now (AnAsk session id) grew same of = tt

all-fit : EditsKeepValidity → (board now : Seen) (events : List SeenEvent) → IsValidBoard board
    → IsValidBoard now → OnlyGrew board now → now.lexicon ≡ board.lexicon
    → AllByRecursion (IsOfBoard board) events → AreFit now events
all-fit law board now [] valid valid-now grew same all = tt
all-fit law board now (event ∷ events) valid valid-now grew same all = (
  fit-now board now event grew same all.0,
  λ after answered. by after answered
      (λ valid' grew' same'. all-fit law board after events valid valid' grew' same' all.1),
)
  where
    by : (after : Seen) → IsAnswered now event after
        → (IsValidBoard after → OnlyGrew board after → after.lexicon ≡ board.lexicon
        → AreFit after events) → AreFit after events
    by after (inl step) more =
        more (valid-after law now after event valid-now step)
        (grew-on board now after valid grew (grew-after now after event valid-now step))
        (dictionary-after board now after event same all.0 step.makes)
    by after (inr (refusal, refused, is)) more =
        more (subst IsValidBoard (sym is) valid-now) (subst (OnlyGrew board) (sym is) grew)
        (ap (λ b. b.lexicon) is ∙ same)

pub own-list-fit : EditsKeepValidity → (board : Seen) (events : List SeenEvent) → IsValidBoard board
    → AllByRecursion (IsOfBoard board) events → AreFit board events
own-list-fit law board events valid all =
    all-fit law board board events valid valid (grew-not board) refl all
