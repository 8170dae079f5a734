-- What is kept of a board, and what each event makes of it.
use Rattle.std.proofs.Common.{◌≡◌, ◌∙◌, refl, sym, ap, subst, ℕ, suc, ◌+◌, ◌<◌, ◌^◌, List, [], ◌∷◌}
use Rattle.std.proofs.Common.{length, map, set, slice_get, Option, None, Some}
use Rattle.std.specs.List.{AllZip}
use Rattle.std.specs.Option.{option_map_or}
use Rattle.std.proofs.lemmas.List.{map-set}
use Rattle.mark_types.specs.lists.Changes.{Change, changed}
use Rattle.mark_types.specs.lists.Laws.{map-changed}
use Rattle.mark_types.specs.spell_types.declared.Lexicon.{Lexicon}
use Rattle.paragraph_text.specs.Paragraphs.{Paragraph, AreValid}
use Rattle.paragraph_text.specs.Edits.{Applies, change_of, kept_after, next_id_after}
use Rattle.paragraph_text.specs.Laws.{changes}
use Rattle.paragraph_text.specs.declared.edits.Edit.{Edit}
use Rattle.edit_core.specs.Seen.{Seen, IsValidBoard, IsCheckOfParagraph, AreTheirs, standing_of}
use Rattle.edit_core.specs.Steps.{Edits, Loads, reloaded, reloaded_state}
use Rattle.edit_core.specs.declared.state.State.{State}
use Rattle.edit_core.specs.declared.state.State.TheVariants as state
use Rattle.edit_core.proofs.Boards.{valid-moved, valid-loaded, valid-edited}
use Rattle.edit_core.proofs.Places.{edit-zip, zip-set, length-of-zip}

-- what is kept of a board is seen so
abbrev pub seen : {J : Type 0} → (J → Lexicon) → (point text dict : ℕ) → J → List Paragraph
    → List (State J) → ℕ → Seen
seen lexicon_of point text dict judge paragraphs states next_id = record {
  point = point;
  text_version = text;
  dict_version = dict;
  lexicon = lexicon_of judge;
  paragraphs = paragraphs;
  standings = map standing_of states;
  next_id = next_id;
}

-- what is kept of each board meets this
abbrev pub IsKept : {J : Type 0} → (J → Lexicon) → (point text dict : ℕ) → J → List Paragraph
    → List (State J) → ℕ → Type 0
IsKept lexicon_of point text dict judge paragraphs states next_id =
    IsValidBoard (seen lexicon_of point text dict judge paragraphs states next_id)
    × AreTheirs lexicon_of (lexicon_of judge) paragraphs states

-- ---- lists
pub map-long : {X Y : Type 0} (f : X → Y) (xs : List X) → length (map f xs) ≡ length xs
map-long f [] = refl
map-long f (x ∷ xs) = ap (λ n. suc n) (map-long f xs)

pub zip-map : {X Y Z : Type 0} (P : X → Y → Type 0) (Q : X → Z → Type 0) (f : Y → Z) (xs : List X)
    (ys : List Y) → ((x : X) (y : Y) → P x y → Q x (f y)) → AllZip P xs ys → AllZip Q xs (map f ys)
zip-map P Q f [] [] weaker all = all
zip-map P Q f [] (y ∷ ys) weaker all = absurd all
zip-map P Q f (x ∷ xs) [] weaker all = absurd all
zip-map P Q f (x ∷ xs) (y ∷ ys) weaker all = (weaker x y all.0, zip-map P Q f xs ys weaker all.1)

pub map-kept : {X Y : Type 0} (f : X → Y) (new : X) (paragraphs : List Paragraph) (kept : List X)
    (edit : Edit)
    → map f (kept_after new paragraphs kept edit) ≡ kept_after (f new) paragraphs (map f kept) edit
map-kept {X} {Y} f new paragraphs kept edit = by (change_of paragraphs edit)
  where
    by : (change : Option Change) → map f (option_map_or (λ c. changed c new kept) change kept)
        ≡ option_map_or (λ c. changed c (f new) (map f kept)) change (map f kept)
    by None = refl
    by (Some change) = map-changed f change new kept

-- ---- the states of a board
-- a state that holds no check is right wherever it stands
pub reloaded-theirs : {J : Type 0} (lexicon_of : J → Lexicon) (lexicon lexicon' : Lexicon)
    (paragraph : Paragraph) (s : State J) → IsCheckOfParagraph lexicon_of lexicon paragraph s
    → IsCheckOfParagraph lexicon_of lexicon' paragraph (reloaded_state s)
reloaded-theirs lexicon_of lexicon lexicon' paragraph state.Waiting is = tt
reloaded-theirs lexicon_of lexicon lexicon' paragraph (state.Held worker) is = tt
reloaded-theirs lexicon_of lexicon lexicon' paragraph state.Parked is = tt
reloaded-theirs lexicon_of lexicon lexicon' paragraph (state.Finished checked) is = tt

reloaded-one : {J : Type 0} (s : State J)
    → standing_of (reloaded_state s) ≡ reloaded (standing_of s)
reloaded-one state.Waiting = refl
reloaded-one (state.Held worker) = refl
reloaded-one state.Parked = refl
reloaded-one (state.Finished checked) = refl

reloaded-all : {J : Type 0} (states : List (State J)) → map standing_of (map reloaded_state states)
    ≡ map reloaded (map standing_of states)
reloaded-all [] = refl
reloaded-all (s ∷ states) =
    ap (λ r. r ∷ map standing_of (map reloaded_state states)) (reloaded-one s)
    ∙ ap (λ rs. reloaded (standing_of s) ∷ rs) (reloaded-all states)

states-long : {J : Type 0} (lexicon_of : J → Lexicon) (lexicon : Lexicon)
    (paragraphs : List Paragraph) (states : List (State J))
    → AreTheirs lexicon_of lexicon paragraphs states
    → length (map standing_of states) ≡ length paragraphs
states-long lexicon_of lexicon paragraphs states theirs = map-long standing_of states
    ∙ length-of-zip (IsCheckOfParagraph lexicon_of lexicon) paragraphs states theirs

-- ---- one paragraph stands in another way
pub kept-moved : {J : Type 0} (lexicon_of : J → Lexicon) (point text dict : ℕ) (judge judge' : J)
    (paragraphs paragraphs' : List Paragraph) (states states' : List (State J)) (next_id place : ℕ)
    (s : State J) → IsKept lexicon_of point text dict judge paragraphs states next_id
    → point < 2 ^ 62 → judge' ≡ judge → paragraphs' ≡ paragraphs → states' ≡ set states place s
    → ((paragraph : Paragraph) → slice_get paragraphs place ≡ Some paragraph
    → IsCheckOfParagraph lexicon_of (lexicon_of judge) paragraph s)
    → IsKept lexicon_of (point + 1) text dict judge' paragraphs' states' next_id
kept-moved {J} lexicon_of point text dict judge judge' paragraphs paragraphs' states states' next_id
    place s kept goes_on judge-is paragraphs-is states-is fits =
    let all : AreTheirs lexicon_of (lexicon_of judge) paragraphs (set states place s) =
    zip-set (IsCheckOfParagraph lexicon_of (lexicon_of judge)) paragraphs states place s kept.1
    fits in
    let long : length (map standing_of (set states place s)) ≡ length paragraphs =
    states-long lexicon_of (lexicon_of judge) paragraphs (set states place s) all in
    let valid =
    valid-moved (seen lexicon_of point text dict judge paragraphs states next_id)
    (map standing_of (set states place s)) kept.0 goes_on long in
    let one : IsKept lexicon_of (point + 1) text dict judge paragraphs (set states place s)
    next_id = (valid, all) in
    subst (λ j. IsKept lexicon_of (point + 1) text dict j paragraphs' states' next_id)
    (sym judge-is)
    (subst (λ ps. IsKept lexicon_of (point + 1) text dict judge ps states' next_id)
    (sym paragraphs-is)
    (subst (λ ss. IsKept lexicon_of (point + 1) text dict judge paragraphs ss next_id)
    (sym states-is) one))

pub seen-moved : {J : Type 0} (lexicon_of : J → Lexicon) (point text dict : ℕ) (judge judge' : J)
    (paragraphs paragraphs' : List Paragraph) (states states' : List (State J)) (next_id place : ℕ)
    (s : State J) (now : Seen) → seen lexicon_of point text dict judge paragraphs states next_id
    ≡ now → judge' ≡ judge → paragraphs' ≡ paragraphs → states' ≡ set states place s
    → seen lexicon_of (point + 1) text dict judge' paragraphs' states' next_id
    ≡ record now { point = now.point + 1; standings = set now.standings place (standing_of s) }
seen-moved lexicon_of point text dict judge judge' paragraphs paragraphs' states states' next_id
    place s now is judge-is paragraphs-is states-is =
    ap (λ j. seen lexicon_of (point + 1) text dict j paragraphs' states' next_id) judge-is
    ∙ ap (λ ps. seen lexicon_of (point + 1) text dict judge ps states' next_id) paragraphs-is
    ∙ ap (λ ss. seen lexicon_of (point + 1) text dict judge paragraphs ss next_id) states-is
    ∙ ap (λ stands. record (seen lexicon_of (point + 1) text dict judge paragraphs states next_id)
    { standings = stands }) (map-set standing_of states place s)
    ∙ ap (λ (board : Seen).
    record board
    { point = board.point + 1; standings = set board.standings place (standing_of s) }) is

-- ---- another dictionary
pub kept-loaded : {J : Type 0} (lexicon_of : J → Lexicon) (point text dict : ℕ) (judge judge' : J)
    (paragraphs paragraphs' : List Paragraph) (states states' : List (State J)) (next_id : ℕ)
    → IsKept lexicon_of point text dict judge paragraphs states next_id → point < 2 ^ 62
    → paragraphs' ≡ paragraphs → states' ≡ map reloaded_state states
    → IsKept lexicon_of (point + 1) text (dict + 1) judge' paragraphs' states' next_id
kept-loaded {J} lexicon_of point text dict judge judge' paragraphs paragraphs' states states'
    next_id kept goes_on paragraphs-is states-is =
    let again = map reloaded_state states in
    let all : AreTheirs lexicon_of (lexicon_of judge') paragraphs again =
    zip-map (IsCheckOfParagraph lexicon_of (lexicon_of judge)) (IsCheckOfParagraph lexicon_of (lexicon_of judge'))
    reloaded_state paragraphs states
    (reloaded-theirs lexicon_of (lexicon_of judge) (lexicon_of judge')) kept.1 in
    let long : length (map standing_of again) ≡ length paragraphs =
    states-long lexicon_of (lexicon_of judge') paragraphs again all in
    let valid =
    valid-loaded (seen lexicon_of point text dict judge paragraphs states next_id)
    (lexicon_of judge') (map standing_of again) kept.0 goes_on long in
    let one : IsKept lexicon_of (point + 1) text (dict + 1) judge' paragraphs again next_id =
    (valid, all) in
    subst (λ ps. IsKept lexicon_of (point + 1) text (dict + 1) judge' ps states' next_id)
    (sym paragraphs-is)
    (subst (λ ss. IsKept lexicon_of (point + 1) text (dict + 1) judge' paragraphs ss next_id)
    (sym states-is) one)

pub seen-loaded : {J : Type 0} (lexicon_of : J → Lexicon) (point text dict : ℕ) (judge judge' : J)
    (paragraphs paragraphs' : List Paragraph) (states states' : List (State J)) (next_id : ℕ)
    (now : Seen) → seen lexicon_of point text dict judge paragraphs states next_id ≡ now
    → paragraphs' ≡ paragraphs → states' ≡ map reloaded_state states
    → Loads now (lexicon_of judge')
    (seen lexicon_of (point + 1) text (dict + 1) judge' paragraphs' states' next_id)
seen-loaded lexicon_of point text dict judge judge' paragraphs paragraphs' states states' next_id
    now is paragraphs-is states-is =
    ap (λ ps. seen lexicon_of (point + 1) text (dict + 1) judge' ps states' next_id) paragraphs-is
    ∙ ap (λ ss. seen lexicon_of (point + 1) text (dict + 1) judge' paragraphs ss next_id) states-is
    ∙ ap (λ stands.
    record (seen lexicon_of (point + 1) text (dict + 1) judge' paragraphs states next_id)
    { standings = stands }) (reloaded-all states)
    ∙ ap (λ (board : Seen).
    record board {
      point = board.point + 1;
      dict_version = board.dict_version + 1;
      lexicon = lexicon_of judge';
      standings = map reloaded board.standings;
    }) is

-- ---- an edit
pub kept-edited : {J : Type 0} (lexicon_of : J → Lexicon) (point text dict : ℕ) (judge judge' : J)
    (paragraphs paragraphs' : List Paragraph) (states states' : List (State J)) (next_id : ℕ)
    (edit : Edit) → IsKept lexicon_of point text dict judge paragraphs states next_id
    → point < 2 ^ 62 → judge' ≡ judge → Applies (text + 1) next_id paragraphs edit paragraphs'
    → AreValid (text + 1 + 1) (next_id_after next_id edit) paragraphs'
    → states' ≡ kept_after state.Waiting paragraphs states edit
    → IsKept lexicon_of (point + 1) (text + 1) dict judge' paragraphs' states'
    (next_id_after next_id edit)
kept-edited {J} lexicon_of point text dict judge judge' paragraphs paragraphs' states states'
    next_id edit kept goes_on judge-is applied made states-is =
    let behind : List (State J) = kept_after state.Waiting paragraphs states edit in
    let all : AreTheirs lexicon_of (lexicon_of judge) paragraphs' behind =
    edit-zip (IsCheckOfParagraph lexicon_of (lexicon_of judge)) state.Waiting states (λ paragraph. tt)
    (changes (text + 1) next_id paragraphs paragraphs' edit kept.0.paragraphs.own_ids applied)
    kept.1 in
    let long : length (map standing_of behind) ≡ length paragraphs' =
    states-long lexicon_of (lexicon_of judge) paragraphs' behind all in
    let valid = valid-edited (seen lexicon_of point text dict judge paragraphs states next_id) edit
    paragraphs' (map standing_of behind) kept.0 goes_on made long in
    let one : IsKept lexicon_of (point + 1) (text + 1) dict judge paragraphs' behind
    (next_id_after next_id edit) = (valid, all) in
    subst (λ j. IsKept lexicon_of (point + 1) (text + 1) dict j paragraphs' states'
    (next_id_after next_id edit)) (sym judge-is)
    (subst (λ ss. IsKept lexicon_of (point + 1) (text + 1) dict judge paragraphs' ss
    (next_id_after next_id edit)) (sym states-is) one)

pub seen-edited : {J : Type 0} (lexicon_of : J → Lexicon) (point text dict : ℕ) (judge judge' : J)
    (paragraphs paragraphs' : List Paragraph) (states states' : List (State J)) (next_id : ℕ)
    (edit : Edit) (now : Seen) → seen lexicon_of point text dict judge paragraphs states next_id
    ≡ now → judge' ≡ judge → Applies (text + 1) next_id paragraphs edit paragraphs'
    → states' ≡ kept_after state.Waiting paragraphs states edit
    → Edits now edit
    (seen lexicon_of (point + 1) (text + 1) dict judge' paragraphs' states'
    (next_id_after next_id edit))
seen-edited lexicon_of point text dict judge judge' paragraphs paragraphs' states states' next_id
    edit now is judge-is applied states-is =
    let next = next_id_after next_id edit in
    subst (λ board.
    Edits board edit
    (seen lexicon_of (point + 1) (text + 1) dict judge' paragraphs' states' next)) is (
    record {
      paragraphs = paragraphs';
      applied = applied;
      after_is = ap (λ j. seen lexicon_of (point + 1) (text + 1) dict j paragraphs' states' next)
          judge-is
          ∙ ap (λ ss. seen lexicon_of (point + 1) (text + 1) dict judge paragraphs' ss next)
          states-is
          ∙ ap (λ stands.
          record (seen lexicon_of (point + 1) (text + 1) dict judge paragraphs' states next)
          { standings = stands }) (map-kept standing_of state.Waiting paragraphs states edit);
    }
    )
