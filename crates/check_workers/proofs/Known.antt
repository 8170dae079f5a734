-- What a history that is known says of a claim.
use Rattle.std.proofs.Common.{◌≡◌, ◌∙◌, sym, ap, subst, ℕ, ◌<◌, ◌≤◌, ◌^◌, Bool, true, false, cond}
use Rattle.std.proofs.Common.{List, [], ◌∷◌, ◌++◌, length, find, slice_get, Some, arith}
use Rattle.std.proofs.Common.{inl, inr, ◌+◌, ◌==◌}
use Rattle.std.proofs.lemmas.Bool.{cases_lt}
use Rattle.std.specs.Arc.{arc_value}
use Rattle.std.specs.List.{AllByRecursion}
use mathlib.Core.List.{IsPrefix}
use Rattle.mark_types.specs.spell_types.declared.Lexicon.{Lexicon}
use Rattle.board_share.specs.paragraph_text.Paragraphs.{Paragraph, IsValidIn}
use Rattle.board_share.specs.paragraph_text.Edits.{with_id}
use Rattle.board_share.specs.paragraph_text.declared.limits.TheConstants.{MOST_BYTES}
use Rattle.board_share.specs.edit_core.Runs.{AreSteps, Entry, IsCheckOf, IsRun, OnlyGrew, Run}
use Rattle.board_share.specs.edit_core.Runs.{last_board}
use Rattle.board_share.specs.edit_core.Seen.{Seen, IsValidBoard}
use Rattle.board_share.specs.Events.{KnowsCheck}
use Rattle.board_share.specs.declared.claim.Claim.{Claim}
use Rattle.check_workers.specs.Knowing.{KnowsBoard, KnowsClaim, KnowsLexicon}
use Rattle.check_workers.proofs.Prefixes.{prefix-shorter}

-- ---- laws of the core
abbrev pub FrontsAreRuns : Type 0
FrontsAreRuns = (opening : Seen) (front back : List Entry)
    → IsRun (record { opening = opening; entries = front ++ back })
    → IsRun (record { opening = opening; entries = front })

abbrev pub RunsAreValid : Type 0
RunsAreValid = (run : Run) → IsRun run → IsValidBoard (last_board run.opening run.entries)

abbrev pub RunsOnlyGrow : Type 0
RunsOnlyGrow = (board : Seen) (front back : List Entry) → IsValidBoard board
    → AreSteps board (front ++ back)
    → OnlyGrew (last_board board front) (last_board board (front ++ back))

abbrev pub OwnIds : Type 0
OwnIds = (board : Seen) (place : ℕ) (paragraph : Paragraph) → IsValidBoard board
    → slice_get board.paragraphs place ≡ Some paragraph
    → with_id paragraph.id board.paragraphs ≡ Some paragraph

-- ---- a board that is known
-- what is told of a paragraph of a board
pub record IsToldOf {J : Type 0} (lexicon_of : J → Lexicon) (board : Seen) (paragraph : Paragraph)
    (claim : Claim J) : Type 0 where
  pub id : claim.id ≡ paragraph.id
  pub rev : claim.rev ≡ paragraph.rev
  pub dict : claim.dict ≡ board.dict_version
  pub text : arc_value claim.text ≡ paragraph.text
  pub lexicon : lexicon_of (arc_value claim.judge) ≡ board.lexicon

-- a beginning of a history is a history
pub front-runs : FrontsAreRuns → (run : Run) (front : List Entry) → IsRun run
    → IsPrefix front run.entries → IsRun (record { opening = run.opening; entries = front })
front-runs fronts run front is begins =
    fronts run.opening front begins.0
    (subst (λ (entries : List Entry). IsRun (record { opening = run.opening; entries = entries }))
    (sym begins.1) is)

pub front-valid : FrontsAreRuns → RunsAreValid → (run : Run) (front : List Entry) → IsRun run
    → IsPrefix front run.entries → IsValidBoard (last_board run.opening front)
front-valid fronts valid run front is begins =
    valid (record { opening = run.opening; entries = front })
    (front-runs fronts run front is begins)

-- what is told of a paragraph of a board that is known is known with it
pub claim-known : {J : Type 0} (lexicon_of : J → Lexicon) → OwnIds → (run : Run) (board : Seen)
    (place : ℕ) (paragraph : Paragraph) (claim : Claim J) → KnowsBoard run board
    → IsValidBoard board → slice_get board.paragraphs place ≡ Some paragraph
    → IsToldOf lexicon_of board paragraph claim → KnowsClaim lexicon_of run claim
claim-known lexicon_of own run board place paragraph claim knows valid at told = record {
  front = knows.front;
  begins = knows.begins;
  dict_is = ap (λ (b : Seen). b.dict_version) knows.board_is ∙ sym told.dict;
  check = subst (λ (b : Seen). IsCheckOf b claim.id claim.rev (arc_value claim.text)
      (lexicon_of (arc_value claim.judge))) (sym knows.board_is) (record {
        paragraph = paragraph;
        named = ap (λ id. with_id id board.paragraphs) told.id
            ∙ own board place paragraph valid at;
        current = sym told.rev;
        text_is = told.text;
        lexicon_is = told.lexicon;
      });
}

-- ---- a text that is known
-- what holds of each item holds of the one that is found
found-holds : {X : Type 0} (P : X → Type 0) (p : X → Bool) (xs : List X) (x : X)
    → AllByRecursion P xs → find p xs ≡ Some x → P x
found-holds P p [] x all is = absurd (cc)
found-holds {X} P p (y ∷ ys) x all is = by (p y) is (found-holds P p ys x all.1)
  where
    by : (b : Bool) → cond b (Some y) (find p ys) ≡ Some x → (find p ys ≡ Some x → P x) → P x
    by true here later = subst P (cc) all.0
    by false there later = later there

below-most : (n : ℕ) → n ≤ MOST_BYTES → n < 2 ^ 32
below-most n few = omega (arith, few)

pub known-short : FrontsAreRuns → RunsAreValid → (run : Run) (id rev dict : ℕ) (text : List ℕ)
    (lexicon : Lexicon) → IsRun run → KnowsCheck run id rev dict text lexicon
    → length text < 2 ^ 32
known-short fronts valid run id rev dict text lexicon is knows =
    let board = last_board run.opening knows.front in
    let whole = front-valid fronts valid run knows.front is knows.begins in
    let paragraph = knows.check.paragraph in
    let may : IsValidIn (board.text_version + 1) board.next_id paragraph =
    found-holds (IsValidIn (board.text_version + 1) board.next_id)
    (λ (p : Paragraph). p.id == id) board.paragraphs paragraph whole.paragraphs.each
    knows.check.named in
    below-most (length text)
    (subst (λ (t : List ℕ). length t ≤ MOST_BYTES) (sym knows.check.text_is) may.short)

-- ---- a dictionary that is known
-- an earlier and a later board with one dictionary version have one dictionary
agree-on : FrontsAreRuns → RunsOnlyGrow → (run : Run) (dict : ℕ) (one other : Lexicon)
    → IsRun run → (first : KnowsLexicon run dict one) → (second : KnowsLexicon run dict other)
    → length first.front ≤ length second.front → one ≡ other
agree-on fronts grow run dict one other is first second few =
    let begins =
    prefix-shorter first.front second.front run.entries first.begins second.begins few in
    let steps = subst (AreSteps run.opening) (sym begins.1)
    (front-runs fronts run second.front is second.begins).steps in
    let grew = grow run.opening first.front begins.0 is.valid steps in
    let whole : last_board run.opening (first.front ++ begins.0)
    ≡ last_board run.opening second.front = ap (last_board run.opening) begins.1 in
    let dict-is : (last_board run.opening (first.front ++ begins.0)).dict_version ≡ dict =
    ap (λ (b : Seen). b.dict_version) whole ∙ second.dict_is in
    sym first.lexicon_is ∙ (grew.lexicons (first.dict_is ∙ sym dict-is)
    ∙ (ap (λ (b : Seen). b.lexicon) whole ∙ second.lexicon_is))

less-few : (n m : ℕ) → n < m → n ≤ m
less-few n m less = omega (arith, less)

pub dictionaries-agree : FrontsAreRuns → RunsOnlyGrow → (run : Run) (dict : ℕ)
    (one other : Lexicon) → IsRun run → KnowsLexicon run dict one → KnowsLexicon run dict other
    → one ≡ other
dictionaries-agree fronts grow run dict one other is first second =
    elim (cases_lt (length first.front) (length second.front)) [
      | inl less ↦ agree-on fronts grow run dict one other is first second (less-few _ _ less)
      | inr few ↦ sym (agree-on fronts grow run dict other one is second first few)
    ]
