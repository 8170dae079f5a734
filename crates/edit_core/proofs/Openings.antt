-- Texts that may open a history, and the board that they open it with.
use Rattle.std.proofs.Common.{◌≡◌, ◌∙◌, refl, sym, ap, subst, ℕ, ◌+◌, ◌≤◌, ◌^◌}
use Rattle.std.proofs.Common.{List, [], ◌∷◌, length, map, arith}
use Rattle.mark_types.specs.spell_types.declared.Lexicon.{Lexicon}
use Rattle.paragraph_text.specs.Paragraphs.{Paragraph, AreValid, numbered_from}
use Rattle.paragraph_text.specs.Laws.{numbered-length}
use Rattle.edit_core.specs.Seen.{IsValidBoard, AreTheirs, opening_of, standing_of}
use Rattle.edit_core.specs.declared.state.Standing.TheVariants as standing
use Rattle.edit_core.specs.declared.state.State.{State}
use Rattle.edit_core.specs.declared.state.State.TheVariants as state
use Rattle.edit_core.proofs.Kept.{IsKept, map-long, seen}
use Rattle.paragraph_text.specs.declared.limits.TheConstants.{MOST_PARAGRAPHS}

-- texts that wait are right wherever they stand
waiting-theirs : {J : Type 0} (lexicon_of : J → Lexicon) (lexicon : Lexicon) (id : ℕ)
    (texts : List (List ℕ))
    → AreTheirs lexicon_of lexicon (numbered_from id texts) (map (λ _. state.Waiting) texts)
waiting-theirs lexicon_of lexicon id [] = tt
waiting-theirs lexicon_of lexicon id (text ∷ texts) =
    (tt, waiting-theirs lexicon_of lexicon (id + 1) texts)

waiting-seen : {J : Type 0} (lexicon_of : J → Lexicon) (texts : List (List ℕ))
    → map (standing_of {J = J}) (map (λ _. state.Waiting) texts) ≡ map (λ _. standing.Waiting) texts
waiting-seen lexicon_of [] = refl
waiting-seen lexicon_of (text ∷ texts) =
    ap (λ ss. standing.Waiting ∷ ss) (waiting-seen lexicon_of texts)

waiting-long : (id : ℕ) (texts : List (List ℕ)) → length (map (λ _. standing.Waiting) texts)
    ≡ length (numbered_from id texts)
waiting-long id texts = map-long (λ _. standing.Waiting) texts ∙ sym (numbered-length id texts)

none-yet : (bound : ℕ) → 0 ≤ bound
none-yet bound = omega arith

few-ids : (n : ℕ) → n ≤ MOST_PARAGRAPHS → n ≤ MOST_PARAGRAPHS + 0
few-ids n few = omega (arith, few)

pub valid-opening : (lexicon : Lexicon) (texts : List (List ℕ)) → length texts ≤ MOST_PARAGRAPHS
    → AreValid 1 (length texts) (numbered_from 0 texts) → IsValidBoard (opening_of lexicon texts)
valid-opening lexicon texts few valid =
    record {
      paragraphs = valid;
      standings = waiting-long 0 texts;
      text = none-yet 0;
      dict = none-yet 0;
      next_id = few-ids (length texts) few;
      point = none-yet (2 ^ 62);
    }

pub seen-opening : {J : Type 0} (lexicon_of : J → Lexicon) (judge : J) (texts : List (List ℕ))
    (paragraphs : List Paragraph) (states : List (State J)) (count : ℕ)
    → paragraphs ≡ numbered_from 0 texts → states ≡ map (λ _. state.Waiting) texts
    → count ≡ length texts → seen lexicon_of 0 0 0 judge paragraphs states count
    ≡ opening_of (lexicon_of judge) texts
seen-opening {J} lexicon_of judge texts paragraphs states count paragraphs-is states-is count-is =
    ap (λ ps. seen lexicon_of 0 0 0 judge ps states count) paragraphs-is
    ∙ ap (λ ss. seen lexicon_of 0 0 0 judge (numbered_from 0 texts) ss count) states-is
    ∙ ap (λ n. seen {J = J} lexicon_of 0 0 0 judge (numbered_from 0 texts)
    (map (λ _. state.Waiting) texts) n) count-is
    ∙ ap (λ stands. record (opening_of (lexicon_of judge) texts) { standings = stands })
    (waiting-seen lexicon_of texts)

pub kept-opening : {J : Type 0} (lexicon_of : J → Lexicon) (judge : J) (texts : List (List ℕ))
    (paragraphs : List Paragraph) (states : List (State J)) (count : ℕ)
    → length texts ≤ MOST_PARAGRAPHS → AreValid 1 (length texts) (numbered_from 0 texts)
    → paragraphs ≡ numbered_from 0 texts → states ≡ map (λ _. state.Waiting) texts
    → count ≡ length texts → IsKept lexicon_of 0 0 0 judge paragraphs states count
kept-opening {J} lexicon_of judge texts paragraphs states count few valid paragraphs-is states-is
    count-is = (
      subst IsValidBoard
          (sym (seen-opening lexicon_of judge texts paragraphs states count paragraphs-is states-is
          count-is)) (valid-opening (lexicon_of judge) texts few valid),
      subst (λ ps. AreTheirs lexicon_of (lexicon_of judge) ps states) (sym paragraphs-is)
          (subst (λ ss. AreTheirs lexicon_of (lexicon_of judge) (numbered_from 0 texts) ss)
          (sym states-is) (waiting-theirs lexicon_of (lexicon_of judge) 0 texts)),
    )
