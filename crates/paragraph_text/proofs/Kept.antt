-- The list that an edit makes meets what was asked of the one before, with the next version and the
-- next id.
use Rattle.std.proofs.Common.{◌≡◌, ◌∙◌, sym, ap, subst, ℕ, ◌+◌, ◌<◌, ◌≤◌, List, [], ◌∷◌, ◌++◌}
use Rattle.std.proofs.Common.{length, take, drop, Option, Result, Ok, Err, IfOk, length-append}
use Rattle.std.proofs.Common.{arith}
use Rattle.std.specs.List.{AllByRecursion}
use Rattle.std.proofs.lemmas.List.{take-append-drop}
use Rattle.text_lines.specs.lists.Laws.{each-append, each-front, each-middle, each-weaker}
use Rattle.paragraph_text.specs.Paragraphs.{Paragraph, AreValid, HaveOwnIds, HasNoBreak, IsValidIn}
use Rattle.paragraph_text.specs.Paragraphs.{numbered_from}
use Rattle.paragraph_text.specs.Edits.{Applies, Inserts, Removes, Replaces, next_id_after, spliced}
use Rattle.paragraph_text.specs.Laws.{numbered-length}
use Rattle.paragraph_text.specs.declared.edits.Edit.{Edit}
use Rattle.paragraph_text.specs.declared.edits.Edit.TheVariants.{Insert, Remove, Replace}
use Rattle.paragraph_text.specs.declared.limits.TheConstants.{MOST_BYTES, MOST_PARAGRAPHS}

each-rest : {X : Type 0} (P : X → Type 0) (front rest : List X) → AllByRecursion P (front ++ rest)
    → AllByRecursion P rest
each-rest P [] rest all = all
each-rest P (x ∷ front) rest all = each-rest P front rest all.1

pub spliced-whole : (text : List ℕ) (from to : ℕ) (put : List ℕ) → HasNoBreak text → HasNoBreak put
    → HasNoBreak (spliced text from to put)
spliced-whole text from to put whole put-whole =
    let P : ℕ → Type 0 = λ byte. ¬ (byte ≡ 10) in
    let parted : (n : ℕ) → HasNoBreak (take n text ++ drop n text) =
    λ n. subst HasNoBreak (sym (take-append-drop n text)) whole in
    each-append P (take from text ++ put) (drop to text)
    (each-append P (take from text) put
    (each-front P (take from text) (drop from text) (parted from)) put-whole)
    (each-rest P (take to text) (drop to text) (parted to))

-- a paragraph that may stand in a list may stand in the next one
later : (version next_id next_id' : ℕ) (paragraph : Paragraph) → next_id ≤ next_id'
    → IsValidIn version next_id paragraph → IsValidIn (version + 1) next_id' paragraph
later version next_id next_id' paragraph upto valid =
    record {
      known = omega (arith, valid.known, upto);
      older = omega (arith, valid.older);
      short = valid.short;
      whole = valid.whole;
    }

all-later : (version next_id next_id' : ℕ) (paragraphs : List Paragraph) → next_id ≤ next_id'
    → AllByRecursion (IsValidIn version next_id) paragraphs
    → AllByRecursion (IsValidIn (version + 1) next_id') paragraphs
all-later version next_id next_id' paragraphs upto each =
    each-weaker (IsValidIn version next_id) (IsValidIn (version + 1) next_id')
    (λ paragraph valid. later version next_id next_id' paragraph upto valid) paragraphs each

-- ---- own ids
own-replaced : (front rest : List Paragraph) (old new : Paragraph) → new.id ≡ old.id
    → HaveOwnIds (front ++ old ∷ rest) → HaveOwnIds (front ++ new ∷ rest)
own-replaced [] rest old new same own = (
  each-weaker (λ p. ¬ (p.id ≡ old.id)) (λ p. ¬ (p.id ≡ new.id)) (λ p other is. other (is ∙ same))
      rest own.0,
  own.1,
)
own-replaced (y ∷ front) rest old new same own =
    let P : Paragraph → Type 0 = λ p. ¬ (p.id ≡ y.id) in (
      each-append P front (new ∷ rest) (each-front P front (old ∷ rest) own.0) (
        λ is. each-middle P front old rest own.0 (sym same ∙ is),
        (each-rest P front (old ∷ rest) own.0).1,
      ),
      own-replaced front rest old new same own.1,
    )

own-inserted : (front rest : List Paragraph) (new : Paragraph)
    → AllByRecursion (λ p. ¬ (p.id ≡ new.id)) (front ++ rest) → HaveOwnIds (front ++ rest)
    → HaveOwnIds (front ++ new ∷ rest)
own-inserted [] rest new others own = (others, own)
own-inserted (y ∷ front) rest new others own =
    let P : Paragraph → Type 0 = λ p. ¬ (p.id ≡ y.id) in (
      each-append P front (new ∷ rest) (each-front P front rest own.0)
          (λ is. others.0 (sym is), each-rest P front rest own.0),
      own-inserted front rest new others.1 own.1,
    )

own-removed : (front rest : List Paragraph) (old : Paragraph) → HaveOwnIds (front ++ old ∷ rest)
    → HaveOwnIds (front ++ rest)
own-removed [] rest old own = own.1
own-removed (y ∷ front) rest old own =
    let P : Paragraph → Type 0 = λ p. ¬ (p.id ≡ y.id) in (
      each-append P front rest (each-front P front (old ∷ rest) own.0)
          (each-rest P front (old ∷ rest) own.0).1,
      own-removed front rest old own.1,
    )

-- ---- each kind of edit
replaced-valid : (version next_id : ℕ) (paragraphs after : List Paragraph) (id rev from to : ℕ)
    (put : List ℕ) → AreValid version next_id paragraphs
    → Replaces version paragraphs id rev from to put after → AreValid (version + 1) next_id after
replaced-valid version next_id paragraphs after id rev from to put valid made =
    let new : Paragraph =
    record { id = id; rev = version; text = spliced made.touched.text from to put } in
    let all = subst (AllByRecursion (IsValidIn version next_id)) made.before_is valid.each in
    let old = each-middle (IsValidIn version next_id) made.front made.touched made.rest all in
    let known : new.id < next_id = subst (λ n. n < next_id) made.named old.known in
    let one : IsValidIn (version + 1) next_id new =
    record {
      known = known;
      older = omega arith;
      short = made.short;
      whole = spliced-whole made.touched.text from to put old.whole made.whole;
    } in
    record {
      own_ids = subst HaveOwnIds (sym made.after_is)
          (own-replaced made.front made.rest made.touched new (sym made.named)
          (subst HaveOwnIds made.before_is valid.own_ids));
      each = subst (AllByRecursion (IsValidIn (version + 1) next_id)) (sym made.after_is)
          (each-append (IsValidIn (version + 1) next_id) made.front (new ∷ made.rest)
          (all-later version next_id next_id made.front (omega arith)
          (each-front (IsValidIn version next_id) made.front (made.touched ∷ made.rest) all)) (
            one,
            all-later version next_id next_id made.rest (omega arith)
                (each-rest (IsValidIn version next_id) made.front (made.touched ∷ made.rest) all).1,
          ));
      few = omega (
        arith,
        valid.few,
        ap length made.before_is,
        ap length made.after_is,
        length-append made.front (made.touched ∷ made.rest),
        length-append made.front (new ∷ made.rest),
      );
    }

inserted-valid : (version next_id : ℕ) (paragraphs after : List Paragraph) (before : Option ℕ)
    (put : List ℕ) → AreValid version next_id paragraphs
    → Inserts version next_id paragraphs before put after
    → AreValid (version + 1) (next_id + 1) after
inserted-valid version next_id paragraphs after before put valid made =
    let new : Paragraph = record { id = next_id; rev = version; text = put } in
    let all = subst (AllByRecursion (IsValidIn version next_id)) made.before_is valid.each in
    let one : IsValidIn (version + 1) (next_id + 1) new =
    record {
      known = omega arith;
      older = omega arith;
      short = made.short;
      whole = made.whole;
    } in
    let others : AllByRecursion (λ p. ¬ (p.id ≡ next_id)) (made.front ++ made.rest) =
    each-weaker (IsValidIn version next_id) (λ p. ¬ (p.id ≡ next_id))
    (λ p valid-p is. omega (arith, valid-p.known, is)) (made.front ++ made.rest) all in
    record {
      own_ids = subst HaveOwnIds (sym made.after_is)
          (own-inserted made.front made.rest new others
          (subst HaveOwnIds made.before_is valid.own_ids));
      each = subst (AllByRecursion (IsValidIn (version + 1) (next_id + 1))) (sym made.after_is)
          (each-append (IsValidIn (version + 1) (next_id + 1)) made.front (new ∷ made.rest)
          (all-later version next_id (next_id + 1) made.front (omega arith)
          (each-front (IsValidIn version next_id) made.front made.rest all)) (
            one,
            all-later version next_id (next_id + 1) made.rest (omega arith)
                (each-rest (IsValidIn version next_id) made.front made.rest all),
          ));
      few = omega (
        arith,
        made.room,
        ap length made.before_is,
        ap length made.after_is,
        length-append made.front made.rest,
        length-append made.front (new ∷ made.rest),
      );
    }

removed-valid : (version next_id : ℕ) (paragraphs after : List Paragraph) (id rev : ℕ)
    → AreValid version next_id paragraphs → Removes paragraphs id rev after
    → AreValid (version + 1) next_id after
removed-valid version next_id paragraphs after id rev valid made =
    let all = subst (AllByRecursion (IsValidIn version next_id)) made.before_is valid.each in
    record {
      own_ids = subst HaveOwnIds (sym made.after_is)
          (own-removed made.front made.rest made.touched
          (subst HaveOwnIds made.before_is valid.own_ids));
      each = subst (AllByRecursion (IsValidIn (version + 1) next_id)) (sym made.after_is)
          (each-append (IsValidIn (version + 1) next_id) made.front made.rest
          (all-later version next_id next_id made.front (omega arith)
          (each-front (IsValidIn version next_id) made.front (made.touched ∷ made.rest) all))
          (all-later version next_id next_id made.rest (omega arith)
          (each-rest (IsValidIn version next_id) made.front (made.touched ∷ made.rest) all).1));
      few = omega (
        arith,
        valid.few,
        ap length made.before_is,
        ap length made.after_is,
        length-append made.front (made.touched ∷ made.rest),
        length-append made.front made.rest,
      );
    }

pub kept : (version next_id : ℕ) (paragraphs after : List Paragraph) (edit : Edit)
    → AreValid version next_id paragraphs → Applies version next_id paragraphs edit after
    → AreValid (version + 1) (next_id_after next_id edit) after
kept version next_id paragraphs after (Replace id rev from to text) valid made =
    replaced-valid version next_id paragraphs after id rev from to text valid made
kept version next_id paragraphs after (Insert before text) valid made =
    inserted-valid version next_id paragraphs after before text valid made
kept version next_id paragraphs after (Remove id rev) valid made =
    removed-valid version next_id paragraphs after id rev valid made

-- ---- the paragraphs that a document opens with
numbered-above : (low id : ℕ) (texts : List (List ℕ)) → low < id
    → AllByRecursion (λ p. ¬ (p.id ≡ low)) (numbered_from id texts)
numbered-above low id [] above = tt
numbered-above low id (text ∷ texts) above =
    (λ is. omega (arith, above, is), numbered-above low (id + 1) texts (omega (arith, above)))

pub numbered_own : (id : ℕ) (texts : List (List ℕ)) → HaveOwnIds (numbered_from id texts)
numbered_own id [] = tt
numbered_own id (text ∷ texts) =
    (numbered-above id (id + 1) texts (omega arith), numbered_own (id + 1) texts)

numbered-valid : (next_id id : ℕ) (texts : List (List ℕ)) → id + length texts ≤ next_id
    → AllByRecursion (λ text. (length text ≤ MOST_BYTES) × HasNoBreak text) texts
    → AllByRecursion (IsValidIn 1 next_id) (numbered_from id texts)
numbered-valid next_id id [] upto each = tt
numbered-valid next_id id (text ∷ texts) upto each = (
  record { known = omega (arith, upto); older = omega arith; short = each.0.0; whole = each.0.1 },
  numbered-valid next_id (id + 1) texts (omega (arith, upto)) each.1,
)

pub opening-valid : (texts : List (List ℕ)) → length texts ≤ MOST_PARAGRAPHS
    → AllByRecursion (λ text. (length text ≤ MOST_BYTES) × HasNoBreak text) texts
    → AreValid 1 (length texts) (numbered_from 0 texts)
opening-valid texts few each =
    record {
      own_ids = numbered_own 0 texts;
      each = numbered-valid (length texts) 0 texts (omega arith) each;
      few = omega (arith, few, numbered-length 0 texts);
    }

-- the same of a call that may be refused, and an edit that is written otherwise
pub kept-ok : {E : Type 0} (version next_id : ℕ) (paragraphs : List Paragraph) (written edit : Edit)
    (made : Result (List Paragraph) E) → written ≡ edit
    → IfOk made (Applies version next_id paragraphs written) → AreValid version next_id paragraphs
    → IfOk made (AreValid (version + 1) (next_id_after next_id edit))
kept-ok version next_id paragraphs written edit (Ok after) same applied valid =
    kept version next_id paragraphs after edit valid
    (subst (λ e. Applies version next_id paragraphs e after) same applied)
kept-ok version next_id paragraphs written edit (Err refusal) same applied valid = tt
