-- An edit makes a list exactly where it is not refused, and makes one list alone.
use Rattle.std.proofs.Common.{◌≡◌, ◌∙◌, inl, inr, refl, sym, ap, subst, ℕ, suc, ◌<◌, ◌≤◌, ◌==◌}
use Rattle.std.proofs.Common.{true, List, [], ◌∷◌, ◌++◌, length, take, drop, set, nat_lt, nat_le}
use Rattle.std.proofs.Common.{Option, None, Some, append-nil, arith}
use Rattle.std.specs.List.{insert, remove}
use Rattle.std.specs.Option.{option_map, option_map_or, option_or}
use Rattle.std.proofs.Math.Seq.{drop-length}
use Rattle.std.proofs.lemmas.Bool.{eqb-true, eq-eqb, leb-true, le-leb, ltb-true, lt-ltb}
use Rattle.std.proofs.lemmas.List.{set_split, take-append-drop}
use Rattle.std.proofs.lemmas.Option.{none-some, same_Some}
use Rattle.paragraph_text.specs.Laws.{begun-at, changes, found-id, found-none, some-at, stands-in}
use Rattle.paragraph_text.specs.Laws.{no-break, split-at}
use Rattle.paragraph_text.specs.Paragraphs.{Paragraph, HaveOwnIds, HasNoBreak, AreValid}
use Rattle.paragraph_text.specs.Edits.{Applies, BeginsWith, IsChanged, IsEditDecided, IsFoundAt}
use Rattle.paragraph_text.specs.Edits.{IsGap}
use Rattle.paragraph_text.specs.Edits.{IsSpliced, Removes, Replaces, bad_span, behind, break_in}
use Rattle.paragraph_text.specs.Edits.{entry_refusal, edit_refusal, full, gone_before, edit_gone_or}
use Rattle.paragraph_text.specs.Edits.{is_span, place_of, splice_refusal, spliced, too_long}
use Rattle.paragraph_text.specs.declared.edits.Edit.{Edit}
use Rattle.paragraph_text.specs.declared.edits.Edit.TheVariants.{Insert, Remove, Replace}
use Rattle.paragraph_text.specs.declared.edits.EditRefusal.{EditRefusal}
use Rattle.paragraph_text.specs.declared.edits.EditRefusal.TheVariants.{Gone, Behind, BadSpan}
use Rattle.paragraph_text.specs.declared.edits.EditRefusal.TheVariants.{HasBreak, TooLong, Full}
use Rattle.paragraph_text.proofs.Places.{gap-at, map-none, no-break-found, or-parts, unless-none}
use Rattle.paragraph_text.specs.declared.limits.TheConstants.{MOST_BYTES, MOST_PARAGRAPHS}

-- ---- and no other list
same-change : {paragraphs after other : List Paragraph} {edit : Edit}
    (one : IsChanged paragraphs edit after)
    (two : IsChanged paragraphs edit other) → one.touched ≡ two.touched → other ≡ after
same-change one two touched =
    let change : one.change ≡ two.change = same_Some _ _ (sym one.change_is ∙ two.change_is) in
    cc

pub once : (version next_id : ℕ) (paragraphs after other : List Paragraph) (edit : Edit)
    → HaveOwnIds paragraphs
    → Applies version next_id paragraphs edit after → Applies version next_id paragraphs edit other
    → other ≡ after
unfolding changes
once version next_id paragraphs after other edit own one two =
    same-change (changes version next_id paragraphs after edit own one)
    (changes version next_id paragraphs other edit own two) (by edit one two)
  where
    -- a front and a rest are where the id stands, and so are those of another parting
    same : (id : ℕ) (front front' : List Paragraph) (touched touched' : Paragraph)
        (rest rest' : List Paragraph)
        → paragraphs ≡ front ++ touched ∷ rest → paragraphs ≡ front' ++ touched' ∷ rest'
        → touched.id ≡ id → touched'.id ≡ id → touched ≡ touched'
    same id front front' touched touched' rest rest' is is' named named' =
        same_Some touched touched'
        (sym (stands-in id front touched rest own is named).found
        ∙ (stands-in id front' touched' rest' own is' named').found)

    by : (edit : Edit) (one : Applies version next_id paragraphs edit after)
        (two : Applies version next_id paragraphs edit other)
        → (changes version next_id paragraphs after edit own one).touched
        ≡ (changes version next_id paragraphs other edit own two).touched
    by (Replace id rev from to text) one two =
        ap (λ (p : Paragraph).
        record { id = id; rev = version; text = spliced p.text from to text })
        (same id one.front two.front one.touched two.touched one.rest two.rest one.before_is
        two.before_is one.named two.named)
    by (Insert None text) one two = refl
    by (Insert (Some id) text) one two = refl
    by (Remove id rev) one two =
        same id one.front two.front one.touched two.touched one.rest two.rest one.before_is
        two.before_is one.named two.named

-- ---- a list that is made is not refused

-- what is asked of the paragraph with an id is asked of the one that stands there
pub asked-here : {paragraphs : List Paragraph} {id place : ℕ} {touched : Paragraph}
    (asked : Paragraph → Option EditRefusal)
    → IsFoundAt paragraphs id place touched → edit_gone_or id paragraphs asked ≡ asked touched
asked-here {paragraphs} {id} asked here =
    ap (λ o. option_map_or asked o (Some (Gone id))) here.found

entry-free : (paragraphs : List Paragraph) (put : List ℕ) → HasNoBreak put → length put ≤ MOST_BYTES
    → length paragraphs < MOST_PARAGRAPHS → entry_refusal paragraphs put ≡ None
entry-free paragraphs put whole short room =
    rw (
      no-break-found put whole,
      le-leb (length put) MOST_BYTES short,
      lt-ltb (length paragraphs) MOST_PARAGRAPHS room,
    ) refl

gap-free : (paragraphs front rest : List Paragraph) (before : Option ℕ) → HaveOwnIds paragraphs
    → paragraphs ≡ front ++ rest → BeginsWith before rest → gone_before paragraphs before ≡ None
gap-free paragraphs front rest None own is begins = refl
gap-free paragraphs front rest (Some id) own is begins =
    asked-here (λ _. None) (begun-at id front rest own is begins).1

splice-free : (text : List ℕ) (from to : ℕ) (put : List ℕ) → is_span text from to ≡ true
    → HasNoBreak put
    → length (spliced text from to put) ≤ MOST_BYTES → splice_refusal text from to put ≡ None
splice-free text from to put span whole short =
    rw (span, no-break-found put whole, le-leb (length (spliced text from to put)) MOST_BYTES short)
    refl

pub free : (version next_id : ℕ) (paragraphs after : List Paragraph) (edit : Edit)
    → HaveOwnIds paragraphs
    → Applies version next_id paragraphs edit after → edit_refusal paragraphs edit ≡ None
free version next_id paragraphs after (Replace id rev from to text) own made =
    asked-here _ (stands-in id made.front made.touched made.rest own made.before_is made.named)
    ∙ rw (eq-eqb made.touched.rev rev made.current)
    (splice-free made.touched.text from to text made.span made.whole made.short)
free version next_id paragraphs after (Insert before text) own made =
    rw (gap-free paragraphs made.front made.rest before own made.before_is made.begins)
    (entry-free paragraphs text made.whole made.short made.room)
free version next_id paragraphs after (Remove id rev) own made =
    asked-here _ (stands-in id made.front made.touched made.rest own made.before_is made.named)
    ∙ rw (eq-eqb made.touched.rev rev made.current) refl

-- ---- where an edit is not refused there is a list

-- what the paragraph that stands at a place makes, and the gap before it
pub replaces-at : {paragraphs after : List Paragraph} {id place from to : ℕ} {old : Paragraph}
    {put made : List ℕ} (version rev : ℕ)
    → IsFoundAt paragraphs id place old → old.rev ≡ rev → IsSpliced old.text from to put made
    → after ≡ set paragraphs place (record { id = id; rev = version; text = made })
    → Replaces version paragraphs id rev from to put after
replaces-at {paragraphs} {after} {id} {place} {from} {to} {old} {put} version rev here current
    spliced-so is = record {
      front = take place paragraphs;
      touched = old;
      rest = drop (suc place) paragraphs;
      before_is = split-at paragraphs place old here.at;
      named = found-id here;
      current = current;
      span = spliced-so.span;
      whole = spliced-so.whole;
      short = subst (λ t. length t ≤ MOST_BYTES) spliced-so.made_is spliced-so.short;
      after_is = is ∙ ap (λ t. set paragraphs place (record { id = id; rev = version; text = t }))
          spliced-so.made_is
          ∙ set_split paragraphs place
          (record { id = id; rev = version; text = spliced old.text from to put }) here.inside;
    }

pub removes-at : {paragraphs after : List Paragraph} {id place : ℕ} {old : Paragraph} (rev : ℕ)
    → IsFoundAt paragraphs id place old → old.rev ≡ rev → after ≡ remove paragraphs place
    → Removes paragraphs id rev after
removes-at {paragraphs} {after} {id} {place} {old} rev here current is = record {
  front = take place paragraphs;
  touched = old;
  rest = drop (suc place) paragraphs;
  before_is = split-at paragraphs place old here.at;
  named = found-id here;
  current = current;
  after_is = is;
}

pub gap-before : {paragraphs : List Paragraph} {id place : ℕ} {old : Paragraph}
    → IsFoundAt paragraphs id place old
    → IsGap paragraphs (Some id) place
gap-before {paragraphs} {id} {place} here = record {
  inside = omega (arith, here.inside);
  begins = gap-at paragraphs id place here.place_is;
}

record Asked (paragraphs : List Paragraph) (id : ℕ) (asked : Paragraph → Option EditRefusal) : Type
    0 where
  pub place : ℕ
  pub touched : Paragraph
  pub here : IsFoundAt paragraphs id place touched
  pub none : asked touched ≡ None

asked-none : (paragraphs : List Paragraph) (id : ℕ) (asked : Paragraph → Option EditRefusal)
    → edit_gone_or id paragraphs asked ≡ None → Asked paragraphs id asked
asked-none paragraphs id asked none = by (place_of id paragraphs) refl
  where
    by : (found : Option ℕ) → place_of id paragraphs ≡ found → Asked paragraphs id asked
    by None is =
        let gone = ap (λ o. option_map_or asked o (Some (Gone id)))
        (found-none (λ p. p.id == id) paragraphs is) in
        absurd (none-some (Gone id) (sym none ∙ gone))
    by (Some place) is =
        let there = some-at paragraphs id place is in
        record {
          place = place;
          touched = there.0;
          here = there.1;
          none = sym (asked-here asked there.1) ∙ none;
        }

-- what an entry that is not refused has
entry-none : (paragraphs : List Paragraph) (put : List ℕ) → entry_refusal paragraphs put ≡ None
    → HasNoBreak put × (length put ≤ MOST_BYTES) × (length paragraphs < MOST_PARAGRAPHS)
entry-none paragraphs put none =
    let breaks =
    or-parts (break_in put) (option_or (too_long (length put)) (full paragraphs)) none in
    let sizes = or-parts (too_long (length put)) (full paragraphs) breaks.1 in (
      no-break put (map-none (λ at. HasBreak at) _ breaks.0),
      leb-true (length put) MOST_BYTES
          (unless-none (nat_le (length put) MOST_BYTES) (TooLong (length put)) sizes.0),
      ltb-true (length paragraphs) MOST_PARAGRAPHS
          (unless-none (nat_lt (length paragraphs) MOST_PARAGRAPHS) (Full (length paragraphs))
          sizes.1),
    )

splice-none : (text : List ℕ) (from to : ℕ) (put : List ℕ) → splice_refusal text from to put ≡ None
    → IsSpliced text from to put (spliced text from to put)
splice-none text from to put none =
    let size = length (spliced text from to put) in
    let spans = or-parts (bad_span text from to) (option_or (break_in put) (too_long size)) none in
    let breaks = or-parts (break_in put) (too_long size) spans.1 in
    record {
      span = unless-none (is_span text from to) (BadSpan (length text)) spans.0;
      whole = no-break put (map-none (λ at. HasBreak at) _ breaks.0);
      short = leb-true size MOST_BYTES
          (unless-none (nat_le size MOST_BYTES) (TooLong size) breaks.1);
      made_is = refl;
    }

inserted : (version next_id : ℕ) (paragraphs : List Paragraph) (before : Option ℕ) (text : List ℕ)
    (place : ℕ)
    → IsGap paragraphs before place → entry_refusal paragraphs text ≡ None
    → (after : List Paragraph) × Applies version next_id paragraphs (Insert before text) after
inserted version next_id paragraphs before text place gap none =
    let entry = entry-none paragraphs text none in (
      insert paragraphs place (record { id = next_id; rev = version; text = text }),
      record {
        front = take place paragraphs;
        rest = drop place paragraphs;
        before_is = sym (take-append-drop place paragraphs);
        begins = gap.begins;
        whole = entry.0;
        short = entry.1;
        room = entry.2;
        after_is = refl;
      },
    )

pub makes : (version next_id : ℕ) (paragraphs : List Paragraph) (edit : Edit)
    → edit_refusal paragraphs edit ≡ None
    → (after : List Paragraph) × Applies version next_id paragraphs edit after
makes version next_id paragraphs (Replace id rev from to text) none =
    let asked =
    asked-none paragraphs id
    (λ (touched : Paragraph). option_or (behind touched rev)
    (splice_refusal touched.text from to text)) none in
    let old = asked.touched in
    let revs = or-parts (behind old rev) (splice_refusal old.text from to text) asked.none in
    let current = eqb-true old.rev rev (unless-none (old.rev == rev) (Behind old.rev) revs.0) in
    (_, replaces-at version rev asked.here current (splice-none old.text from to text revs.1) refl)
makes version next_id paragraphs (Insert None text) none =
    inserted version next_id paragraphs None text (length paragraphs)
    (record { inside = omega arith; begins = drop-length paragraphs }) none
makes version next_id paragraphs (Insert (Some id) text) none =
    let both = or-parts (gone_before paragraphs (Some id)) (entry_refusal paragraphs text) none in
    let asked = asked-none paragraphs id (λ _. None) both.0 in
    inserted version next_id paragraphs (Some id) text asked.place (gap-before asked.here) both.1
makes version next_id paragraphs (Remove id rev) none =
    let asked = asked-none paragraphs id (λ (touched : Paragraph). behind touched rev) none in
    let old = asked.touched in (
      _,
      removes-at rev asked.here
          (eqb-true old.rev rev (unless-none (old.rev == rev) (Behind old.rev) asked.none)) refl,
    )

pub decided : (version next_id : ℕ) (paragraphs : List Paragraph) (edit : Edit)
    → AreValid version next_id paragraphs
    → IsEditDecided version next_id paragraphs edit
decided version next_id paragraphs edit valid = by (edit_refusal paragraphs edit) refl
  where
    by : (first : Option EditRefusal) → edit_refusal paragraphs edit ≡ first
        → IsEditDecided version next_id paragraphs edit
    by None is =
        let made = makes version next_id paragraphs edit is in
        inl (
          record {
            one = made.0;
            holds = made.1;
            only = λ other applied. once version next_id paragraphs made.0 other edit valid.own_ids
                made.1 applied;
          },
          λ refusal told. none-some refusal (sym is ∙ told),
        )
    by (Some refusal) is =
        inr (
          record {
            one = refusal;
            holds = is;
            only = λ other told. same_Some other refusal (sym told ∙ is);
          },
          λ after applied.
              none-some refusal
              (sym (free version next_id paragraphs after edit valid.own_ids applied) ∙ is),
        )
