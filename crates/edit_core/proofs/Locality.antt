-- The marks that a paragraph has among those of all texts together are those of its text alone.
use Rattle.std.proofs.Common.{append-nil, ◌≡◌, ◌∙◌, refl, sym, ap, subst, ℕ, zero, suc, ◌+◌, ◌<◌}
use Rattle.std.proofs.Common.{◌==◌, true, false, cond, List, [], ◌∷◌, ◌++◌, filter, map, slice_get}
use Rattle.std.proofs.Common.{Some, arith}
use Rattle.std.specs.List.{enumerate_from, flat_map}
use Rattle.std.specs.Option.{option_map}
use Rattle.std.specs.Str.{chars}
use Rattle.std.proofs.lemmas.Bool.{eq-eqb, ne_eqb}
use Rattle.std.proofs.lemmas.List.Elements.{filter-append}
use Rattle.std.proofs.lemmas.Option.{none-some, same_Some, slice_get-map}
use Rattle.mark_types.specs.spell_types.declared.Lexicon.{Lexicon}
use Rattle.mark_types.specs.Handed.{mark_of}
use Rattle.mark_types.specs.Marks.{LocatedWord, in_paragraph, marks_of, one_by_one}
use Rattle.paragraph_marks.specs.Paragraphs.{marks_in}
use Rattle.paragraph_text.specs.Paragraphs.{Paragraph}
use Rattle.edit_core.specs.Seen.{Seen, IsCheckOfParagraph, standing_of}
use Rattle.edit_core.specs.Views.{Marked, marks_numbered, shown_alone, shown_as, shown_from}
use Rattle.edit_core.specs.Views.{texts_of_board, ShowsParagraph}
use Rattle.edit_core.specs.declared.view.ParaView.{ParaView}
use Rattle.edit_core.specs.declared.state.State.{State}
use Rattle.edit_core.specs.declared.state.State.TheVariants as state
use Rattle.edit_core.specs.declared.state.Standing.{Standing}

-- words of a paragraph with a number, as words of the whole
numbered-here : (words : List LocatedWord) (number asked : ℕ) → (number == asked) ≡ true
    → filter (λ word. word.paragraph == asked) (map (in_paragraph number) words)
    ≡ map (in_paragraph number) words
numbered-here [] number asked is = refl
numbered-here (w ∷ words) number asked is =
    ap (λ b. cond b
    (in_paragraph number w ∷ filter (λ word. word.paragraph == asked)
    (map (in_paragraph number) words))
    (filter (λ word. word.paragraph == asked) (map (in_paragraph number) words))) is
    ∙ ap (λ ws. in_paragraph number w ∷ ws) (numbered-here words number asked is)

numbered-elsewhere : (words : List LocatedWord) (number asked : ℕ) → (number == asked) ≡ false
    → filter (λ word. word.paragraph == asked) (map (in_paragraph number) words) ≡ []
numbered-elsewhere [] number asked is = refl
numbered-elsewhere (w ∷ words) number asked is =
    ap (λ b. cond b
    (in_paragraph number w ∷ filter (λ word. word.paragraph == asked)
    (map (in_paragraph number) words))
    (filter (λ word. word.paragraph == asked) (map (in_paragraph number) words))) is
    ∙ numbered-elsewhere words number asked is

-- what is found in paragraphs whose numbers begin here
abbrev found_from : (List ℕ → List LocatedWord) → ℕ → List (List ℕ) → List LocatedWord
found_from f number texts =
    flat_map (λ numbered. map (in_paragraph numbered.0) (f numbered.1))
    (enumerate_from number texts)

apart : (number asked : ℕ) → asked < number → (number == asked) ≡ false
apart number asked less = ne_eqb number asked (λ is. absurd (omega (arith, less, is)))

further : (number asked : ℕ) → asked < number → asked < number + 1
further number asked less = omega (arith, less)

found-later : (f : List ℕ → List LocatedWord) (number asked : ℕ) (texts : List (List ℕ))
    → asked < number → filter (λ word. word.paragraph == asked) (found_from f number texts) ≡ []
found-later f number asked [] less = refl
found-later f number asked (text ∷ texts) less =
    filter-append (λ (word : LocatedWord). word.paragraph == asked)
    (map (in_paragraph number) (f text)) (found_from f (number + 1) texts)
    ∙ ap (λ ws. ws ++ filter (λ word. word.paragraph == asked) (found_from f (number + 1) texts))
    (numbered-elsewhere (f text) number asked (apart number asked less))
    ∙ found-later f (number + 1) asked texts (further number asked less)

ahead : (number place : ℕ) → number < number + suc place
ahead number place = omega arith

not-yet : (number place : ℕ) → (number == number + suc place) ≡ false
not-yet number place = ne_eqb number (number + suc place) (λ is. absurd (omega (arith, is)))

one-on : (number place : ℕ) → number + 1 + place ≡ number + suc place
one-on number place = omega arith

here : (number : ℕ) → (number == number + 0) ≡ true
here number = eq-eqb number (number + 0) (omega arith)

none-more : (number : ℕ) → number + 0 < number + 1
none-more number = omega arith

found-there : (f : List ℕ → List LocatedWord) (number : ℕ) (texts : List (List ℕ)) (place : ℕ)
    (text : List ℕ) → slice_get texts place ≡ Some text
    → filter (λ word. word.paragraph == number + place) (found_from f number texts)
    ≡ map (in_paragraph (number + place)) (f text)
found-there f number [] place text at = absurd (none-some text at)
found-there f number (first ∷ texts) zero text at =
    let same : first ≡ text = same_Some first text at in
    let alike : number ≡ number + 0 = omega arith in
    filter-append (λ (word : LocatedWord). word.paragraph == number + 0)
    (map (in_paragraph number) (f first)) (found_from f (number + 1) texts)
    ∙ ap (λ ws. ws ++ filter (λ word. word.paragraph == number + 0)
    (found_from f (number + 1) texts))
    (numbered-here (f first) number (number + 0) (here number))
    ∙ ap (λ ws. map (in_paragraph number) (f first) ++ ws)
    (found-later f (number + 1) (number + 0) texts (none-more number))
    ∙ append-nil (map (in_paragraph number) (f first))
    ∙ ap (λ n. map (in_paragraph n) (f first)) alike
    ∙ ap (λ t. map (in_paragraph (number + 0)) (f t)) same
found-there f number (first ∷ texts) (suc place) text at =
    filter-append (λ (word : LocatedWord). word.paragraph == number + suc place)
    (map (in_paragraph number) (f first)) (found_from f (number + 1) texts)
    ∙ ap (λ ws. ws ++ filter (λ word. word.paragraph == number + suc place)
    (found_from f (number + 1) texts))
    (numbered-elsewhere (f first) number (number + suc place) (not-yet number place))
    ∙ subst (λ n. filter (λ word. word.paragraph == n) (found_from f (number + 1) texts)
    ≡ map (in_paragraph n) (f text)) (one-on number place)
    (found-there f (number + 1) texts place text at)

-- a mark does not know its paragraph's number
unnumbered : (words : List LocatedWord) (number : ℕ) → map mark_of (map (in_paragraph number) words)
    ≡ map mark_of words
unnumbered [] number = refl
unnumbered (w ∷ words) number = ap (λ ms. mark_of w ∷ ms) (unnumbered words number)

one-more : (place : ℕ) → 1 + place ≡ place + 1
one-more place = omega arith

pub local-marks : ((lexicon : Lexicon) (paragraphs : List (List ℕ))
    → marks_of lexicon paragraphs ≡ one_by_one (λ paragraph. marks_of lexicon (paragraph ∷ []))
    paragraphs) → (lexicon : Lexicon) (texts : List (List ℕ)) (place : ℕ) (text : List ℕ)
    → slice_get texts place ≡ Some text → marks_numbered lexicon texts (place + 1)
    ≡ marks_in lexicon text
unfolding marks_numbered marks_in
local-marks local lexicon texts place text at =
    let f : List ℕ → List LocatedWord = λ paragraph. marks_of lexicon (paragraph ∷ []) in
    ap (λ ws. map mark_of (filter (λ word. word.paragraph == place + 1) ws)) (local lexicon texts)
    ∙ ap (λ n. map mark_of (filter (λ word. word.paragraph == n) (found_from f 1 texts)))
    (sym (one-more place))
    ∙ ap (map mark_of) (found-there f 1 texts place text at)
    ∙ unnumbered (f text) (1 + place)

-- what is shown at a place is what is shown of the standing there
pub shown-at : (board : Seen) (number : ℕ) (standings : List Standing) (place : ℕ)
    (stands : Standing) → slice_get standings place ≡ Some stands
    → slice_get (shown_from board number standings) place
    ≡ Some (shown_as board (number + place) stands)
shown-at board number [] place stands at = absurd (none-some stands at)
shown-at board number (first ∷ standings) zero stands at =
    let same : first ≡ stands = same_Some first stands at in
    let alike : number ≡ number + 0 = omega arith in
    ap (λ s. Some (shown_as board number s)) same ∙ ap (λ n. Some (shown_as board n stands)) alike
shown-at board number (first ∷ standings) (suc place) stands at =
    shown-at board (number + 1) standings place stands at
    ∙ ap (λ n. Some (shown_as board n stands)) (one-on number place)

-- what a board shows of a paragraph is what is kept of it, since a check is of its text and by the
-- dictionary in force
pub shown-kept : {J : Type 0} (lexicon_of : J → Lexicon) (board : Seen) (place : ℕ)
    (paragraph : Paragraph) (s : State J)
    → ((lexicon : Lexicon) (texts : List (List ℕ)) (place : ℕ) (text : List ℕ)
    → slice_get texts place ≡ Some text → marks_numbered lexicon texts (place + 1)
    ≡ marks_in lexicon text) → slice_get board.paragraphs place ≡ Some paragraph
    → IsCheckOfParagraph lexicon_of board.lexicon paragraph s
    → shown_as board (1 + place) (standing_of s)
    ≡ shown_alone lexicon_of s
shown-kept lexicon_of board place paragraph state.Waiting local at theirs = refl
shown-kept lexicon_of board place paragraph (state.Held worker) local at theirs = refl
shown-kept lexicon_of board place paragraph state.Parked local at theirs = refl
shown-kept lexicon_of board place paragraph (state.Finished checked) local at theirs =
    let texts = texts_of_board board in
    let there : slice_get texts place ≡ Some (chars paragraph.text) =
    slice_get-map (λ (p : Paragraph). chars p.text) board.paragraphs place
    ∙ ap (option_map (λ (p : Paragraph). chars p.text)) at in
    ap (λ n. Marked (marks_numbered board.lexicon texts n)) (one-more place)
    ∙ ap Marked (local board.lexicon texts place (chars paragraph.text) there)
    ∙ ap (λ l. Marked (marks_in l (chars paragraph.text))) (sym theirs.1)
    ∙ ap (λ t. Marked (marks_in (lexicon_of checked.judge) (chars t))) (sym theirs.0)

-- what is shown of a board is shown of what it is seen as
pub shows-now : (board now : Seen) (place : ℕ) (view : ParaView) → board ≡ now
    → ShowsParagraph board place view → ShowsParagraph now place view
shows-now board now place view is shows = subst (λ (b : Seen). ShowsParagraph b place view) is shows
