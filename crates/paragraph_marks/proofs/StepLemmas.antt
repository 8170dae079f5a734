-- From one step to the next: the marks so far, and those among the words that are left, stay the
-- marks of the text.
use Rattle.std.proofs.Common.{◌≡◌, ℕ, ◌+◌, ◌-◌, ◌<◌, ◌^◌, true, false, List, [], ◌∷◌, ◌++◌, length}
use Rattle.std.proofs.Common.{drop, take, refl, sym, ap, subst, ◌∙◌, arith, append_assoc}
use Rattle.std.proofs.Common.{length-drop}
use Rattle.std.specs.Str.{IsUtf8, chars}
use Rattle.std.proofs.lemmas.List.{append-nil, drop-drop, take-append-drop}
use Rattle.mark_types.specs.spell_types.declared.Lexicon.{Lexicon}
use Rattle.mark_types.specs.Words.{Word, words_of}
use Rattle.mark_types.specs.declared.Mark.{Mark}
use Rattle.word_cutter.specs.Runs.{IsBehind, has_some, words_after, words_from}
use Rattle.word_cutter.specs.declared.Rest.{Rest}
use Rattle.paragraph_marks.specs.Paragraphs.{marks_among, marks_in}
use Rattle.paragraph_marks.specs.Stepping.{GoesOnIn, IsProgress, left_of, words_left_of_text}
use Rattle.paragraph_marks.specs.declared.stepping.TextProgress.{TextProgress}
use Rattle.paragraph_marks.specs.declared.stepping.TextProgress.TheVariants.{Going}
use Rattle.paragraph_marks.specs.declared.stepping.SoFar.{SoFar}
use Rattle.paragraph_marks.proofs.MarkLemmas.{among-append}

-- what is left at first is the whole text
pub record IsWhole (wordchars text : List ℕ) (rest : Rest) : Type 0 where
  pub words : words_after wordchars rest ≡ words_of wordchars (chars text)
  pub text_is : rest.text.now ≡ text
  pub at_is : rest.at ≡ 0

whole-text : (wordchars text : List ℕ) (rest : Rest) → IsWhole wordchars text rest
    → drop rest.at text ≡ rest.text.now
whole-text wordchars text rest whole = ap (λ n. drop n text) whole.at_is ∙ sym whole.text_is

pub whole-words : (wordchars text : List ℕ) (rest : Rest) → IsWhole wordchars text rest
    → words_from wordchars rest.at rest.before (drop rest.at text) ≡ words_of wordchars (chars text)
unfolding words_after
whole-words wordchars text rest whole =
    ap (words_from wordchars rest.at rest.before) (whole-text wordchars text rest whole)
    ∙ whole.words

pub begins : (lexicon : Lexicon) (text : List ℕ) (rest : Rest) (so_far : SoFar)
    → IsWhole lexicon.affixes.wordchars text rest
    → so_far.marks.items ≡ [] → so_far.at ≡ rest.at → so_far.before ≡ rest.before
    → marks_among lexicon (words_of lexicon.affixes.wordchars (chars text))
    ≡ marks_in lexicon (chars text)
    → has_some (words_after lexicon.affixes.wordchars rest) ≡ true → IsUtf8 text
    → length text < 2 ^ 32
    → GoesOnIn lexicon text so_far
begins lexicon text rest so_far whole none at before all some is_text small =
    let wordchars = lexicon.affixes.wordchars in
    let at_is = whole.at_is in
    let same : words_left_of_text lexicon text so_far ≡ words_of wordchars (chars text) =
    rw (at, before) (whole-words wordchars text rest whole) in
    record {
      marks = ap (λ marks. marks ++ marks_among lexicon (words_left_of_text lexicon text so_far)) none
          ∙ ap (marks_among lexicon) same ∙ all;
      some = ap has_some (same ∙ sym whole.words) ∙ some;
      within = omega arith;
      place = let here : so_far.at ≡ 0 = at ∙ at_is in rw here is_text;
      small = small;
    }

pub no-words : (words : List Word) → has_some words ≡ false → words ≡ []
no-words [] none = refl
no-words (word ∷ words) none = absurd cc

-- some words of what is left of a text were judged: these are their marks, and this is left behind
-- them
pub record WentOn (lexicon : Lexicon) (text : List ℕ) (so_far : SoFar) (words : ℕ)
    (rest left : Rest) (marks : List Mark) : Type 0 where
  pub before : GoesOnIn lexicon text so_far
  pub rest_text : rest.text.now ≡ drop so_far.at text
  pub rest_at : rest.at ≡ so_far.at
  pub rest_before : rest.before ≡ so_far.before
  pub left_words : words_after lexicon.affixes.wordchars left
      ≡ drop words (words_after lexicon.affixes.wordchars rest)
  pub added : marks ≡ marks_among lexicon (take words (words_after lexicon.affixes.wordchars rest))
  pub behind : IsBehind rest left

-- where checking went on, of what the calls said
pub went-on : (lexicon : Lexicon) (text : List ℕ) (progress : TextProgress) (so_far : SoFar) (words : ℕ)
    (rest left : Rest) (none marks : List Mark)
    → IsProgress lexicon text progress → progress ≡ Going so_far
    → rest.text.now ≡ drop so_far.at text → rest.at ≡ so_far.at → rest.before ≡ so_far.before
    → words_after lexicon.affixes.wordchars left
    ≡ drop words (words_after lexicon.affixes.wordchars rest)
    → none ≡ []
    → marks ≡ none ++ marks_among lexicon (take words (words_after lexicon.affixes.wordchars rest))
    → IsBehind rest left
    → WentOn lexicon text so_far words rest left marks
unfolding IsProgress
went-on lexicon text progress so_far words rest left none marks is going rest_text rest_at
    rest_before left_words empty added behind = record {
      before = subst (IsProgress lexicon text) going is;
      rest_text = rest_text;
      rest_at = rest_at;
      rest_before = rest_before;
      left_words = left_words;
      added = added
          ∙ ap (λ none. none
          ++ marks_among lexicon (take words (words_after lexicon.affixes.wordchars rest))) empty;
      behind = behind;
    }

-- the words that were left before
pub left-before : (lexicon : Lexicon) (text : List ℕ) (progress : TextProgress) (so_far : SoFar)
    → progress ≡ Going so_far
    → words_left_of_text lexicon text so_far ≡ left_of lexicon text progress
unfolding left_of
left-before lexicon text progress so_far going = rw going refl

module _ (lexicon : Lexicon) (text : List ℕ) (so_far : SoFar) (words : ℕ) (rest left : Rest)
    (marks : List Mark) (went : WentOn lexicon text so_far words rest left marks) where
  abbrev wordchars : List ℕ
  wordchars = lexicon.affixes.wordchars

  rest-words : words_after wordchars rest ≡ words_left_of_text lexicon text so_far
  unfolding words_after
  rest-words = rw (went.rest_text, went.rest_at, went.rest_before) refl

  left-text : left.text.now ≡ drop left.at text
  left-text =
      let later = went.behind.later in
      let at = went.rest_at in
      let place : so_far.at + (left.at - rest.at) ≡ left.at = omega arith in
      went.behind.behind ∙ ap (drop (left.at - rest.at)) went.rest_text
      ∙ drop-drop (left.at - rest.at) so_far.at text ∙ ap (λ n. drop n text) place

  left-words : words_from wordchars left.at left.before (drop left.at text) ≡ words_after wordchars
      left
  unfolding words_after
  left-words = ap (words_from wordchars left.at left.before) (sym left-text)

  pub words-behind : words_after wordchars left ≡ drop words (words_left_of_text lexicon text so_far)
  words-behind = went.left_words ∙ ap (drop words) rest-words

  all-marks : (so_far.marks.items ++ marks) ++ marks_among lexicon (words_after wordchars left)
      ≡ marks_in lexicon (chars text)
  all-marks =
      let all = words_left_of_text lexicon text so_far in
      ap (λ added. (so_far.marks.items ++ added)
      ++ marks_among lexicon (words_after wordchars left))
      (went.added ∙ ap (λ all. marks_among lexicon (take words all)) rest-words)
      ∙ ap (λ back. (so_far.marks.items ++ marks_among lexicon (take words all))
      ++ marks_among lexicon back) words-behind
      ∙ append_assoc so_far.marks.items (marks_among lexicon (take words all))
      (marks_among lexicon (drop words all))
      ∙ ap (λ marks. so_far.marks.items ++ marks)
      (sym (among-append lexicon (take words all) (drop words all))
      ∙ ap (marks_among lexicon) (take-append-drop words all))
      ∙ went.before.marks

  pub now-words : (now : SoFar) → now.at ≡ left.at → now.before ≡ left.before
      → words_left_of_text lexicon text now ≡ words_after wordchars left
  now-words now at before = rw (at, before) left-words

  pub went-further : (now : SoFar) → now.marks.items ≡ so_far.marks.items ++ marks
      → now.at ≡ left.at → now.before ≡ left.before
      → has_some (words_after wordchars left) ≡ true → GoesOnIn lexicon text now
  went-further now joined at before some =
      let same = now-words now at before in
      let end = went.behind.same_end in
      let size = ap length went.rest_text ∙ length-drop so_far.at text in
      let within = went.before.within in
      let rest_at = went.rest_at in
      record {
        marks = ap (λ marks. marks ++ marks_among lexicon (words_left_of_text lexicon text now)) joined
            ∙ ap (λ back. (so_far.marks.items ++ marks) ++ marks_among lexicon back) same
            ∙ all-marks;
        some = ap has_some same ∙ some;
        within = omega arith;
        place = rw (at, ← left-text)
            (went.behind.utf8 (subst IsUtf8 (sym went.rest_text) went.before.place));
        small = went.before.small;
      }

  -- no word is left
  pub went-through : has_some (words_after wordchars left) ≡ false
      → so_far.marks.items ++ marks ≡ marks_in lexicon (chars text)
  went-through none =
      sym (append-nil (so_far.marks.items ++ marks))
      ∙ ap (λ back. (so_far.marks.items ++ marks) ++ marks_among lexicon back)
      (sym (no-words (words_after wordchars left) none))
      ∙ all-marks
