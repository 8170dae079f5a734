-- At first nothing is judged, and all words are left; where there are none, there is no mark.
use Rattle.std.proofs.Common.{◌≡◌, ◌∙◌, [], true, refl, sym, ap}
use Rattle.std.specs.Str.{chars}
use Rattle.mark_types.specs.Words.{words_of}
use Rattle.word_cutter.specs.Runs.{has_some, words_after}
use Rattle.paragraph_marks.specs.Paragraphs.{marks_among}
use Rattle.paragraph_marks.specs.Stepping.{IsProgress, left_of}
use Rattle.paragraph_marks.proofs.MarkLemmas.{marks-among-words}
use Rattle.paragraph_marks.proofs.StepLemmas.{IsWhole, begins, whole-words, no-words}
use Rattle.paragraph_marks.proofs.stepping.begin.Goals as goal

pub returns-then-has_word-clause-is : goal.returns-then-has_word-clause-is
unfolding IsProgress
returns-then-has_word-clause-is g c =
    let lexicon = g.J.Judge.lexicon c.args.judge.now in
    let wordchars = lexicon.affixes.wordchars in
    let text = c.args.text.now in
    let rest = c.of-rest.result in
    let of = c.of-rest.ensures in
    let whole : IsWhole wordchars text rest =
    record { words = of.words wordchars; text_is = of.text; at_is = of.at } in
    let some : has_some (words_after wordchars rest) ≡ true =
    ap (λ wordchars. has_some (words_after wordchars rest)) (sym c.wordchars.ensures)
    ∙ sym c.has_word.ensures ∙ c.if-has_word.true in
    begins lexicon text rest _ whole c.new.ensures.items refl refl
    (marks-among-words lexicon (chars text)
    (c.words_stand_in_their_text.ensures wordchars (chars text))
    (c.marks_are_local.ensures.alone wordchars (chars text)))
    some c.utf8.text c.requires

pub returns-then-has_word-clause-left : goal.returns-then-has_word-clause-left
unfolding left_of
returns-then-has_word-clause-left g c =
    let wordchars = (g.J.Judge.lexicon c.args.judge.now).affixes.wordchars in
    let of = c.of-rest.ensures in
    whole-words wordchars c.args.text.now c.of-rest.result
    (record { words = of.words wordchars; text_is = of.text; at_is = of.at })

pub returns-clause-is : goal.returns-clause-is
unfolding IsProgress
returns-clause-is g c =
    let lexicon = g.J.Judge.lexicon c.args.judge.now in
    let wordchars = lexicon.affixes.wordchars in
    let text = c.args.text.now in
    let rest = c.of-rest.result in
    let none : words_of wordchars (chars text) ≡ [] =
    sym (c.of-rest.ensures.words wordchars)
    ∙ no-words (words_after wordchars rest)
    (ap (λ wordchars. has_some (words_after wordchars rest)) (sym c.wordchars.ensures)
    ∙ sym c.has_word.ensures ∙ c.if-has_word.false) in
    c.in_ok-new.ensures.ok ∙ c.new-2.ensures ∙ sym (ap (marks_among lexicon) none)
    ∙ marks-among-words lexicon (chars text)
    (c.words_stand_in_their_text.ensures wordchars (chars text))
    (c.marks_are_local.ensures.alone wordchars (chars text))
