-- Behind the words that were judged others are left, or none; the marks so far are those before and
-- those that were added.
use Rattle.std.proofs.Common.{◌≡◌, ◌∙◌, ◌++◌, drop, not, sym, ap}
use Rattle.word_cutter.specs.Runs.{has_some, words_after}
use Rattle.paragraph_marks.specs.Stepping.{IsProgress, left_of}
use Rattle.paragraph_marks.proofs.StepLemmas.{WentOn, went-on, left-before, no-words, now-words}
use Rattle.paragraph_marks.proofs.StepLemmas.{words-behind, went-further, went-through}
use Rattle.paragraph_marks.proofs.stepping.step_over.Goals as goal

pub returns-then-has_word-clause-is : goal.returns-then-has_word-clause-is
unfolding IsProgress
returns-then-has_word-clause-is g c =
    let lexicon = g.K.Asker.lexicon c.args.asker.now in
    let text = c.args.text.now in
    let words = c.args.words in
    let so_far = c.in-Going.so_far in
    let rest = c.rest-rest.result in
    let left = c.in_ok-passed.passed.left in
    let marks = c.judge_words.new.marks.items in
    let judged = c.in_ok-passed.ensures in
    let went : WentOn lexicon text so_far words rest left marks =
    went-on lexicon text c.args.progress.now so_far words rest left c.new-marks.result.items marks
    c.requires.is c.in-Going.is
    c.rest-rest.ensures.text c.rest-rest.ensures.at c.rest-rest.ensures.before judged.left
    c.new-marks.ensures.items judged.marks judged.behind in
    let asked : has_some (words_after lexicon.affixes.wordchars left) ≡ c.has_word.result =
    ap (λ wordchars. has_some (words_after wordchars left))
    (sym (c.wordchars.ensures ∙ ap (λ lexicon. lexicon.affixes.wordchars) judged.same))
    ∙ sym c.has_word.ensures in
    let added = c.in_ok-add.ensures in
    went-further lexicon text so_far words rest left marks went c.add.new.self added.marks added.at
    added.before (asked ∙ c.if-has_word.true)

pub returns-then-has_word-clause-left : goal.returns-then-has_word-clause-left
unfolding left_of
returns-then-has_word-clause-left g c =
    let lexicon = g.K.Asker.lexicon c.args.asker.now in
    let text = c.args.text.now in
    let words = c.args.words in
    let so_far = c.in-Going.so_far in
    let rest = c.rest-rest.result in
    let left = c.in_ok-passed.passed.left in
    let marks = c.judge_words.new.marks.items in
    let judged = c.in_ok-passed.ensures in
    let went : WentOn lexicon text so_far words rest left marks =
    went-on lexicon text c.args.progress.now so_far words rest left c.new-marks.result.items marks
    c.requires.is c.in-Going.is
    c.rest-rest.ensures.text c.rest-rest.ensures.at c.rest-rest.ensures.before judged.left
    c.new-marks.ensures.items judged.marks judged.behind in
    let asked : has_some (words_after lexicon.affixes.wordchars left) ≡ c.has_word.result =
    ap (λ wordchars. has_some (words_after wordchars left))
    (sym (c.wordchars.ensures ∙ ap (λ lexicon. lexicon.affixes.wordchars) judged.same))
    ∙ sym c.has_word.ensures in
    let added = c.in_ok-add.ensures in
    now-words lexicon text so_far words rest left marks went c.add.new.self added.at added.before
    ∙ words-behind lexicon text so_far words rest left marks went
    ∙ ap (drop words) (left-before lexicon text c.args.progress.now so_far c.in-Going.is)

pub returns-then-has_word-clause-ended : goal.returns-then-has_word-clause-ended
unfolding left_of
returns-then-has_word-clause-ended g c =
    let lexicon = g.K.Asker.lexicon c.args.asker.now in
    let text = c.args.text.now in
    let words = c.args.words in
    let so_far = c.in-Going.so_far in
    let rest = c.rest-rest.result in
    let left = c.in_ok-passed.passed.left in
    let marks = c.judge_words.new.marks.items in
    let judged = c.in_ok-passed.ensures in
    let went : WentOn lexicon text so_far words rest left marks =
    went-on lexicon text c.args.progress.now so_far words rest left c.new-marks.result.items marks
    c.requires.is c.in-Going.is
    c.rest-rest.ensures.text c.rest-rest.ensures.at c.rest-rest.ensures.before judged.left
    c.new-marks.ensures.items judged.marks judged.behind in
    let asked : has_some (words_after lexicon.affixes.wordchars left) ≡ c.has_word.result =
    ap (λ wordchars. has_some (words_after wordchars left))
    (sym (c.wordchars.ensures ∙ ap (λ lexicon. lexicon.affixes.wordchars) judged.same))
    ∙ sym c.has_word.ensures in
    let added = c.in_ok-add.ensures in
    sym (ap (λ words. not (has_some words))
    (now-words lexicon text so_far words rest left marks went c.add.new.self added.at
    added.before)
    ∙ ap not (asked ∙ c.if-has_word.true))

pub returns-clause-is : goal.returns-clause-is
unfolding IsProgress
returns-clause-is g c =
    let lexicon = g.K.Asker.lexicon c.args.asker.now in
    let text = c.args.text.now in
    let words = c.args.words in
    let so_far = c.in-Going.so_far in
    let rest = c.rest-rest.result in
    let left = c.in_ok-passed.passed.left in
    let marks = c.judge_words.new.marks.items in
    let judged = c.in_ok-passed.ensures in
    let went : WentOn lexicon text so_far words rest left marks =
    went-on lexicon text c.args.progress.now so_far words rest left c.new-marks.result.items marks
    c.requires.is c.in-Going.is
    c.rest-rest.ensures.text c.rest-rest.ensures.at c.rest-rest.ensures.before judged.left
    c.new-marks.ensures.items judged.marks judged.behind in
    let asked : has_some (words_after lexicon.affixes.wordchars left) ≡ c.has_word.result =
    ap (λ wordchars. has_some (words_after wordchars left))
    (sym (c.wordchars.ensures ∙ ap (λ lexicon. lexicon.affixes.wordchars) judged.same))
    ∙ sym c.has_word.ensures in
    c.in_ok-new.ensures.ok ∙ c.in_ok-all.ensures
    ∙ ap (λ earlier. earlier ++ marks) c.deref.ensures.value
    ∙ went-through lexicon text so_far words rest left marks went (asked ∙ c.if-has_word.false)

pub returns-clause-left : goal.returns-clause-left
unfolding left_of
returns-clause-left g c =
    let lexicon = g.K.Asker.lexicon c.args.asker.now in
    let text = c.args.text.now in
    let words = c.args.words in
    let so_far = c.in-Going.so_far in
    let rest = c.rest-rest.result in
    let left = c.in_ok-passed.passed.left in
    let marks = c.judge_words.new.marks.items in
    let judged = c.in_ok-passed.ensures in
    let went : WentOn lexicon text so_far words rest left marks =
    went-on lexicon text c.args.progress.now so_far words rest left c.new-marks.result.items marks
    c.requires.is c.in-Going.is
    c.rest-rest.ensures.text c.rest-rest.ensures.at c.rest-rest.ensures.before judged.left
    c.new-marks.ensures.items judged.marks judged.behind in
    let asked : has_some (words_after lexicon.affixes.wordchars left) ≡ c.has_word.result =
    ap (λ wordchars. has_some (words_after wordchars left))
    (sym (c.wordchars.ensures ∙ ap (λ lexicon. lexicon.affixes.wordchars) judged.same))
    ∙ sym c.has_word.ensures in
    sym (no-words (words_after lexicon.affixes.wordchars left) (asked ∙ c.if-has_word.false))
    ∙ words-behind lexicon text so_far words rest left marks went
    ∙ ap (drop words) (left-before lexicon text c.args.progress.now so_far c.in-Going.is)
