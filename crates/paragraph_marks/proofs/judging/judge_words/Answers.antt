-- A word is passed, and its mark is added if it has one.
use Rattle.std.proofs.Common.{◌<◌, ◌∙◌, IfSome, subst, arith}
use Rattle.word_cutter.specs.Runs.{found_word, words_after}
use Rattle.paragraph_marks.specs.Judging.{IsNextJudged}
use Rattle.paragraph_marks.proofs.MarkLemmas.{behind-both, count-step, left-step, marks-step}
use Rattle.paragraph_marks.proofs.judging.judge_words.Goals as goal

pub loop-count-preserved : goal.loop-count-preserved
loop-count-preserved g c =
    let lexicon = g.K.Asker.lexicon c.args.asker.now in
    let l = c.loop-count in
    let characters = c.next_judged.new.word.items in
    let judged = c.in-Some.judged in
    let next : IsNextJudged lexicon l.left characters judged =
    subst (λ lexicon. IsNextJudged lexicon l.left characters judged) l.invariant.same
    (subst (λ judged. IfSome judged (IsNextJudged (g.K.Asker.lexicon l.asker) l.left characters))
    c.in-Some.is c.in_ok-judged.ensures.next) in
    let word = found_word characters judged.found in
    let all = words_after lexicon.affixes.wordchars l.left in
    let rest = words_after lexicon.affixes.wordchars judged.found.rest in
    let some : 0 < l.count = omega (arith, c.loop-count-test.true) in
    let within = l.invariant.within in
    let few = l.invariant.few in
    let later = next.less.later in
    record {
      left = left-step l.count word rest all _ some next.words l.invariant.left;
      marks = marks-step lexicon l.count word rest all judged.is_known l.marks.items
          c.add_mark.new.marks.items _ some next.words next.known
          (rw (← c.deref.ensures.value) c.in_ok-add_mark.ensures) l.invariant.marks;
      counted = count-step c.args.words l.count word rest all _ some within next.words
          l.invariant.counted;
      within = omega arith;
      few = omega arith;
      same = c.in_ok-judged.ensures.same ∙ l.invariant.same;
      behind = behind-both c.args.rest l.left judged.found.rest l.invariant.behind next.less.behind;
    }
