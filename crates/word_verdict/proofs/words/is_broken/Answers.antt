-- The judge of pieces says which of them are base words, and which are barred.
use Rattle.std.proofs.Common.{rules, tests, ◌≡◌, subst, IfOk}
use Rattle.word_verdict.specs.Judging.{judged}
use Rattle.word_verdict.proofs.AcceptLemmas.{broken_as_judged}
use Rattle.word_verdict.proofs.words.is_broken.Goals as goal

pub returns : goal.returns
returns c =
    subst (λ b. IfOk c.broken.result (λ answer. answer ≡ b))
    (broken_as_judged c.args.dictionary.now.stems.now c.args.breaks.now c.args.word.now
    c.requires.breaks)
    (c.broken.ensures (judged c.args.dictionary.now.stems.now)
    (λ word verdict says. search (rules, tests)))
