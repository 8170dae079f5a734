-- The cases of a word, one after another.
use Rattle.std.proofs.Common.{rules, ◌≡◌, subst, IfOk}
use Rattle.word_verdict.proofs.AcceptLemmas.{accepts_empty, accepts_number, refuses_long}
use Rattle.word_verdict.proofs.AcceptLemmas.{accepts_short_ones}
use Rattle.word_verdict.proofs.words.accepts.Goals as goal
use Rattle.word_verdict.proofs.words.accepts.Goals.{then-is_empty-via-then-is_empty}
use Rattle.word_verdict.proofs.words.accepts.Goals.{then-is_empty-via-else-is_empty+then-is_number}

pub returns-then-is_empty : goal.returns-then-is_empty
returns-then-is_empty c =
    elim c.then-is_empty.branch [
      | then-is_empty-via-then-is_empty w ↦ accepts_empty c.args.dictionary.now.stems.now
          c.args.word.now (search rules)
      | then-is_empty-via-else-is_empty+then-is_number w ↦ accepts_number
          c.args.dictionary.now.stems.now c.args.word.now (search rules)
    ]

pub returns-then-word-gt-MOST_CHARACTERS : goal.returns-then-word-gt-MOST_CHARACTERS
returns-then-word-gt-MOST_CHARACTERS c =
    refuses_long c.args.dictionary.now.stems.now c.args.word.now (search rules) (search rules)

pub returns : goal.returns
returns c =
    subst (λ b. IfOk c.accepts_short.result (λ answer. answer ≡ b))
    (accepts_short_ones c.args.dictionary.now.stems.now c.args.word.now (search rules)
    (search rules) (search rules))
    c.accepts_short.ensures
