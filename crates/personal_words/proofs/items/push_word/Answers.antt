-- A slash at the front is one of the word.
use Rattle.std.proofs.Common.{◌∙◌, lit<}
use Rattle.std.proofs.lemmas.Option.{MatchOption-at_some, MatchOption-at_none}
use Rattle.std.proofs.lemmas.Str.Pattern.{strip_prefix_char}
use Rattle.personal_words.proofs.ItemLemmas.{front-word, front-model, plain-word, plain-model}
use Rattle.personal_words.proofs.ItemLemmas.{on-ok, if-ok}
use Rattle.personal_words.proofs.items.push_word.Goals.{in-Some+in_ok-push, in_default}
use Rattle.personal_words.proofs.items.push_word.Goals as goal

pub returns-clause-word : goal.returns-clause-word
returns-clause-word c =
    let strip =
    strip_prefix_char 47 c.args.said.now c.strip_prefix.result c.strip_prefix.ensures.cases
    (lit< tt) in
    elim c.match-strip_prefix.branch [
      | in-Some+in_ok-push w ↦
          on-ok c.push_before_slash.result
          (front-word c.args.word.now c.match-strip_prefix.word _ c.args.said.now
          c.match-strip_prefix.rest w.in-Some.more
          (MatchOption-at_some _ _ w.in-Some.more w.in-Some.is strip) w.rest-is
          (w.word-is ∙ w.in_ok-push.ensures.ok)) c.push_before_slash.ensures.word
      | in_default w ↦
          on-ok c.push_before_slash.result
          (plain-word c.args.word.now c.match-strip_prefix.word _ c.match-strip_prefix.rest
          c.args.said (MatchOption-at_none _ _ w.in_default.is strip) w.rest-is w.word-is)
          c.push_before_slash.ensures.word
    ]

pub returns-clause-model : goal.returns-clause-model
returns-clause-model c =
    let strip =
    strip_prefix_char 47 c.args.said.now c.strip_prefix.result c.strip_prefix.ensures.cases
    (lit< tt) in
    elim c.match-strip_prefix.branch [
      | in-Some+in_ok-push w ↦
          if-ok c.push_before_slash.result
          (λ found. front-model c.args.said.now c.match-strip_prefix.rest w.in-Some.more found
          (MatchOption-at_some _ _ w.in-Some.more w.in-Some.is strip) w.rest-is)
          c.push_before_slash.ensures.behind
      | in_default w ↦
          if-ok c.push_before_slash.result
          (λ found. plain-model c.match-strip_prefix.rest c.args.said found
          (MatchOption-at_none _ _ w.in_default.is strip) w.rest-is)
          c.push_before_slash.ensures.behind
    ]
