-- A slash at the front is one of the word.
use Rattle.std.proofs.Common.{◌∙◌, lit<}
use Rattle.std.proofs.lemmas.Option.{MatchOption-at_some, MatchOption-at_none}
use Rattle.std.proofs.lemmas.Str.Pattern.{strip_prefix_char}
use Rattle.dic_reader.proofs.EntryLemmas.{front-word, front-flags, plain-word, plain-flags}
use Rattle.dic_reader.proofs.words.push_word.Goals.{in-Some+in_ok-push, in_default}
use Rattle.dic_reader.proofs.words.push_word.Goals as goal

pub returns-clause-word : goal.returns-clause-word
returns-clause-word c =
    let strip =
    strip_prefix_char 47 c.args.entry.now c.strip_prefix.result c.strip_prefix.ensures.cases
    (lit< tt) in
    elim c.match-strip_prefix.branch [
      | in-Some+in_ok-push w ↦
          front-word c.args.word.now c.match-strip_prefix.word _ c.args.entry.now
          c.match-strip_prefix.rest w.in-Some.more
          (MatchOption-at_some _ _ w.in-Some.more w.in-Some.is strip) w.rest-is
          (w.word-is ∙ w.in_ok-push.ensures.ok) c.in_ok-push_before_slash.ensures.word
      | in_default w ↦
          plain-word c.args.word.now c.match-strip_prefix.word _ c.match-strip_prefix.rest
          c.args.entry
          (MatchOption-at_none _ _ w.in_default.is strip) w.rest-is w.word-is
          c.in_ok-push_before_slash.ensures.word
    ]

pub returns-clause-flags : goal.returns-clause-flags
returns-clause-flags c =
    let strip =
    strip_prefix_char 47 c.args.entry.now c.strip_prefix.result c.strip_prefix.ensures.cases
    (lit< tt) in
    elim c.match-strip_prefix.branch [
      | in-Some+in_ok-push w ↦
          front-flags c.args.entry.now c.match-strip_prefix.rest w.in-Some.more c.unwrap_or.result
          c.in_ok-push_before_slash.field-0 _
          (MatchOption-at_some _ _ w.in-Some.more w.in-Some.is strip) w.rest-is
          c.in_ok-push_before_slash.ensures.behind c.unwrap_or.ensures
      | in_default w ↦
          plain-flags c.match-strip_prefix.rest c.args.entry c.unwrap_or.result
          c.in_ok-push_before_slash.field-0 _
          (MatchOption-at_none _ _ w.in_default.is strip) w.rest-is
          c.in_ok-push_before_slash.ensures.behind c.unwrap_or.ensures
    ]
