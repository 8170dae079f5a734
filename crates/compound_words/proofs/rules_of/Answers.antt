-- The rules that are kept are those with a flag of the set.
use Rattle.std.proofs.Common.{◌∙◌, ap, filter, Result, Ok, Err, IfOk}
use Rattle.compound_words.specs.Prepared.{has_step_in}
use Rattle.compound_words.proofs.RuleLemmas.{kept-rules}
use Rattle.compound_words.proofs.rules_of.Goals as goal

-- what follows for an answer
if_ok : {X E : Type 0} {P Q : X → Type 0} (result : Result X E) → IfOk result P
    → ((x : X) → P x → Q x) → IfOk result Q
if_ok (Ok x) holds so = so x holds
if_ok (Err why) holds so = tt

pub returns : goal.returns
returns c =
    if_ok c.rules_with.result c.rules_with.ensures (λ rules is.
    kept-rules c.patterns_match.ensures.one_by_one c.args.lexicon.now c.in_ok-flags.flags rules
    c.in_ok-flags.ensures
    (is ∙ ap (filter (has_step_in c.in_ok-flags.flags)) c.deref.ensures))
