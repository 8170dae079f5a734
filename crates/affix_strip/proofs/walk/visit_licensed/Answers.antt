-- The derivation is not licensed, or it is shown.
use Rattle.std.proofs.Common.{rules, ◌≡◌, ◌∙◌, sym, subst, false, true, true≢false}
use Rattle.spell_types.specs.Licences.{is_licensed}
use Rattle.affix_strip.proofs.ShowLemmas.{shows-none, answer-same}
use Rattle.affix_strip.proofs.walk.visit_licensed.Goals as goal

pub returns-then-not-licensed : goal.returns-then-not-licensed
returns-then-not-licensed g c =
    let fails : is_licensed c.args.lexicon.now c.args.d ≡ false = search rules in
    shows-none (λ e both.
    true≢false (sym (subst (λ d. is_licensed c.args.lexicon.now d ≡ true) both.0 both.1)
    ∙ fails))

pub returns : goal.returns
returns g c =
    let passes : is_licensed c.args.lexicon.now c.args.d ≡ true = search rules in
    answer-same _ _ c.visit.result
    (λ e. (
      λ same.
          (same, subst (λ d. is_licensed c.args.lexicon.now d ≡ true) (sym same) passes),
      λ both. both.0,
    )) c.visit.ensures
