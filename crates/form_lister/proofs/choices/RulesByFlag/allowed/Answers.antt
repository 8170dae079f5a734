-- The rows are those of the side.
use Rattle.std.proofs.Common.{sym, subst, IfOk}
use Rattle.spell_types.specs.declared.rules.Side.TheVariants.{Prefix, Suffix}
use Rattle.form_lister.specs.Choices.{AreRowsOfRules, HasAllowed}
use Rattle.form_lister.proofs.ChoiceLemmas.{answer-allowed}
use Rattle.form_lister.proofs.choices.RulesByFlag.allowed.Goals as goal

pub returns-in-Prefix : goal.returns-in-Prefix
returns-in-Prefix c = λ rules are.
    subst (λ side. IfOk c.places_with.result
    (λ allowed. HasAllowed rules side c.args.flags.now allowed.items)) (sym c.in-Prefix.is)
    (answer-allowed (λ allowed. allowed.items) c.places_with.result rules Prefix
    c.as_slice.result.now c.args.flags.now
    (subst (AreRowsOfRules rules Prefix) (sym c.as_slice.ensures.value) are.prefixes)
    c.places_with.ensures)

pub returns-in-Suffix : goal.returns-in-Suffix
returns-in-Suffix c = λ rules are.
    subst (λ side. IfOk c.places_with-in-Suffix.result
    (λ allowed. HasAllowed rules side c.args.flags.now allowed.items)) (sym c.in-Suffix.is)
    (answer-allowed (λ allowed. allowed.items) c.places_with-in-Suffix.result rules Suffix
    c.as_slice-in-Suffix.result.now c.args.flags.now
    (subst (AreRowsOfRules rules Suffix) (sym c.as_slice-in-Suffix.ensures.value) are.suffixes)
    c.places_with-in-Suffix.ensures)
