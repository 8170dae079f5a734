-- A rule of a class with an ordinary flag is ordinary, and stays so without the characters to
-- ignore.
use Rattle.std.proofs.Common.{All, IfOk, IfSome, sym, subst}
use Rattle.std.proofs.lemmas.List.Elements.{All-push}
use Rattle.spell_types.specs.Flags.{IsOrdinary}
use Rattle.spell_types.specs.Sanity.{IsOrdinaryRule}
use Rattle.aff_reader.proofs.classes.push_rule.Goals as goal

pub returns-in_ok-push-clause-ordinary : goal.returns-in_ok-push-clause-ordinary
returns-in_ok-push-clause-ordinary c = λ aliases class all.
    let own = subst (λ found. IfSome found (λ placed. IsOrdinary placed.class.flag))
    c.in-Some-Member.is class in
    let read = subst (λ read. IfOk read IsOrdinaryRule) c.in-Ok.is
    (c.in_ok-rule.ensures.ordinary aliases (rw c.in-Some-Member.is own)) in
    subst (All IsOrdinaryRule) (sym c.in_ok-push.ensures.ok)
    (All-push IsOrdinaryRule c.args.rules.now c.in_ok-without_ignored.field-0 all
    (c.in_ok-without_ignored.ensures.ordinary read))
