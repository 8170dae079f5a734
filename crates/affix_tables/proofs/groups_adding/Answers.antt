-- A text without a key is added by no rule, and the groups of one with a key are looked up.
use Rattle.std.proofs.Common.{◌∙◌, ap, sym, subst}
use Rattle.key_filter.specs.Filter.{may_have}
use Rattle.affix_tables.specs.Groups.{AreGroups}
use Rattle.affix_tables.proofs.GroupLemmas.{are-groups, no-groups}
use Rattle.affix_tables.proofs.groups_adding.Goals as goal

pub returns-then-not-may_have : goal.returns-then-not-may_have
returns-then-not-may_have c = λ rs holds.
    subst (AreGroups rs c.args.side c.args.added.now) (sym c.new.ensures)
    (no-groups rs c.args.side c.args.table.now c.args.added.now
    (ap (may_have c.args.table.now.texts) (sym c.key_of.ensures) ∙ sym c.may_have.ensures
    ∙ c.if-not-may_have.true) holds)

pub returns : goal.returns
returns c =
    λ rs holds. are-groups rs c.args.side c.args.table.now c.args.added.now c.groups_of.result
    c.groups_of.ensures.groups c.groups_of.ensures.apart holds
