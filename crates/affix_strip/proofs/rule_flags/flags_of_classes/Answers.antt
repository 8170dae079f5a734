-- The flag of each rule is listed.
use Rattle.std.proofs.Common.{◌∙◌, ap, []}
use Rattle.std.proofs.lemmas.Result.{IfOk-weaker}
use Rattle.spell_types.specs.Flags.{put_all}
use Rattle.affix_strip.specs.Classes.{HasClasses}
use Rattle.affix_strip.proofs.TableLemmas.{classes-listed}
use Rattle.affix_strip.proofs.rule_flags.flags_of_classes.Goals as goal

pub returns : goal.returns
returns c =
    IfOk-weaker c.from_list.result _ (HasClasses c.args.rules.now)
    (λ set is. classes-listed c.sets_have_their_flags.ensures.members
    c.sets_have_their_flags.ensures.told c.args.rules.now set
    (is ∙ ap (put_all []) c.in_ok-listed_flags.ensures))
    c.from_list.ensures
