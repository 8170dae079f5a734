-- All flags that suffix rules carry are listed.
use Rattle.std.proofs.Common.{◌∙◌, ap, []}
use Rattle.std.proofs.lemmas.Result.{IfOk-weaker}
use Rattle.spell_types.specs.Flags.{put_all}
use Rattle.affix_strip.specs.Tables.{HasCarried}
use Rattle.affix_strip.proofs.TableLemmas.{carried-listed}
use Rattle.affix_strip.proofs.rule_flags.carried_by_suffixes.Goals as goal

pub returns : goal.returns
returns c =
    IfOk-weaker c.from_list.result _ (HasCarried c.args.rules.now)
    (λ set is. carried-listed c.sets_have_their_flags.ensures.members
    c.sets_have_their_flags.ensures.told c.args.rules.now set
    (is ∙ ap (put_all []) c.in_ok-listed_carried.ensures))
    c.from_list.ensures
