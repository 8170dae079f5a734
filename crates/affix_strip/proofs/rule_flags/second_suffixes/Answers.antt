-- Each flag is looked for among those that suffix rules carry.
use Rattle.affix_strip.proofs.TableLemmas.{are-seconds}
use Rattle.affix_strip.proofs.rule_flags.second_suffixes.Goals as goal

pub returns : goal.returns
returns c =
    are-seconds c.args.rules.now c.in_ok-carried.carried c.in_ok-carried.ensures c.with_flags.result
    c.with_flags.ensures
