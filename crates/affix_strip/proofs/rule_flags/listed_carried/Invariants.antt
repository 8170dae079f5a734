-- So far the flags are those of the rules before the loop's place.
use Rattle.std.proofs.Common.{◌≡◌, take}
use Rattle.std.specs.List.{flat_map}
use Rattle.affix_strip.specs.Tables.{carried_by_suffix}
use Rattle.affix_strip.proofs.rule_flags.listed_carried.Given as goal

abbrev pub invariant-loop-rule : goal.invariant-loop-rule
invariant-loop-rule l = l.flags.items ≡ flat_map carried_by_suffix (take l.rule-index l.rules)
