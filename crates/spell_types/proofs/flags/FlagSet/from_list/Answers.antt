-- A set of flags rises.
use Rattle.std.proofs.Common.{◌∙◌, [], subst, sym}
use Rattle.spell_types.specs.Flags.{IsRising}
use Rattle.spell_types.proofs.FlagLemmas.{put_all-IsRising, rising-nil}
use Rattle.spell_types.proofs.flags.FlagSet.from_list.Goals as goal

pub invariant_of-result : goal.invariant_of-result
invariant_of-result c =
    subst IsRising (sym (c.in_ok-kept.ensures ∙ c.put_in_order.ensures))
    (put_all-IsRising [] c.args.flags.items rising-nil)
