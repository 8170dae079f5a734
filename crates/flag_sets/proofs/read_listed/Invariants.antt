-- The set of the flags so far, with what the rest lists, is the set of the text.
use Rattle.std.proofs.Common.{◌≡◌, [], length}
use Rattle.std.specs.Option.{option_map}
use denote.Text.{Utf8}
use denote.Shadow.{shadow}
use Rattle.spell_types.specs.Flags.{put_all, AreOrdinary}
use Rattle.flag_sets.specs.FlagTexts.{listed_flags}
use Rattle.flag_sets.proofs.read_listed.Given as goal

abbrev pub invariant-loop-rest : goal.invariant-loop-rest
invariant-loop-rest l =
    shadow (Utf8 l.rest)
    × (option_map (put_all (put_all [] l.flags.items)) (listed_flags l.kind l.rest)
    ≡ option_map (put_all []) (listed_flags l.kind l.fn.text))
    × AreOrdinary (put_all [] l.flags.items)

abbrev pub decreases-loop-rest : goal.decreases-loop-rest
decreases-loop-rest l = length l.rest
