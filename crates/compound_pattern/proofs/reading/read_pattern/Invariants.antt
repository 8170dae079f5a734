-- What is read, with what the items of the rest are behind it, is what the text is.
use Rattle.std.proofs.Common.{◌≡◌, length, All}
use denote.Text.{Utf8}
use denote.Shadow.{shadow}
use Rattle.std.specs.Str.{chars}
use Rattle.spell_types.specs.Flags.{IsOrdinary}
use Rattle.compound_pattern.specs.PatternTexts.{pattern_items_of, pattern_of}
use Rattle.compound_pattern.proofs.RuleLemmas.{told_after}
use Rattle.compound_pattern.proofs.reading.read_pattern.Given as goal

abbrev pub invariant-loop-rest : goal.invariant-loop-rest
invariant-loop-rest l =
    shadow (Utf8 l.rest)
    × (told_after l.kind l.are_flags l.steps (pattern_items_of l.kind (chars l.rest))
    ≡ pattern_of l.kind l.fn.text)
    × All (λ step. IsOrdinary step.flag) l.steps

abbrev pub decreases-loop-rest : goal.decreases-loop-rest
decreases-loop-rest l = length l.rest
