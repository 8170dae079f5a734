-- Where the search finds the flag, the set holds it.
use Rattle.std.proofs.Common.{◌∙◌, ap, sym, Some}
use Rattle.spell_types.specs.Flags.{has}
use Rattle.spell_types.proofs.FlagLemmas.{has_searched}
use Rattle.spell_types.proofs.flags.has.Goals as goal

pub returns-in-Some : goal.returns-in-Some
returns-in-Some c =
    c.is_ok.ensures.value
    ∙ has_searched c.in-Some.flag c.as_slice.result.now c.search.result c.search.ensures.found
    c.search.ensures.missing
    ∙ ap (λ xs. has xs (Some c.in-Some.flag)) c.as_slice.ensures.flags
    ∙ ap (has c.args.set.now) (sym c.in-Some.is)
