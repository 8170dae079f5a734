-- A set that flags were put into has those flags.
use Rattle.flag_sets.specs.FlagTexts.{listed_flags}
use Rattle.flag_sets.proofs.TextLemmas.{field_has}
use Rattle.flag_sets.proofs.fields_have_their_flags.Goals as goal

pub returns : goal.returns
returns c = λ kind text set is.
    field_has (listed_flags kind text) set is c.sets_have_their_flags.ensures.rising
    c.sets_have_their_flags.ensures.members
