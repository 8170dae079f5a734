-- The parts are those between the separators, and each of them is tested.
use Rattle.std.proofs.Common.{rules, tests}
use Rattle.std.proofs.lemmas.Iterator.Search.{all_from_yields_List}
use Rattle.std.proofs.lemmas.Iterator.Splits.{YieldsList-from_slice_split}
use Rattle.mark_types.specs.spell_types.Numbers.{is_separator, is_group, is_number}
use Rattle.desk_doubles.proofs.numbers.is_number.Goals as goal

pub returns : goal.returns
unfolding is_number
returns c =
    all_from_yields_List is_group _ _ _ c.all.ensures.ran
    (YieldsList-from_slice_split _ is_separator c.args.word.now c.split.ensures.rest
    c.split.ensures.done c.split.ensures.closure (λ x b q k. search (rules, tests)))
    (λ x b q k. search (rules, tests))
