-- What was found is what the word covers.
use Rattle.letter_case.proofs.Repeats.{found_are_covered}
use Rattle.letter_case.proofs.covered.Goals as goal

pub returns : goal.returns
returns c =
    found_are_covered c.args.sharps c.args.word.now c.in_ok-copy_of.field-0 c.new-found.result.items
    c.add.new.found.items c.add_of_capital.new.found.items c.add_of_capitals.new.found.items
    c.add_of_sharps.new.found.items
    c.new-found.ensures.items c.in_ok-copy_of.ensures c.in_ok-add.ensures
    c.in_ok-add_of_capital.ensures c.in_ok-add_of_capitals.ensures c.in_ok-add_of_sharps.ensures
