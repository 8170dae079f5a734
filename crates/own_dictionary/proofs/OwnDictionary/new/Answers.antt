-- The base is the front of what it is extended to.
use Rattle.std.proofs.Common.{ap}
use Rattle.own_dictionary.proofs.BaseLemmas.{base-of, made-extended}
use Rattle.own_dictionary.proofs.OwnDictionary.new.Goals as goal

pub invariant_of-result : goal.invariant_of-result
invariant_of-result c =
    made-extended c.args.base _ c.args.own _ c.in_ok-speller.ensures c.len-entries.ensures
    c.requires

pub returns : goal.returns
returns c =
    ap (λ lexicon. record { base = lexicon; own = c.args.own })
    (base-of c.args.base _ c.args.own _ c.in_ok-speller.ensures c.len-entries.ensures)
