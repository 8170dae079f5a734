-- The board opens by the dictionary.
use Rattle.std.proofs.Common.{refl}
use Rattle.team_forms.proofs.teamwork.answer_at_once.Goals as goal

pub answer_named-requires-clause-named : goal.answer_named-requires-clause-named
answer_named-requires-clause-named g c κs within =
    record { ledger_is = refl; parts_are = refl; book_is = refl; opening_is = refl }

pub returns : goal.returns
returns g c = rw c.in_ok-opening.ensures at c.answer_named.ensures
