-- The desk opens with the board that the name stands for.
use Rattle.std.proofs.Common.{sym}
use Rattle.team_forms.proofs.teamwork.answer_named.Goals as goal

pub returns : goal.returns
returns g c = rw (sym c.requires.named.opening_is) at c.answer_over.ensures
