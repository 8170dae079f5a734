-- So far the sessions are those of the eyes that were taken.
use Rattle.std.proofs.Common.{◌≡◌, ◌++◌, length, vec_len}
use Rattle.team_forms.specs.Seats.{seats}
use Rattle.team_forms.proofs.teamwork.sessions_of.Given as goal

abbrev pub invariant-loop-eye : goal.invariant-loop-eye
invariant-loop-eye g l =
    (l.sessions.items ≡ seats l.hall.pairs.now l.scripts l.yielded)
    × (vec_len l.sessions ≡ length l.yielded)
    × (l.yielded ++ l.eye-iterator.rest.items ≡ l.fn.eyes.items)
