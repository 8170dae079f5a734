-- So far the eyes and texts of sessions are gathered, and why the first was stopped.
use Rattle.std.proofs.Common.{◌≡◌, ◌++◌, map}
use Rattle.std.specs.String.{string_bytes}
use Rattle.team_forms.specs.Seats.{first_stop}
use Rattle.team_forms.proofs.teamwork.gather.Given as goal

abbrev pub invariant-loop-session : goal.invariant-loop-session
invariant-loop-session g l =
    (l.eyes.items ≡ l.fn.eyes.items ++ map (λ session. session.eye) l.yielded)
    × (map string_bytes l.texts.items ≡ map (λ session. session.text) l.yielded)
    × (l.stopped ≡ first_stop l.yielded)
