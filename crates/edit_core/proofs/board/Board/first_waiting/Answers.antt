-- The first state that waits is that of the first paragraph that waits.
use Rattle.std.proofs.Common.{◌≡◌, ◌∙◌, sym, ap, ℕ, List, Option, None, Some, position, slice_get}
use Rattle.std.proofs.Common.{IfNone, IfSome}
use Rattle.std.specs.List.{AllByRecursion}
use Rattle.edit_core.specs.Runs.{is_waiting}
use Rattle.edit_core.specs.Seen.{standing_of}
use Rattle.edit_core.specs.declared.state.Standing.{Standing}
use Rattle.edit_core.specs.declared.state.Standing.TheVariants.{Waiting}
use Rattle.edit_core.proofs.Waiting.{none-waits, position-map, waits-at}
use Rattle.edit_core.proofs.board.Board.first_waiting.Goals as goal

if-some : (standings : List Standing) (found : Option ℕ) → found ≡ position is_waiting standings
    → IfSome found (λ place. slice_get standings place ≡ Some Waiting)
if-some standings None is = tt
if-some standings (Some place) is = waits-at standings place (sym is)

if-none : (standings : List Standing) (found : Option ℕ) → found ≡ position is_waiting standings
    → IfNone found (AllByRecursion (λ stands. ¬ (stands ≡ Waiting)) standings)
if-none standings None is = none-waits standings (sym is)
if-none standings (Some place) is = tt

pub returns-clause-first : goal.returns-clause-first
returns-clause-first g c =
    c.first_waiting_among.ensures ∙ position-map is_waiting standing_of c.self.inside.states
    ∙ ap (λ board. position is_waiting board.standings) c.self.view_is

pub returns-clause-waits : goal.returns-clause-waits
returns-clause-waits g c =
    if-some c.args.self.now.standings c.first_waiting_among.result (returns-clause-first g c)

pub returns-clause-none : goal.returns-clause-none
returns-clause-none g c =
    if-none c.args.self.now.standings c.first_waiting_among.result (returns-clause-first g c)
