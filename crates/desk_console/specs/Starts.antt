-- No lines lead anywhere else.
use Rattle.std.specs.Prelude.{◌≡◌, ℕ, ◌+◌, ◌≤◌, List, [], length, Option, None, Some}
use Rattle.std.proofs.Common.{arith, refl, sym, subst, add-zero, append-nil}
use Rattle.std.proofs.Math.Nat.{le_refl}
use Rattle.outside.specs.Files.{Folder}
use Rattle.board_share.specs.edit_core.Runs.{asked_of}
use Rattle.board_share.specs.Eyes.{EyeSeen, IsLater, entries_in, events_in}
use Rattle.console_lang.specs.declared.command.Command.{Command}
use Rattle.console_board.specs.Starts.{asked-nothing}
use Rattle.console_history.specs.Told.{Seat, Told}
use Rattle.desk_console.specs.Consoles.{HasTold}
use Rattle.desk_console.specs.declared.console.TheConstants.{SESSION}
use Rattle.desk_console.specs.declared.stop.Stop.{Stop}
use Rattle.desk_console.specs.declared.stop.Stop.TheVariants as stop

none-some : {X Y : Type 0} (x : X) → (o : Option X) → o ≡ None → o ≡ Some x → Y
none-some x o none some = cc

-- an eye of which nothing becomes
pub later-self : (eye : EyeSeen) → IsLater eye eye
later-self eye = record {
  number = refl;
  opening = refl;
  begins = ([], append-nil eye.run.entries);
  longer = le_refl (length eye.run.entries + entries_in eye.counts);
}

more-self : (n m : ℕ) → n + m ≤ m + n
more-self n m = omega arith

-- nothing is replied to no lines
pub told-none : (folder : Option Folder) (failed : ℕ) (stopped : Option Stop) (seat : Seat)
    → HasTold folder folder failed failed stopped seat seat stopped [] []
told-none folder failed stopped seat = record {
  replies = [];
  seen = seat;
  told = subst (λ (asked : List (Option Command)). Told folder SESSION seat asked [] seat)
      (sym asked-nothing) (refl, refl);
  text_is = refl;
  failures = subst (λ n. n ≤ failed) (sym (add-zero failed)) (le_refl failed);
  same = refl;
  later = later-self seat.eye;
  asks = more-self (events_in seat.eye.counts) (asked_of seat.eye.run.entries);
  going = λ _. refl;
  spent = λ point none some. none-some (stop.Spent point) stopped none some;
}
