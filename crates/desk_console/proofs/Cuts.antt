-- What cuts a command off.
use Rattle.std.proofs.Common.{◌≡◌}
use Rattle.board_share.specs.Eyes.{EyeSeen}
use Rattle.console_history.specs.Told.{GoesOneOn}
use Rattle.desk_console.specs.Consoles.{IsCutOff}
use Rattle.desk_console.specs.declared.stop.Stop.{Stop}
use Rattle.desk_console.specs.declared.stop.Stop.TheVariants as stop

-- want of memory
pub cut-wanting : (old new : EyeSeen) {why : Stop} → GoesOneOn old new → why ≡ stop.Wanting
    → IsCutOff old new why
cut-wanting old new goes is =
    record { goes = goes; spent = λ point spent. absurd (cc) }
