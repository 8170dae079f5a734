-- An event that is published is told with the text's version.
use Rattle.std.proofs.Common.{refl}
use Rattle.console_history.specs.Told.{Taken}
use Rattle.desk_console.proofs.console.DeskConsole.publish.Goals as goal

pub returns-in-Ok-clause-told : goal.returns-in-Ok-clause-told
returns-in-Ok-clause-told g c =
    Taken c.in-Ok.told (record {
      later = c.publish.ensures.later;
      counts = c.in-Ok.ensures.counted;
      published = c.in-Ok.ensures.published;
    }) refl
