-- A text is put whole, or a front of it.
use Rattle.std.proofs.Common.{refl}
use Rattle.file_loading.specs.Ends.{Whole, Cut}
use Rattle.file_loading.proofs.ending.put.Goals as goal

pub returns-in-Ok-clause-puts : goal.returns-in-Ok-clause-puts
returns-in-Ok-clause-puts g c = Whole refl c.in-Ok.ensures.ok

pub returns-in-Err-clause-puts : goal.returns-in-Err-clause-puts
returns-in-Err-clause-puts g c = Cut c.in-Err.ensures.rose refl c.in-Err.ensures.failed
