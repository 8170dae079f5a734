-- A report is put, and nothing behind it.
use Rattle.std.proofs.Common.{◌==◌, ◌++◌, refl, append-nil, Bool, true, false, List, ℕ, Option}
use Rattle.std.proofs.Common.{if◌then◌else◌}
use Rattle.file_loading.specs.Ends.{IsOrWanting, IsPut, status_at, tail_of}
use Rattle.file_loading.specs.declared.ending.End.{End}
use Rattle.file_loading.specs.declared.ending.End.TheVariants.{Quiet, Marked}
use Rattle.report_forms.proofs.printing.put_outcome.Goals as goal

-- an end without a last line is put with what stands before it
without-tail : {text : List ℕ} {sink_failed : Type 0} {before now : Option (List ℕ)} {status : ℕ}
    (quiet : Bool)
    → IsPut (status_at (if quiet then Quiet else Marked)) text sink_failed before now status
    → (end : End) × IsOrWanting (if quiet then Quiet else Marked) end
    × IsPut (status_at end) (text ++ tail_of end) sink_failed before now status
without-tail {text = text} true put = (Quiet, refl, rw (append-nil text) put)
without-tail {text = text} false put = (Marked, refl, rw (append-nil text) put)

pub returns-in-Ok-clause-puts : goal.returns-in-Ok-clause-puts
returns-in-Ok-clause-puts g c =
    rw c.in-Ok.is (without-tail (c.in-Ok.report.marks == 0) c.put_report.ensures.puts)
