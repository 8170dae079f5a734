-- Some file explains what the load gave.
use Rattle.std.proofs.Common.{Some}
use Rattle.outside.proofs.LoadLemmas.{loaded, fault-explained}
use Rattle.outside.proofs.loading.load_file.Goals as goal

pub returns-in_err-load-clause-found : goal.returns-in_err-load-clause-found
returns-in_err-load-clause-found g c =
    fault-explained c.args.limit (λ bytes. bytes.items) c.from_residual.result
    c.in_err-load.field-0.0 c.from_residual.ensures.1

pub returns-clause-found : goal.returns-clause-found
returns-clause-found g c = (
  Some c.load.new.into.items,
  loaded c.args.limit c.load.new.into.items
      c.in_ok-load.ensures.bounded,
)
