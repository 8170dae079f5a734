-- The early passes have no fault, and the fourth has one.
use Rattle.aff_reader.specs.Grammar.{aff_read, IsRead}
use Rattle.aff_reader.proofs.PassLemmas.{read_early, read_late, handed}
use Rattle.aff_reader.proofs.read_passes.Goals as goal

pub returns-in_err-kind-clause-read : goal.returns-in_err-kind-clause-read
returns-in_err-kind-clause-read c =
    handed (IsRead (aff_read c.args.bytes.now)) c.from_residual.result c.in_err-kind.field-0.0
    c.from_residual.ensures.1
    (read_early c.args.bytes.now c.in_err-kind.field-0.0 c.in_err-kind.ensures.first)

pub returns-in-Some-clause-read : goal.returns-in-Some-clause-read
returns-in-Some-clause-read c =
    read_late c.args.bytes.now c.in_ok-kind.kind c.in_ok-kind.aliases c.deref.result.now
    c.in-Some.fault
    (cc (c.in_ok-kind.kind-is, c.in_ok-kind.ensures.read.says.kind))
    (cc (
      c.in_ok-kind.aliases-is,
      c.in_ok-kind.ensures.read.says.kind,
      c.in_ok-kind.ensures.read.says.aliases,
    ))
    (cc (c.deref.ensures, c.in_ok-kind.ensures.read.says.kept))
    c.in_ok-kind.ensures.fine
    (cc (c.in-Some.is, c.in_ok-fault.ensures.least, c.alias_sets.ensures))
