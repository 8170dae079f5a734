-- What is found among the rows is the first fault of the file.
use Rattle.std.proofs.Common.{◌∙◌}
use Rattle.aff_lines.proofs.ReadLemmas.{first_of_file}
use Rattle.aff_lines.proofs.read_early.Goals as goal

pub returns-in-Some-clause-first : goal.returns-in-Some-clause-first
returns-in-Some-clause-first c =
    first_of_file c.args.bytes.now c.in_ok-found.found.bad c.deref.result.now c.deref-2.result.now _
    c.in_ok-found.ensures.bad (c.deref.ensures ∙ c.in_ok-found.ensures.good)
    (cc (c.deref-2.ensures, c.in_ok-rows.ensures)) c.in-Some.ensures

pub returns-clause-fine : goal.returns-clause-fine
returns-clause-fine c =
    first_of_file c.args.bytes.now c.in_ok-found.found.bad c.deref.result.now c.deref-2.result.now _
    c.in_ok-found.ensures.bad (c.deref.ensures ∙ c.in_ok-found.ensures.good)
    (cc (c.deref-2.ensures, c.in_ok-rows.ensures)) c.in_default.ensures
