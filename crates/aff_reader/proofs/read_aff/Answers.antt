-- What is read, and the first fault, as sets.
use Rattle.aff_reader.proofs.PassLemmas.{reads_as_said, refuses_at_first}
use Rattle.aff_reader.proofs.read_aff.Goals as goal

pub returns-clause-read : goal.returns-clause-read
returns-clause-read c =
    reads_as_said c.args.bytes.now c.read_passes.result c.read_passes.ensures.read
    c.first_faults_are_least.ensures.none

pub returns-clause-refused : goal.returns-clause-refused
returns-clause-refused c =
    refuses_at_first c.args.bytes.now c.read_passes.result c.read_passes.ensures.read
    c.first_faults_are_least.ensures.least
