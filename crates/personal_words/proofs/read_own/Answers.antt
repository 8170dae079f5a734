-- What is read, and the first fault, as sets.
use Rattle.personal_words.proofs.FaultLemmas.{reads-as-said, refuses-at-first}
use Rattle.personal_words.proofs.read_own.Goals as goal

pub returns-clause-read : goal.returns-clause-read
returns-clause-read c =
    reads-as-said c.args.affixes.now c.args.bytes.now c.read_file.result c.read_file.ensures

pub returns-clause-refused : goal.returns-clause-refused
returns-clause-refused c =
    refuses-at-first c.args.affixes.now c.args.bytes.now c.read_file.result c.read_file.ensures
