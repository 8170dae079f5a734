use Rattle.std.proofs.Common.{rules}
use Rattle.outside_doubles.proofs.memory.MemSinkSink.put.Goals as goal

-- a put that fails takes the front of that length
pub returns-then-append-clause-failed : goal.returns-then-append-clause-failed
returns-then-append-clause-failed c = (c.args.self.now.taken, search rules)
