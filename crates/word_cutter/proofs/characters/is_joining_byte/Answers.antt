-- The table has the class of each byte.
use Rattle.std.proofs.Common.{arith}
use Rattle.word_cutter.proofs.CharacterLemmas.{joining-class}
use Rattle.word_cutter.proofs.characters.is_joining_byte.Goals as goal

pub returns : goal.returns
returns c = joining-class c.args.byte (omega arith)
