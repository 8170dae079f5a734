-- The table has the class of each byte.
use Rattle.std.proofs.Common.{arith}
use Rattle.word_cutter.proofs.CharacterLemmas.{letter-class}
use Rattle.word_cutter.proofs.characters.is_letter_byte.Goals as goal

pub returns : goal.returns
returns c = letter-class c.args.byte (omega arith)
