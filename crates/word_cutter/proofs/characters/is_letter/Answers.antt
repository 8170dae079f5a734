-- An ASCII character is a letter if ASCII has it as one.
use Rattle.std.proofs.Common.{◌∙◌, sym}
use Rattle.std.proofs.lemmas.Bool.{ltb-true}
use Rattle.word_cutter.proofs.CharacterLemmas.{letter-ascii}
use Rattle.word_cutter.proofs.characters.is_letter.Goals as goal

pub returns-then-is_ascii : goal.returns-then-is_ascii
returns-then-is_ascii c = c.is_ascii_alphabetic.ensures.value
    ∙ sym (letter-ascii c.args.c (ltb-true _ _ (sym c.is_ascii.ensures ∙ c.if-is_ascii.true)))
