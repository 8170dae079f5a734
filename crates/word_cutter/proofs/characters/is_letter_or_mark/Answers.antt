-- An ASCII character is a letter if ASCII has it as one, and no combining mark.
use Rattle.std.proofs.Common.{◌∙◌, sym}
use Rattle.std.proofs.lemmas.Bool.{ltb-true}
use Rattle.word_cutter.proofs.CharacterLemmas.{letter-or-mark-ascii}
use Rattle.word_cutter.proofs.characters.is_letter_or_mark.Goals as goal

pub returns-then-is_ascii : goal.returns-then-is_ascii
returns-then-is_ascii c = c.is_ascii_alphabetic.ensures.value
    ∙ letter-or-mark-ascii c.args.c (ltb-true _ _ (sym c.is_ascii.ensures ∙ c.if-is_ascii.true))
