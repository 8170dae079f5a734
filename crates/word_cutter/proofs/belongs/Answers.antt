-- A letter belongs to a word wherever it stands.
use Rattle.std.proofs.Common.{◌∙◌, sym}
use Rattle.mark_types.specs.Words.{first_of}
use Rattle.std.specs.Str.{chars}
use Rattle.word_cutter.proofs.CharacterLemmas.{letter-belongs}
use Rattle.word_cutter.proofs.belongs.Goals as goal

pub returns-then-is_letter : goal.returns-then-is_letter
returns-then-is_letter c =
    sym (letter-belongs c.args.wordchars.now c.args.before c.args.c
    (first_of (chars c.args.behind.now))
    (sym c.is_letter.ensures ∙ c.if-is_letter.true))
