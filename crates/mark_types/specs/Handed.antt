-- Words and marks of one paragraph, as the code hands them on.
use Rattle.std.specs.Prelude.{encode_utf8_all}
use Rattle.mark_types.specs.Words.{Word}
use Rattle.mark_types.specs.Marks.{LocatedWord}
use Rattle.mark_types.specs.declared.Span.{Span}
use Rattle.mark_types.specs.declared.Mark.{Mark}

-- where the word stands
abbrev pub span_of : Word → Span
span_of word = record { from = word.from; to = word.to }

-- the mark that a word of a paragraph has
abbrev pub mark_of : LocatedWord → Mark
mark_of word = record { from = word.from; to = word.to; word = encode_utf8_all word.characters }
