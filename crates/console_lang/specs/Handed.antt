-- What the code hands on while it reads a line, as the definitions see it.
use Rattle.std.specs.Prelude.{ℕ, List, [], Option, Some, None}
use Rattle.std.specs.Borrow.{Bor}
use Rattle.console_lang.specs.declared.words.Words.{Words}
use Rattle.console_lang.specs.declared.forms.SpanWords.{SpanWords}
use Rattle.console_lang.specs.Words.{words_between_spaces}

abbrev pub words_in : Option (Bor (List ℕ)) → List (List ℕ)
words_in None = []
words_in (Some text) = words_between_spaces text.now

-- the words that are left of a line
abbrev pub words_left_of_line : Words → List (List ℕ)
words_left_of_line words = words_in words.rest

-- what a place, a span in it and a text say
abbrev pub span_parts : SpanWords → ℕ × ℕ × ℕ × List ℕ
span_parts span = (span.place, span.from, span.to, span.text.now)
