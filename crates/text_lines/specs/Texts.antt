-- The texts of the lines of a text, cut at its line feeds.
use Rattle.std.specs.Prelude.{ℕ, List, [], ◌∷◌, length, ◌==◌, if◌then◌else◌}
use Rattle.std.specs.List.{slice_split}
use Rattle.std.specs.Str.Lines.{strip_carriage_return}
use Rattle.text_lines.specs.Lines.{is_line_feed}

-- each piece between line feeds is a line, but for a last one without bytes
abbrev pub stripped : List (List ℕ) → List (List ℕ)
stripped [] = []
stripped (piece ∷ []) = if length piece == 0 then [] else strip_carriage_return piece ∷ []
stripped (piece ∷ next ∷ more) = strip_carriage_return piece ∷ stripped (next ∷ more)

unfoldable pub texts_in : List ℕ → List (List ℕ)
texts_in text = stripped (slice_split is_line_feed text)
