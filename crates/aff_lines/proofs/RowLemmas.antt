-- The rows of a file, one line after another, and which lines are rows.
use Rattle.std.proofs.Common.{◌≡◌, ◌↔◌, ℕ, ◌+◌, ◌<◌, List, [], ◌∷◌, ◌++◌, length, take, slice_get}
use Rattle.std.proofs.Common.{Option, Some, None, option_and_then, refl, sym, ap, ◌∙◌, get_or}
use Rattle.std.specs.List.{filter_map, cons_option}
use Rattle.std.specs.Option.{option_map, option_to_list}
use Rattle.std.proofs.lemmas.List.{take_more}
use Rattle.std.proofs.lemmas.List.Elements.{filter_map-append}
use Rattle.text_lines.specs.declared.found.Line.{Line}
use Rattle.text_lines.specs.Fields.{fields}
use Rattle.text_lines.specs.Lines.{text_of}
use Rattle.aff_lines.specs.declared.names.Directive.{Directive}
use Rattle.aff_lines.specs.declared.rows.DirectiveLine.{DirectiveLine}
use Rattle.aff_lines.specs.Names.{directive_named}
use Rattle.aff_lines.specs.Rows.{directive_of, row_with, row_of, row_in, IsNameOf}
use Rattle.aff_lines.specs.Rows.{BeginsWithDirective}
use Rattle.aff_lines.proofs.NameLemmas.{name-found, named-has}

one-or-none : (row : Option DirectiveLine) → cons_option row [] ≡ option_to_list row
one-or-none None = refl
one-or-none (Some row) = refl

-- a turn of the loop over the lines
pub rows-more : (bytes : List ℕ) (lines : List Line) (place : ℕ) (d : Line)
    (rows longer : List DirectiveLine) (text : List ℕ)
    → place < length lines → text ≡ text_of bytes (get_or lines place d)
    → rows ≡ filter_map (row_in bytes) (take place lines)
    → longer ≡ rows ++ option_to_list (row_of (get_or lines place d).number text)
    → longer ≡ filter_map (row_in bytes) (take (place + 1) lines)
rows-more bytes lines place d rows longer text within is so_far grown =
    let line = get_or lines place d in
    let earlier = filter_map (row_in bytes) (take place lines) in
    let whole : filter_map (row_in bytes) (take (place + 1) lines) ≡ earlier
    ++ option_to_list (row_in bytes line) =
    ap (filter_map (row_in bytes)) (take_more lines place d within)
    ∙ filter_map-append (row_in bytes) (take place lines) (line ∷ [])
    ∙ ap (λ own. earlier ++ own) (one-or-none (row_in bytes line)) in
    grown
    ∙ ap (λ found. found ++ option_to_list (row_of line.number text)) so_far
    ∙ ap (λ t. earlier ++ option_to_list (row_of line.number t)) is
    ∙ sym whole

-- a line is a row where its first field is a name

of-row : (number : ℕ) (text : List ℕ) (found : Option Directive) (directive : Directive)
    → option_map (row_with number text) found ≡ Some (row_with number text directive)
    → found ≡ Some directive
of-row number text None directive is = absurd (cc is)
of-row number text (Some found) directive is =
    let same : row_with number text found ≡ row_with number text directive = cc is in
    ap (λ (row : DirectiveLine). Some row.directive) same

begins : (text : List ℕ) (field : Option (List ℕ)) (directive : Directive)
    → slice_get (fields text) 0 ≡ field
    → option_and_then directive_named field ≡ Some directive → BeginsWithDirective directive text
begins text None directive is named = absurd (cc named)
begins text (Some name) directive is named = (name, is, named-has name directive named)

named-so : (name : List ℕ) (directive : Directive) → IsNameOf directive name
    → directive_named name ≡ Some directive
named-so name directive is = name-found is.0 name is.1 is.3 ∙ ap Some is.2

pub row-begins : (number : ℕ) (text : List ℕ) (directive : Directive)
    → (row_of number text ≡ Some (row_with number text directive)) ↔ BeginsWithDirective directive text
row-begins number text directive = (
  λ is. begins text (slice_get (fields text) 0) directive refl
      (of-row number text (directive_of text) directive is),
  λ named. ap (λ found. option_map (row_with number text) found)
      (ap (option_and_then directive_named) named.1 ∙ named-so named.0 directive named.2),
)
