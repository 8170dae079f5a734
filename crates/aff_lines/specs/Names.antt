-- The options of .aff files: one row of a table for each.
use Rattle.std.specs.Prelude.{Bool, false, ◌||◌, List, [], ◌∷◌, ℕ, codes, Option, None, Some}
use Rattle.std.specs.Prelude.{filter, find, flat_map}
use Rattle.std.specs.Option.{option_map, option_copied, option_to_list}
use Rattle.std.specs.Str.{bytes_eq}
use denote.Enum.Bare.{sameb}
use Rattle.aff_lines.specs.contracts.names.Directive.{the_type as the_directives}
use Rattle.aff_lines.specs.contracts.names.Pass.{the_type as the_passes}
use Rattle.aff_lines.specs.declared.names.Described.{Described}
use Rattle.aff_lines.specs.declared.names.Directive.{Directive}
use Rattle.aff_lines.specs.declared.names.Form.{Form}
use Rattle.aff_lines.specs.declared.names.Pass.{Pass}
use Rattle.aff_lines.specs.declared.names.RowForm.TheVariants as Row

-- What is fixed of a directive: its names, the form of its lines, and the pass that looks at them.
-- A directive that is not built is left out.
pub record Description : Type 0 where
  pub directive : Directive
  pub name : List ℕ
  pub other_name : Option (List ℕ)
  pub form : Form
  pub pass : Pass

abbrev pub describes : Directive → List ℕ → Option (List ℕ) → Form → Pass → Description
describes directive name other_name form pass = record {
  directive = directive;
  name = name;
  other_name = other_name;
  form = form;
  pass = pass;
}

-- all directives, in the order of the enum
unfoldable pub all_directives : List Description
all_directives =
    describes Directive.Set (codes "SET") None Form.Encoding Pass.First
    ∷ describes Directive.FlagType (codes "FLAG") None Form.Kind Pass.Second
    ∷ describes Directive.FlagAliases (codes "AF") None (Form.Table Row.FlagField) Pass.Third
    ∷ describes Directive.WordCharacters (codes "WORDCHARS") None Form.Text Pass.Fourth
    ∷ describes Directive.Ignore (codes "IGNORE") None Form.Text Pass.Fourth
    ∷ describes Directive.NeedAffix (codes "NEEDAFFIX") (Some (codes "PSEUDOROOT")) Form.Flag
    Pass.Fourth
    ∷ describes Directive.Circumfix (codes "CIRCUMFIX") None Form.Flag Pass.Fourth
    ∷ describes Directive.ForbiddenWord (codes "FORBIDDENWORD") None Form.Flag Pass.Fourth
    ∷ describes Directive.KeepCase (codes "KEEPCASE") None Form.Flag Pass.Fourth
    ∷ describes Directive.Warn (codes "WARN") None Form.Flag Pass.Fourth
    ∷ describes Directive.CompoundFlag (codes "COMPOUNDFLAG") None Form.Flag Pass.Fourth
    ∷ describes Directive.CompoundBegin (codes "COMPOUNDBEGIN") None Form.Flag Pass.Fourth
    ∷ describes Directive.CompoundMiddle (codes "COMPOUNDMIDDLE") None Form.Flag Pass.Fourth
    ∷ describes Directive.CompoundLast (codes "COMPOUNDLAST") (Some (codes "COMPOUNDEND")) Form.Flag
    Pass.Fourth
    ∷ describes Directive.CompoundPermitFlag (codes "COMPOUNDPERMITFLAG") None Form.Flag Pass.Fourth
    ∷ describes Directive.CompoundForbidFlag (codes "COMPOUNDFORBIDFLAG") None Form.Flag Pass.Fourth
    ∷ describes Directive.OnlyInCompound (codes "ONLYINCOMPOUND") None Form.Flag Pass.Fourth
    ∷ describes Directive.ForceUpperCase (codes "FORCEUCASE") None Form.Flag Pass.Fourth
    ∷ describes Directive.CompoundMinimum (codes "COMPOUNDMIN") None Form.Number Pass.Fourth
    ∷ describes Directive.CompoundWordMaximum (codes "COMPOUNDWORDMAX") None Form.Number Pass.Fourth
    ∷ describes Directive.FullStrip (codes "FULLSTRIP") None Form.Switch Pass.Fourth
    ∷ describes Directive.ForbidWarn (codes "FORBIDWARN") None Form.Switch Pass.Fourth
    ∷ describes Directive.CompoundMoreSuffixes (codes "COMPOUNDMORESUFFIXES") None Form.Switch
    Pass.Fourth
    ∷ describes Directive.CheckCompoundDuplicates (codes "CHECKCOMPOUNDDUP") None Form.Switch
    Pass.Fourth
    ∷ describes Directive.CheckCompoundCase (codes "CHECKCOMPOUNDCASE") None Form.Switch Pass.Fourth
    ∷ describes Directive.CheckCompoundTriple (codes "CHECKCOMPOUNDTRIPLE") None Form.Switch
    Pass.Fourth
    ∷ describes Directive.SimplifiedTriple (codes "SIMPLIFIEDTRIPLE") None Form.Switch Pass.Fourth
    ∷ describes Directive.CheckSharps (codes "CHECKSHARPS") None Form.Switch Pass.Fourth
    ∷ describes Directive.CheckCompoundReplacements (codes "CHECKCOMPOUNDREP") None Form.Switch
    Pass.Fourth
    ∷ describes Directive.InputConversion (codes "ICONV") None (Form.Table Row.TwoTexts) Pass.Fourth
    ∷ describes Directive.Replacement (codes "REP") None (Form.Table Row.TwoTexts) Pass.Fourth
    ∷ describes Directive.Break (codes "BREAK") None (Form.Table Row.OneText) Pass.Fourth
    ∷ describes Directive.CompoundRule (codes "COMPOUNDRULE") None (Form.Table Row.OneText)
    Pass.Fourth
    ∷ describes Directive.CheckCompoundPattern (codes "CHECKCOMPOUNDPATTERN") None
    (Form.Table Row.Joint) Pass.Fourth
    ∷ describes Directive.Prefix (codes "PFX") None Form.Class Pass.Fourth
    ∷ describes Directive.Suffix (codes "SFX") None Form.Class Pass.Fourth
    ∷ describes Directive.ComplexPrefixes (codes "COMPLEXPREFIXES") None Form.LeftOut Pass.Fourth
    ∷ describes Directive.CompoundSyllable (codes "COMPOUNDSYLLABLE") None Form.LeftOut Pass.Fourth
    ∷ describes Directive.SyllableNumber (codes "SYLLABLENUM") None Form.LeftOut Pass.Fourth
    ∷ []

-- a row of the code's table
abbrev pub description_of : Described → Description
description_of row =
    describes row.directive row.name.now (option_copied row.other_name) row.form row.pass

abbrev pub directive_in : Description → Directive
directive_in row = row.directive

abbrev pub names_of_directive : Description → List (List ℕ)
names_of_directive row = row.name ∷ option_to_list row.other_name

-- the names of all directives
unfoldable pub all_names : List (List ℕ)
all_names = flat_map names_of_directive all_directives

-- whether the directives are the same
abbrev pub is_same_directive : Directive → Directive → Bool
is_same_directive directive other = sameb the_directives directive other

abbrev pub is_field_text : Option (List ℕ) → List ℕ → Bool
is_field_text None name = false
is_field_text (Some text) name = bytes_eq text name

-- whether a name is one of the row's
abbrev pub is_name_of_row : List ℕ → Description → Bool
is_name_of_row name row = bytes_eq row.name name || is_field_text row.other_name name

-- whether a name is one of a row of the code's table
abbrev pub is_described : List ℕ → Described → Bool
is_described name row = is_name_of_row name (description_of row)

abbrev pub named_in : List ℕ → List Description → Option Directive
named_in name rows = option_map directive_in (find (is_name_of_row name) rows)

-- the directive that has a name, if one has it
unfoldable pub directive_named : List ℕ → Option Directive
directive_named name = named_in name all_directives

-- whether a directive is one of the pass
abbrev pub is_of_pass : Pass → Description → Bool
is_of_pass pass row = sameb the_passes row.pass pass

-- the directives of a pass
unfoldable pub directives_in : Pass → List Description
directives_in pass = filter (is_of_pass pass) all_directives
