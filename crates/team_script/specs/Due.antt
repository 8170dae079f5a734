-- What is due of a file that is read as a script.
use Rattle.std.specs.Prelude.{ℕ, List, length, map, find, nat_lt, Option, Some, None}
use Rattle.std.specs.Prelude.{Result, Ok, Err, if◌then◌else◌}
use Rattle.std.specs.List.{list_any}
use Rattle.std.specs.Option.{option_map}
use Rattle.text_lines.specs.lists.Answers.{◌>>=◌}
use Rattle.text_lines.specs.declared.found.Line.{Line}
use Rattle.text_lines.specs.Lines.{text_of, line_texts}
use Rattle.team_script.specs.declared.fault.ScriptFault.{ScriptFault}
use Rattle.team_script.specs.declared.fault.ScriptFault.TheVariants.{Bad, LongLine, ManyPairs}
use Rattle.team_script.specs.declared.fault.ScriptFault.TheVariants.{NoMemory}
use Rattle.team_script.specs.declared.line.SessionLine.{SessionLine}
use Rattle.team_script.specs.declared.pairs.Pair.{Pair}
use Rattle.team_script.specs.Lines.{is_formless, told_in, first_bad, is_long}
use Rattle.team_script.specs.Pairs.{pairs_in, pair_limit}
use Rattle.team_script.specs.Told.{ScriptTold, told}

-- the lines of the sessions, if no line is bad
abbrev pub unless_bad : Option ℕ → List SessionLine → Result (List SessionLine) ScriptFault
unless_bad None lines = Ok lines
unless_bad (Some line) lines = Err (Bad line)

abbrev pub lines_due : List (List ℕ) → Result (List SessionLine) ScriptFault
lines_due texts = unless_bad (first_bad texts) (told_in texts)

-- the number of the first of some lines of a file that is of no form
abbrev pub first_formless : List ℕ → List Line → Option ℕ
first_formless bytes lines =
    option_map (λ line. line.number) (find (λ line. is_formless (text_of bytes line)) lines)

-- the lines of the sessions among some lines of a file, if each has a form
abbrev pub good_due : List ℕ → List Line → Result (List SessionLine) ScriptFault
good_due bytes lines =
    unless_bad (first_formless bytes lines) (told_in (map (text_of bytes) lines))

-- and if none of their texts is too long
unfoldable pub unless_long : List SessionLine → Result (List SessionLine) ScriptFault
unless_long lines = if list_any is_long lines then Err LongLine else Ok lines

-- the pairs that lines load, if they are not too many
unfoldable pub pairs_due : List SessionLine → Result (List Pair) ScriptFault
pairs_due lines =
    if nat_lt pair_limit (length (pairs_in lines)) then Err ManyPairs else Ok (pairs_in lines)

-- what is due of a file: the lines of the sessions with the pairs that they load, or the first
-- fault: a bad line, then a text that is too long, then too many pairs
unfoldable pub script_due : List ℕ → Result ScriptTold ScriptFault
script_due bytes = do
  lines ← lines_due (line_texts bytes)
  short ← unless_long lines
  pairs ← pairs_due short
  Ok (told short pairs)

-- want of memory may come at any time
abbrev pub MayComeOfScripts : ScriptFault → Type 0
MayComeOfScripts NoMemory = Unit {0}
MayComeOfScripts _ = ⊥
