-- What a script tells its sessions, and what every script meets.
use Rattle.std.specs.Prelude.{◌≡◌, ◌≤◌, List, length, All}
use Rattle.team_script.specs.declared.line.SessionLine.{SessionLine}
use Rattle.team_script.specs.declared.pairs.Pair.{Pair}
use Rattle.team_script.specs.Lines.{HaveShort, HaveWhole, IsNumbered}
use Rattle.team_script.specs.Pairs.{pair_limit, pairs_in}

-- the lines of the sessions in the order of the file, and the pairs in the order of first naming
pub record ScriptTold : Type 0 where
  pub lines : List SessionLine
  pub pairs : List Pair

abbrev pub told : List SessionLine → List Pair → ScriptTold
told lines pairs = record { lines = lines; pairs = pairs }

-- the pairs are those that the lines load, the sessions are numbered from 1 to 16, no text has a
-- line feed, and no limit is passed
pub record IsScriptTold (script : ScriptTold) : Type 0 where
  pub loaded : script.pairs ≡ pairs_in script.lines
  pub few : length script.pairs ≤ pair_limit
  pub short : HaveShort script.lines
  pub sessions : All IsNumbered script.lines
  pub whole : HaveWhole script.lines
