-- Which pairs of dictionary files the lines of a script load.
use Rattle.std.specs.Prelude.{◌≡◌, ℕ, ◌&&◌, Bool, true, not, List, [], ◌∷◌, ◌++◌, filter, Contains}
use Rattle.std.specs.Prelude.{Option, Some, None, Result, Ok, Err}
use Rattle.std.specs.List.{filter_map, list_any}
use Rattle.std.specs.Str.{bytes_eq}
use Rattle.console_lang.specs.declared.command.Command.{Command}
use Rattle.console_lang.specs.declared.command.Command.TheVariants.{Load}
use Rattle.console_lang.specs.declared.command.CommandFault.{CommandFault}
use Rattle.console_lang.specs.CommandLines.{IsLineOf}
use Rattle.console_lang.specs.Commands.{said_by}
use Rattle.team_script.specs.declared.line.SessionLine.{SessionLine}
use Rattle.team_script.specs.declared.pairs.Pair.{Pair}

-- how many different pairs a script loads at most
abbrev pub pair_limit : ℕ
pair_limit = 4

-- the pair that a command loads, if it is `load AFF DIC`
abbrev pub loads : Command → Option Pair
loads (Load aff dic) = Some (record { aff = aff; dic = dic })
loads _ = None

-- the pair that a line of the console loads, by what it says
abbrev pub loaded : Result (Option Command) CommandFault → Option Pair
loaded (Ok (Some command)) = loads command
loaded (Ok None) = None
loaded (Err _) = None

-- the pair that a session's line loads
abbrev pub loaded_by : SessionLine → Option Pair
loaded_by line = loaded (said_by line.text)

-- two pairs are the same where both names are equal
abbrev pub is_same : Pair → Pair → Bool
is_same pair other = bytes_eq pair.aff other.aff && bytes_eq pair.dic other.dic

-- whether a pair is the same as one of these
abbrev pub is_pair_among : List Pair → Pair → Bool
is_pair_among pairs pair = list_any (λ other. is_same other pair) pairs

-- the pair that a text loads, if it loads one, is among these
abbrev pub LoadsAmong : List Pair → List ℕ → Type 0
LoadsAmong pairs text =
    (pair : Pair) → loaded (said_by text) ≡ Some pair → is_pair_among pairs pair ≡ true

-- each pair of the list where it first comes, and not again
abbrev pub each_pair_once : List Pair → List Pair
each_pair_once [] = []
each_pair_once (pair ∷ more) = pair ∷ filter (λ other. not (is_same pair other)) (each_pair_once more)

-- the pairs that lines load, whichever session they are for, in the order of their first naming
unfoldable pub pairs_in : List SessionLine → List Pair
pairs_in lines = each_pair_once (filter_map loaded_by lines)

-- a line is `load AFF DIC`, with the names of this pair
abbrev pub IsLoad : Pair → SessionLine → Type 0
IsLoad pair line = IsLineOf (Load pair.aff pair.dic) line.text

-- one of these lines loads the pair
abbrev pub IsPairNamed : List SessionLine → Pair → Type 0
IsPairNamed lines pair = (line : SessionLine) × Contains lines line × IsLoad pair line

-- a list begins with another one
abbrev pub Begins : List Pair → List Pair → Type 0
Begins front pairs = (more : List Pair) × (pairs ≡ front ++ more)
