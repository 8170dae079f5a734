-- Which command a line is: its first word is a name, and the words behind it are of the form that
-- goes with the name.
use Rattle.std.specs.Prelude.{◌≡◌, ℕ, ◌&&◌, List, [], ◌∷◌, codes, Option, Some, None, Result, Ok}
use Rattle.std.specs.Prelude.{Err, if◌then◌else◌}
use Rattle.std.specs.Option.{option_map}
use Rattle.std.specs.Str.{bytes_eq}
use Rattle.mark_types.specs.text_lines.Fields.{has_bytes}
use Rattle.console_lang.specs.declared.command.Command.{Command}
use Rattle.console_lang.specs.declared.command.Command.TheVariants.{Ins, Put, Sub, Del, Load, Stop}
use Rattle.console_lang.specs.declared.command.Command.TheVariants.{Ask, Own, Show, Settle, Quit}
use Rattle.console_lang.specs.declared.command.CommandFault.{CommandFault}
use Rattle.console_lang.specs.declared.command.CommandFault.TheVariants.{BadCommand, NoMemory}
use Rattle.console_lang.specs.Words.{is_blank_line, words_between_spaces, text_of_words, number_of}

-- `P TEXT`: a place, and all words behind it as a text, which is empty where there is none
abbrev pub placed_text : List (List ℕ) → Option (ℕ × List ℕ)
placed_text [] = None
placed_text (place ∷ text) = option_map (λ number. (number, text_of_words text)) (number_of place)

abbrev pub of_numbers : Option ℕ → Option ℕ → Option ℕ → List ℕ → Option (ℕ × ℕ × ℕ × List ℕ)
of_numbers (Some place) (Some from) (Some to) text = Some (place, from, to, text)
of_numbers _ _ _ text = None

-- `P FROM TO TEXT`: a place, where something begins and ends in it, and a text
abbrev pub placed_span : List (List ℕ) → Option (ℕ × ℕ × ℕ × List ℕ)
placed_span (place ∷ from ∷ to ∷ text) =
    of_numbers (number_of place) (number_of from) (number_of to) (text_of_words text)
placed_span _ = None

-- `P`: a place alone
abbrev pub lone_place : List (List ℕ) → Option ℕ
lone_place (place ∷ []) = number_of place
lone_place _ = None

-- `AFF DIC`: two names of files, of which none is empty
abbrev pub two_names : List (List ℕ) → Option (List ℕ × List ℕ)
two_names (aff ∷ dic ∷ []) = if has_bytes aff && has_bytes dic then Some (aff, dic) else None
two_names _ = None

-- nothing behind the name
abbrev pub alone : Command → List (List ℕ) → Option Command
alone command [] = Some command
alone command _ = None

-- the command with this name and these words behind it, if there is one
unfoldable pub command_named : List ℕ → List (List ℕ) → Option Command
command_named name words =
    if bytes_eq name (codes "ins") then option_map (λ said. Ins said.0 said.1) (placed_text words)
    else (if bytes_eq name (codes "put")
    then option_map (λ said. Put said.0 said.1) (placed_text words)
    else (if bytes_eq name (codes "sub") then option_map (λ said. Sub said.0 said.1 said.2 said.3)
    (placed_span words)
    else (if bytes_eq name (codes "del") then option_map Del (lone_place words)
    else (if bytes_eq name (codes "load")
    then option_map (λ said. Load said.0 said.1) (two_names words)
    else (if bytes_eq name (codes "own") then Some (Own (text_of_words words))
    else (if bytes_eq name (codes "stop") then option_map Stop (lone_place words)
    else (if bytes_eq name (codes "ask") then option_map Ask (lone_place words)
    else (if bytes_eq name (codes "show") then alone Show words
    else (if bytes_eq name (codes "settle") then alone Settle words
    else (if bytes_eq name (codes "quit") then alone Quit words
    else None))))))))))

abbrev pub command_in : List (List ℕ) → Option Command
command_in [] = None
command_in (name ∷ words) = command_named name words

-- the command that a line is, if it is one
unfoldable pub command_of : List ℕ → Option Command
command_of line = command_in (words_between_spaces line)

abbrev pub or_bad : Option Command → Result (Option Command) CommandFault
or_bad (Some command) = Ok (Some command)
or_bad None = Err BadCommand

-- what a line says: nothing where it is blank, otherwise its command, or that it is none
abbrev pub said_by : List ℕ → Result (Option Command) CommandFault
said_by line = if is_blank_line line then Ok None else or_bad (command_of line)

-- what may be answered where this is the command: it, or that there is none, or that memory is
-- wanting
abbrev pub IsFound : {T : Type 0} → Option T → Result T CommandFault → Type 0
IsFound found (Ok value) = found ≡ Some value
IsFound found (Err BadCommand) = found ≡ None
IsFound found (Err NoMemory) = Unit {0}

-- what may be answered where this is said: that, or that memory is wanting
abbrev pub IsAnswer : {T : Type 0} → Result T CommandFault → Result T CommandFault → Type 0
IsAnswer said (Ok read) = said ≡ Ok read
IsAnswer said (Err BadCommand) = said ≡ Err BadCommand
IsAnswer said (Err NoMemory) = Unit {0}
