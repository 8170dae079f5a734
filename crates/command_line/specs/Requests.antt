-- What the words of a command line ask for: one form of words for each command, a name, its
-- operands, and options behind them.
use Rattle.std.specs.Prelude.{ℕ, nat_le, List, [], ◌∷◌, length, codes, Option, Some, None}
use Rattle.std.specs.Prelude.{if◌then◌else◌}
use Rattle.std.specs.Option.{option_map}
use Rattle.std.specs.Str.{bytes_eq}
use Rattle.text_lines.specs.Fields.{decimal_of}
use Rattle.file_loading.specs.Operands.{DictionaryNamed}
use Rattle.command_line.specs.Operands.{OptionValues}
use Rattle.command_line.specs.declared.requests.Request.{Request}
use Rattle.command_line.specs.declared.requests.Request.TheVariants.{Check, Make, Edit, Listing}
use Rattle.command_line.specs.declared.requests.Request.TheVariants.{Pipe, Team}
use Rattle.file_loading.specs.declared.limits.TheConstants.{MOST_WORKERS}
use Rattle.report_forms.specs.Operands.{of_numbers}

-- ---- options

-- a number that is not above a limit
abbrev pub up_to : ℕ → Option ℕ → Option ℕ
up_to limit None = None
up_to limit (Some number) = if nat_le number limit then Some number else None

-- how many workers a word says: one or two ASCII digits, of which no number above 16 is made
abbrev pub workers_in : List ℕ → Option ℕ
workers_in number =
    if nat_le (length number) 2 then up_to MOST_WORKERS (decimal_of number) else None

-- the personal list that these words name, if they are `--own OWN`; none where there are no words
abbrev pub own_in : List (List ℕ) → Option (Option (List ℕ))
own_in [] = Some None
own_in (name ∷ own ∷ []) = if bytes_eq name (codes "--own") then Some (Some own) else None
own_in _ = None

-- what both options say
abbrev pub said_of : Option ℕ → Option (Option (List ℕ)) → Option OptionValues
said_of (Some workers) (Some own) = Some (record { workers = workers; own = own })
said_of _ _ = None

-- the options that these words are: `--workers N`, or nothing for no workers, and behind it
-- `--own OWN`, or nothing
abbrev pub options_in : List (List ℕ) → Option OptionValues
options_in (name ∷ number ∷ more) =
    if bytes_eq name (codes "--workers") then said_of (workers_in number) (own_in more)
    else said_of (Some 0) (own_in (name ∷ number ∷ more))
options_in words = said_of (Some 0) (own_in words)

-- the workers that these words ask for, if they are `--workers N` or none
abbrev pub only_workers_in : List (List ℕ) → Option ℕ
only_workers_in [] = Some 0
only_workers_in (name ∷ number ∷ []) =
    if bytes_eq name (codes "--workers") then workers_in number else None
only_workers_in _ = None

-- ---- the forms of words

-- the files of a dictionary, with the personal list that options name
abbrev pub dictionary_named : List ℕ → List ℕ → OptionValues → DictionaryNamed
dictionary_named aff dic said = record { aff = aff; dic = dic; own = said.own }

-- `check AFF DIC FILE` and options
abbrev pub check_in : List (List ℕ) → Option Request
check_in (aff ∷ dic ∷ document ∷ options) =
    option_map
    (λ said. Check (record { dictionary = dictionary_named aff dic said; document = document }) said.workers)
    (options_in options)
check_in _ = None

-- `make START SIZE`
abbrev pub make_in : List (List ℕ) → Option Request
make_in (start ∷ size ∷ []) =
    option_map Make (of_numbers (decimal_of start) (decimal_of size))
make_in _ = None

-- `edit AFF DIC` and options
abbrev pub edit_in : List (List ℕ) → Option Request
edit_in (aff ∷ dic ∷ options) =
    option_map (λ said. Edit (dictionary_named aff dic said) said.workers) (options_in options)
edit_in _ = None

-- `forms AFF DIC`
abbrev pub listing_in : List (List ℕ) → Option Request
listing_in (aff ∷ dic ∷ []) = Some (Listing (record { aff = aff; dic = dic }))
listing_in _ = None

-- `pipe AFF DIC`
abbrev pub pipe_in : List (List ℕ) → Option Request
pipe_in (aff ∷ dic ∷ []) = Some (Pipe (record { aff = aff; dic = dic; own = None }))
pipe_in _ = None

-- `team AFF DIC SCRIPT`, and `--workers N` or nothing
abbrev pub team_in : List (List ℕ) → Option Request
team_in (aff ∷ dic ∷ script ∷ options) =
    option_map (λ workers. Team (record { aff = aff; dic = dic; script = script }) workers)
    (only_workers_in options)
team_in _ = None

-- what these words ask for, if they are of one of the forms
abbrev pub asked_in : List (List ℕ) → Option Request
asked_in [] = None
asked_in (name ∷ operands) =
    if bytes_eq name (codes "check") then check_in operands
    else (if bytes_eq name (codes "make") then make_in operands
    else (if bytes_eq name (codes "edit") then edit_in operands
    else (if bytes_eq name (codes "forms") then listing_in operands
    else (if bytes_eq name (codes "pipe") then pipe_in operands
    else (if bytes_eq name (codes "team") then team_in operands
    else None)))))
