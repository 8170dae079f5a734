-- The answers to the lines of an input, one after another.
use Rattle.std.specs.Prelude.{◌≡◌, ℕ, ◌+◌, ◌-◌, Bool, false, List, [], ◌∷◌, ◌++◌}
use Rattle.std.proofs.Common.{refl}
use Rattle.spell_types.specs.declared.Lexicon.{Lexicon}
use Rattle.pipe_mode.specs.declared.PipeReply.{PipeReply}
use Rattle.pipe_mode.specs.Answers.{pipe_answer_of}

-- a pipe in the midst of its input: its dictionary, whether answers are terse, and the number of
-- the line that comes next, from 1
pub record PipeSeen : Type 0 where
  pub lexicon : Lexicon
  pub terse : Bool
  pub number : ℕ

-- before the first line answers are not terse
abbrev pub opened : Lexicon → PipeSeen
opened lexicon = record { lexicon = lexicon; terse = false; number = 1 }

-- the reply to the line that comes next
abbrev pub reply_to : PipeSeen → List ℕ → PipeReply
reply_to pipe line = pipe_answer_of pipe.lexicon pipe.terse pipe.number line

-- the pipe behind that line
abbrev pub next : PipeSeen → List ℕ → PipeSeen
next pipe line = record {
  lexicon = pipe.lexicon;
  terse = (reply_to pipe line).terse;
  number = pipe.number + 1;
}

-- the pipe behind some lines
abbrev pub pipe_behind : PipeSeen → List (List ℕ) → PipeSeen
pipe_behind pipe [] = pipe
pipe_behind pipe (line ∷ more) = pipe_behind (next pipe line) more

-- the answers to some lines, in their order
abbrev pub answers_to : PipeSeen → List (List ℕ) → List ℕ
answers_to pipe [] = []
answers_to pipe (line ∷ more) = (reply_to pipe line).text ++ answers_to (next pipe line) more

-- the answers to the lines of an input, by a dictionary
abbrev pub pipe_answers : Lexicon → List (List ℕ) → List ℕ
pipe_answers lexicon lines = answers_to (opened lexicon) lines

-- some lines have had these answers, and led from one pipe to another
pub record HasAnsweredLines (first now : PipeSeen) (lines : List (List ℕ)) (said : List ℕ) : Type
    0 where
  pub said_is : said ≡ answers_to first lines
  pub now_is : now ≡ pipe_behind first lines

-- no line has been answered yet
pub answered-none : (pipe : PipeSeen) → HasAnsweredLines pipe pipe [] []
answered-none pipe = record { said_is = refl; now_is = refl }

-- no line ends an input
abbrev pub ends_input : List ℕ → Bool
ends_input line = false

-- how many lines there are numbers for
abbrev pub lines_left_in_pipe : PipeSeen → ℕ
lines_left_in_pipe pipe = 18446744073709551615 - pipe.number
