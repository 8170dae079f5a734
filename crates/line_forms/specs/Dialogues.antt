-- What is replied in a dialogue over a desk, and what the history of the desk is then.
use Rattle.std.specs.Prelude.{◌≡◌, ℕ, ◌+◌, ◌≤◌, List, Option, None, IfSome, IsSome}
use Rattle.outside.specs.Files.{Folder}
use Rattle.own_dictionary.specs.personal_words.Dictionaries.{OwnSeen}
use Rattle.board_share.specs.edit_core.Runs.{Run}
use Rattle.input_lines.specs.declared.reading_end.ReadingEnd.{ReadingEnd}
use Rattle.input_lines.specs.declared.reading_end.ReadingEnd.TheVariants.{Finished}
use Rattle.console_lang.specs.declared.reply.Reply.{Reply}
use Rattle.console_board.specs.Transcripts.{IsTranscript, commands_asked_by, failures_in}
use Rattle.console_board.specs.Transcripts.{written_of}
use Rattle.console_history.specs.Followed.{Given, IsConsoleHistory}
use Rattle.desk_console.specs.declared.console.TheConstants.{SESSION}

-- what a dialogue has: so many workers beside the console, the dictionary that the console opens
-- with, and the files, with how often they had failed before and behind it
pub record Setting : Type 0 where
  pub workers : ℕ
  pub dictionary : OwnSeen
  pub folder : Option Folder
  pub failed : ℕ
  pub failed_now : ℕ

-- its console, whose number is behind those of the workers
abbrev pub given_in : Setting → Given
given_in setting = record {
  workers = setting.workers;
  folder = setting.folder;
  by = setting.workers;
  session = SESSION;
}

-- These lines were replied to so. Where the history of the desk is known, it is that of the console
-- with these commands and replies. The files failed as often at least as was told.
pub record AreReplied (setting : Setting) (closed : Option Run) (lines : List (List ℕ))
    (said : List ℕ) : Type 0 where
  pub replies : List Reply
  pub said_is : said ≡ written_of replies
  pub transcript : IsTranscript setting.workers setting.folder setting.dictionary.base
      setting.dictionary.own lines replies
  pub history : IfSome closed
      (IsConsoleHistory (given_in setting) setting.dictionary (commands_asked_by lines) replies)
  pub failures : setting.failed + failures_in replies ≤ setting.failed_now

-- the history is known exactly where all of the input was read
abbrev pub IsClosedAt : ReadingEnd → Option Run → Type 0
IsClosedAt Finished closed = IsSome closed
IsClosedAt ended closed = closed ≡ None
