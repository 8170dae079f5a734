-- The lines of each reply, every one with the line feed that ends it.
use Rattle.std.specs.Prelude.{ℕ, ◌+◌, List, [], ◌∷◌, ◌++◌, codes}
use Rattle.std.specs.Fmt.{decimal}
use Rattle.std.specs.List.{flat_map}
use Rattle.aff_lines.specs.Faults.{why_name as aff_why_name}
use Rattle.dic_reader.specs.Faults.{dic_cause_name}
use Rattle.personal_words.specs.Faults.{line_why_name as own_why_name}
use Rattle.mark_types.specs.declared.Mark.{Mark}
use Rattle.console_lang.specs.declared.reply.ShownPara.{ShownPara}
use Rattle.console_lang.specs.declared.reply.ShownPara.TheVariants.{Pending, Finished}
use Rattle.console_lang.specs.declared.reply.Reply.{Reply}
use Rattle.console_lang.specs.declared.reply.Reply.TheVariants.{Done, Dict, Shown, NoCommand}
use Rattle.console_lang.specs.declared.reply.Reply.TheVariants.{NoPlace, NoGone, NoBehind}
use Rattle.console_lang.specs.declared.reply.Reply.TheVariants.{NoBadSpan, NoTooLong, NoFull}
use Rattle.console_lang.specs.declared.reply.Reply.TheVariants.{NoFinished, NoParked, NoNotParked}
use Rattle.console_lang.specs.declared.reply.Reply.TheVariants.{NoMissing, NoAff, NoDic, NoFiles}
use Rattle.console_lang.specs.declared.reply.Reply.TheVariants.{NoOwn, NoLarge}

-- words and a number
abbrev pub number_line : List ℕ → ℕ → List ℕ
number_line words number = words ++ (codes " " ++ (decimal number ++ codes "\n"))

-- words, the line of a file, and the cause of its fault
abbrev pub fault_line : List ℕ → ℕ → List ℕ → List ℕ
fault_line words line why =
    words ++ (codes " " ++ (decimal line ++ (codes " " ++ (why ++ codes "\n"))))

-- words and a cause
abbrev pub cause_line : List ℕ → List ℕ → List ℕ
cause_line words why = words ++ (codes " " ++ (why ++ codes "\n"))

-- a mark: the paragraph's number, the first byte and the byte past the end, and the word
abbrev pub reply_mark_line : ℕ → Mark → List ℕ
reply_mark_line number mark =
    decimal number
    ++ (codes " "
    ++ (decimal mark.from
    ++ (codes " " ++ (decimal mark.to ++ (codes " " ++ (mark.word ++ codes "\n"))))))

-- a paragraph: a line for each mark, or a line with a question mark where it is not checked
abbrev pub shown_paragraph_lines : ℕ → ShownPara → List ℕ
shown_paragraph_lines number Pending = decimal number ++ codes " ?\n"
shown_paragraph_lines number (Finished marks) = flat_map (reply_mark_line number) marks

-- paragraphs, of which the first has this number
abbrev pub paragraphs_from : ℕ → List ShownPara → List ℕ
paragraphs_from number [] = []
paragraphs_from number (paragraph ∷ more) =
    shown_paragraph_lines number paragraph ++ paragraphs_from (number + 1) more

-- the lines of a reply
unfoldable pub reply_text : Reply → List ℕ
reply_text (Done text) = number_line (codes "ok") text
reply_text (Dict dict) = number_line (codes "dict") dict
reply_text (Shown text dict paragraphs) =
    codes "text "
    ++ (decimal text
    ++ (codes " dict "
    ++ (decimal dict ++ (codes "\n" ++ (paragraphs_from 1 paragraphs ++ codes ".\n")))))
reply_text NoCommand = codes "no Command\n"
reply_text (NoPlace count) = number_line (codes "no Place") count
reply_text NoGone = codes "no Gone\n"
reply_text (NoBehind rev) = number_line (codes "no Behind") rev
reply_text (NoBadSpan length) = number_line (codes "no BadSpan") length
reply_text (NoTooLong would) = number_line (codes "no TooLong") would
reply_text (NoFull count) = number_line (codes "no Full") count
reply_text NoFinished = codes "no Finished\n"
reply_text NoParked = codes "no Parked\n"
reply_text NoNotParked = codes "no NotParked\n"
reply_text NoMissing = codes "no Missing\n"
reply_text (NoAff line why) = fault_line (codes "no aff") line (aff_why_name why)
reply_text (NoDic line why) = fault_line (codes "no dic") line (dic_cause_name why)
reply_text (NoOwn why) = cause_line (codes "no own") (own_why_name why)
reply_text NoFiles = codes "no Files\n"
reply_text NoLarge = codes "no Large 16777216\n"
