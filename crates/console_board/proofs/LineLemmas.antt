-- What a line says, and the texts of its command.
use Rattle.std.proofs.Common.{◌≡◌, refl, sym, ap, subst, inl, inr, ◌↔◌, ℕ, ◌+◌, ◌-◌}
use Rattle.std.proofs.Common.{◌≤◌, Bool, true, false, List, [], ◌∷◌, ◌++◌, append_assoc}
use Rattle.std.proofs.Common.{length, codes, Option, Some, None, Result, Ok, Err, if◌then◌else◌}
use Rattle.std.proofs.Common.{arith}
use Rattle.std.specs.Str.{is_utf8}
use Rattle.edit_core.specs.paragraph_text.Paragraphs.{HasNoBreak}
use Rattle.console_lang.specs.CommandLines.{IsTail, IsPlacedText, IsLineOf}
use Rattle.console_lang.specs.Commands.{command_of, or_bad}
use Rattle.console_lang.specs.Words.{is_blank_line}
use Rattle.console_lang.specs.declared.command.Command.{Command}
use Rattle.console_lang.specs.declared.command.Command.TheVariants as command
use Rattle.console_lang.specs.declared.command.CommandFault.{CommandFault}
use Rattle.console_lang.specs.declared.command.CommandFault.TheVariants.{BadCommand}
use Rattle.input_lines.specs.declared.limits.TheConstants.{LINE_LIMIT}
use Rattle.console_board.specs.Transcripts.{HasWholeText}
use Rattle.console_board.specs.Transcripts.{is_quit, line_says}
use Rattle.console_board.specs.Transcripts.{quits}

-- ---- what a line says

-- what the law of the console's words says: a line is read as a command exactly where it is one of
-- the command's lines
abbrev pub HaveTheirLines : Type 0
HaveTheirLines =
    (command : Command) (line : List ℕ) → (command_of line ≡ Some command) ↔ IsLineOf command line

-- a line that says a command is one of the command's lines
line-of : HaveTheirLines → (line : List ℕ) {asked : Command} → line_says line ≡ Ok (Some asked)
    → IsLineOf asked line
line-of theirs line {asked} says =
    (theirs asked line).0 (by (is_utf8 line) (is_blank_line line) (command_of line) says)
  where
    by : (text blank : Bool) (found : Option Command)
        → (if text then (if blank then Ok None else or_bad found) else Err BadCommand)
        ≡ Ok (Some asked)
        → found ≡ Some asked
    by true false (Some other) is = cc
    by true false None is = absurd (cc)
    by true true found is = absurd (cc)
    by false blank found is = absurd (cc)

-- what ends the console is `quit`
quits-quit : (says : Result (Option Command) CommandFault) → quits says ≡ true
    → says ≡ Ok (Some command.Quit)
quits-quit (Ok (Some command.Quit)) is = refl
quits-quit _ is = absurd (cc)

-- a line of `quit` has four bytes
pub quit-is-short : HaveTheirLines → (line : List ℕ) → is_quit line ≡ true
    → length line ≤ LINE_LIMIT
quit-is-short theirs line is =
    let four = ap length (line-of theirs line (quits-quit (line_says line) is)) in
    omega arith

-- ---- the text of a command

-- what is behind some bytes has no line feed where all of them have none
no-break-back : (front back : List ℕ) → HasNoBreak (front ++ back) → HasNoBreak back
no-break-back [] back whole = whole
no-break-back (byte ∷ front) back whole = no-break-back front back whole.1

text-no-break : {text tail : List ℕ} (front : List ℕ) → IsTail text tail
    → HasNoBreak (front ++ tail) → HasNoBreak text
text-no-break {tail = tail} front (inl spaced) whole =
    (subst HasNoBreak spaced (no-break-back front tail whole)).1
text-no-break front (inr none) whole = subst HasNoBreak (sym none.0) tt

-- no text of a command has a line feed that its line has not
pub whole-text : HaveTheirLines → (line : List ℕ) {asked : Command} → HasNoBreak line
    → line_says line ≡ Ok (Some asked) → HasWholeText asked
whole-text theirs line {asked} whole says = by asked (line-of theirs line says)
  where
    placed : {name : List ℕ} {place : ℕ} {text : List ℕ} → IsPlacedText name place text line
        → HasNoBreak text
    placed {name} is =
        let parts : line ≡ (name ++ (codes " " ++ is.digits)) ++ is.tail =
        rw is.line_is (simp append_assoc) in
        text-no-break (name ++ (codes " " ++ is.digits)) is.ends (subst HasNoBreak parts whole)

    by : (asked : Command) → IsLineOf asked line → HasWholeText asked
    by (command.Ins place text) is = placed is
    by (command.Put place text) is = placed is
    by (command.Sub place from to text) is =
        let front : List ℕ =
        codes "sub"
        ++ (codes " "
        ++ (is.place_digits ++ (codes " " ++ (is.from_digits ++ (codes " " ++ is.to_digits)))))
        in
        let parts : line ≡ front ++ is.tail = rw is.line_is (simp append_assoc) in
        text-no-break front is.ends (subst HasNoBreak parts whole)
    by _ is = tt
