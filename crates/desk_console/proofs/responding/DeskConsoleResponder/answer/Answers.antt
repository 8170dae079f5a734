-- A line is replied to as it says, and lines lead on by it.
use Rattle.std.proofs.Common.{◌∙◌, [], ◌∷◌, Err, Ok, Some, append-nil, ap, refl, subst, sym}
use Rattle.std.proofs.Math.Nat.{le_refl}
use Rattle.std.proofs.lemmas.Result.{err_from_is_err_and}
use Rattle.console_lang.specs.Commands.{IsAnswer}
use Rattle.console_lang.specs.declared.reply.Reply.TheVariants.{NoCommand}
use Rattle.input_lines.specs.Answers.{AnswersLine}
use Rattle.console_board.specs.Starts.{asked-nothing}
use Rattle.console_board.specs.Transcripts.{line_says, quits}
use Rattle.desk_console.proofs.Told.{asked-line, idle-on, none-failed, other-goes-on, replied-on}
use Rattle.desk_console.proofs.Told.{stopped-on}
use Rattle.desk_console.proofs.responding.DeskConsoleResponder.answer.Goals as goal

pub returns-in_default-clause-answers : goal.returns-in_default-clause-answers
unfolding AnswersLine
returns-in_default-clause-answers g c =
    (refl, λ _ _ _ _ led. idle-on led [] asked-nothing refl (le_refl _))

pub returns-then-is_quit-clause-answers : goal.returns-then-is_quit-clause-answers
unfolding AnswersLine
returns-then-is_quit-clause-answers g c =
    let says = c.in-Ok-Some.ensures ∙ ap Ok c.in-Ok-Some.field-0-is in (
      ap quits says ∙ ap (λ command. quits (Ok (Some command))) c.if-is_quit.ensures.quit,
      refl,
      λ _ _ _ _ led. idle-on led [] asked-nothing refl (le_refl _),
    )

pub returns-in_err-reply-in-Ok-Some-clause-answers :
    goal.returns-in_err-reply-in-Ok-Some-clause-answers
unfolding AnswersLine
returns-in_err-reply-in-Ok-Some-clause-answers g c =
    let wanting = c.in_err-reply-in-Ok-Some.ensures in
    let exit = err_from_is_err_and c.from_residual.result c.from_residual.ensures.1 in
    rw exit.1 (
      wanting.silent,
      λ _ _ _ _ led.
          stopped-on led c.in-None.is wanting.stopped c.requires.room wanting.same wanting.count,
    )

pub returns-in_ok-reply-in-Ok-Some-clause-answers :
    goal.returns-in_ok-reply-in-Ok-Some-clause-answers
unfolding AnswersLine
returns-in_ok-reply-in-Ok-Some-clause-answers g c =
    let line = c.args.line.now in
    let says = c.in-Ok-Some.ensures ∙ ap Ok c.in-Ok-Some.field-0-is in
    let done = c.in_ok-reply-in-Ok-Some.ensures in (
      ap quits says ∙ other-goes-on c.in-Ok-Some.command c.if-is_quit.ensures.other,
      (
        _,
        done.replied.text_is,
        λ _ _ _ _ led.
            replied-on led c.told_consoles_are_followed.ensures.one_more
            c.told_commands_go_one_on.ensures.same c.in-None.is line done.replied.reply
            (asked-line line says) done.replied.told refl done.replied.failures done.same
            done.going,
      ),
    )

pub returns-in-Ok-None-clause-answers : goal.returns-in-Ok-None-clause-answers
unfolding AnswersLine
returns-in-Ok-None-clause-answers g c =
    let line = c.args.line.now in
    let says = c.in-Ok-None.ensures ∙ ap Ok c.in-Ok-None.field-0-is in (
      ap quits says,
      (
        [],
        sym (append-nil _),
        λ _ _ _ _ led. idle-on led (line ∷ []) (asked-line line says) refl (le_refl _),
      ),
    )

pub returns-in_err-push_reply-in-Err-BadCommand-clause-answers :
    goal.returns-in_err-push_reply-in-Err-BadCommand-clause-answers
unfolding AnswersLine
returns-in_err-push_reply-in-Err-BadCommand-clause-answers g c =
    let residual = c.from_residual-in_err-push_reply-in-Err-BadCommand in
    let exit = err_from_is_err_and residual.result residual.ensures.1 in
    rw exit.1 (
      c.in_err-push_reply-in-Err-BadCommand.ensures.kept,
      λ _ _ _ _ led. idle-on led [] asked-nothing refl (le_refl _),
    )

pub returns-in_ok-push_reply-in-Err-BadCommand-clause-answers :
    goal.returns-in_ok-push_reply-in-Err-BadCommand-clause-answers
unfolding AnswersLine
returns-in_ok-push_reply-in-Err-BadCommand-clause-answers g c =
    let line = c.args.line.now in
    let bad = c.in-Err-BadCommand in
    let says = subst (λ fault. IsAnswer (line_says line) (Err fault)) bad.field-0-is bad.ensures in
    let added = c.in_ok-push_reply-in-Err-BadCommand.ensures.added in (
      ap quits says,
      (
        _,
        added,
        λ _ _ _ _ led.
            replied-on led c.told_consoles_are_followed.ensures.one_more
            c.told_commands_go_one_on.ensures.same c.in-None.is line NoCommand
            (asked-line line says) (refl, refl) refl (none-failed _) refl c.in-None.is,
      ),
    )

pub returns-in-Err-NoMemory-clause-answers : goal.returns-in-Err-NoMemory-clause-answers
unfolding AnswersLine
returns-in-Err-NoMemory-clause-answers g c =
    (refl, λ _ _ _ _ led. idle-on led [] asked-nothing refl (le_refl _))
