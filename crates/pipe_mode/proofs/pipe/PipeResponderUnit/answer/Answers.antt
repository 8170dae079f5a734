-- A line has its reply, and the pipe goes on behind it.
use Rattle.std.proofs.Common.{◌∙◌, ◌++◌, ap, refl, subst, sym}
use Rattle.std.proofs.lemmas.Result.{err_from_is_err_and}
use Rattle.std.specs.String.{string_bytes}
use Rattle.input_lines.specs.Answers.{AnswersLine}
use Rattle.pipe_mode.specs.Pipes.{HasAnsweredLines}
use Rattle.pipe_mode.proofs.PipeLemmas.{answered-idle, answered-next}
use Rattle.pipe_mode.proofs.pipe.PipeResponderUnit.answer.Goals as goal

pub returns-in_err-reply-clause-answers : goal.returns-in_err-reply-clause-answers
unfolding AnswersLine
returns-in_err-reply-clause-answers c =
    let exit = err_from_is_err_and c.from_residual.result c.from_residual.ensures.1 in
    rw exit.1 (refl, λ _ _ _ _ led. answered-idle led)

pub returns-in_err-push_str-clause-answers : goal.returns-in_err-push_str-clause-answers
unfolding AnswersLine
returns-in_err-push_str-clause-answers c =
    let residual = c.from_residual-in_err-push_str in
    let exit = err_from_is_err_and residual.result residual.ensures.1 in
    rw exit.1 (c.in_err-push_str.ensures.bytes, λ _ _ _ _ led. answered-idle led)

pub returns-clause-answers : goal.returns-clause-answers
unfolding AnswersLine
returns-clause-answers c =
    let inside = c.self.inside in
    let reply = c.in_ok-reply.reply in (
      refl,
      (
        reply.text,
        c.in_ok-push_str.ensures.bytes
            ∙ ap (λ text. string_bytes c.args.answers.now ++ text) c.as_str.ensures.text,
        λ first _ lines said led.
            answered-next inside.speller inside.terse inside.number c.args.line.now reply
            c.in_ok-reply.ensures
            (subst (λ here. HasAnsweredLines first here lines said) (sym c.self.view_is) led),
      ),
    )
