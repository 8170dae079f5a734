-- The dialogue ends as the reading of its input does.
use Rattle.std.proofs.Common.{◌∙◌, arith, ap, sym}
use Rattle.input_lines.specs.Laws.{ended-weaker}
use Rattle.pipe_mode.specs.Pipes.{answers_to, ends_input}
use Rattle.line_forms.proofs.DialogueLemmas.{dialogue-cut, dialogue-ends}
use Rattle.line_forms.proofs.pipe.answer_input.Goals as goal

pub returns-in-Some-clause-dialogue : goal.returns-in-Some-clause-dialogue
returns-in-Some-clause-dialogue g c =
    let over = c.answer_lines-ended.ensures.over in
    let counted = c.answer_lines-ended.ensures.sink_count in
    dialogue-ends _ c.answer_lines-ended.result over.0
    (ended-weaker ends_input _ _ _ c.answer_lines-ended.result over.0
    (λ lines said is. is.said_is ∙ ap (λ pipe. answers_to pipe lines) c.requires) over.1)
    over.2 (sym c.end_of.ensures ∙ c.in-Some.is) (λ failed. omega (arith, failed, counted))
    c.put_end.ensures.puts

pub returns-in-None-clause-dialogue : goal.returns-in-None-clause-dialogue
returns-in-None-clause-dialogue g c =
    let over = c.answer_lines-ended.ensures.over in
    dialogue-cut _ c.answer_lines-ended.result over.0
    (ended-weaker ends_input _ _ _ c.answer_lines-ended.result over.0
    (λ lines said is. is.said_is ∙ ap (λ pipe. answers_to pipe lines) c.requires) over.1)
    over.2 (sym c.end_of.ensures ∙ c.in-None.is)
