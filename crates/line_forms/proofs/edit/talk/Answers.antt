-- The dialogue ends as the reading of its input does.
use Rattle.std.proofs.Common.{◌∙◌, arith, sym}
use Rattle.input_lines.specs.Laws.{ended-weaker}
use Rattle.console_board.specs.Transcripts.{is_quit}
use Rattle.line_forms.proofs.DialogueLemmas.{closed-after, dialogue-cut, dialogue-ends, none-after}
use Rattle.line_forms.proofs.DialogueLemmas.{replied-so}
use Rattle.line_forms.proofs.edit.talk.Goals as goal

pub returns-in-Some-clause-dialogue : goal.returns-in-Some-clause-dialogue
returns-in-Some-clause-dialogue g c = λ folder files_before folder_is sooner.
    let done = c.converse-done.result in
    let over = rw c.count-count.ensures.is at c.converse-done.ensures.over in
    let counted = c.converse-done.ensures.sink_count in
    dialogue-ends _ done.ended over.0
    (ended-weaker is_quit _ _ _ done.ended over.0 (λ lines said is. replied-so folder_is sooner is)
    over.1)
    over.2 (sym c.end_of.ensures ∙ c.in-Some.is) (λ failed. omega (arith, failed, counted))
    c.put_end.ensures.puts

pub returns-in-Some-clause-closed : goal.returns-in-Some-clause-closed
returns-in-Some-clause-closed g c =
    closed-after c.converse-done.result.closed c.put_end.result c.converse-done.result.ended c.converse-done.ensures.closed
    (sym c.end_of.ensures ∙ c.in-Some.is) c.put_end.ensures.zero

pub returns-in-None-clause-dialogue : goal.returns-in-None-clause-dialogue
returns-in-None-clause-dialogue g c = λ folder files_before folder_is sooner.
    let done = c.converse-done.result in
    let over = rw c.count-count.ensures.is at c.converse-done.ensures.over in
    dialogue-cut _ done.ended over.0
    (ended-weaker is_quit _ _ _ done.ended over.0 (λ lines said is. replied-so folder_is sooner is)
    over.1)
    over.2 (sym c.end_of.ensures ∙ c.in-None.is)

pub returns-in-None-clause-closed : goal.returns-in-None-clause-closed
returns-in-None-clause-closed g c =
    none-after c.converse-done.result.closed c.converse-done.result.ended c.converse-done.ensures.closed
    (sym c.end_of.ensures ∙ c.in-None.is)
