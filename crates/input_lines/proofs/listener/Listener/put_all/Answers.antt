-- What is gathered is put behind what was put before.
use Rattle.std.proofs.Common.{◌∙◌, ap, length, sym}
use Rattle.std.proofs.lemmas.Bool.{eqb-false}
use Rattle.input_lines.proofs.TurnLemmas.{left-cut, left-put}
use Rattle.input_lines.proofs.listener.Listener.put_all.Goals as goal

pub returns-in-Ok-clause-puts : goal.returns-in-Ok-clause-puts
returns-in-Ok-clause-puts g c =
    let put = c.in-Ok.ensures in
    let text = c.as_bytes.ensures in
    left-put _ _ _ _
    (λ none. eqb-false _ 0 (sym c.if-is_empty.ensures)
    (sym text.len ∙ ap length (text.value ∙ none)))
    (rw text.value at put.ok) put.count c.clear.ensures.bytes

pub returns-in-Err-clause-puts : goal.returns-in-Err-clause-puts
returns-in-Err-clause-puts g c =
    let put = c.in-Err.ensures in
    let text = c.as_bytes.ensures in
    left-cut _ _ _ _
    (λ none. eqb-false _ 0 (sym c.if-is_empty.ensures)
    (sym text.len ∙ ap length (text.value ∙ none)))
    (rw text.value at put.failed) put.rose c.clear.ensures.bytes
