-- A line keeps the items read, or has the first fault.
use Rattle.std.proofs.Common.{◌∙◌, sym, arith}
use Rattle.personal_words.proofs.FileLemmas.{handed}
use Rattle.personal_words.proofs.TurnLemmas.{turn-at, read-past, read-more, told-own, told-many}
use Rattle.personal_words.proofs.TurnLemmas.{read-all}
use Rattle.personal_words.proofs.read_items.Goals as goal

pub loop-line-preserved-then-is_blank : goal.loop-line-preserved-then-is_blank
loop-line-preserved-then-is_blank c =
    read-past c.args.bytes.now c.args.lines.now c.loop-line.line-index c.loop-line-test.true
    c.line_text-text.ensures (sym c.if-is_blank.ensures) c.loop-line.invariant

pub returns-in_err-item-clause-read : goal.returns-in_err-item-clause-read
returns-in_err-item-clause-read c =
    let turn = turn-at c.args.bytes.now c.args.lines.now c.loop-line.line-index c.requires.rising
    c.loop-line-test.true c.line_text-text.ensures (sym c.if-is_blank.ensures) in
    let fault = c.in_err-item.field-0.0 in
    handed _ c.from_residual.result fault c.from_residual.ensures.1
    (told-own fault turn c.loop-line.invariant c.in_err-item.ensures.read)

pub returns-then-len-limit-clause-read : goal.returns-then-len-limit-clause-read
returns-then-len-limit-clause-read c =
    let turn = turn-at c.args.bytes.now c.args.lines.now c.loop-line.line-index c.requires.rising
    c.loop-line-test.true c.line_text-text.ensures (sym c.if-is_blank.ensures) in
    told-many c.in_ok-item.item turn c.loop-line.invariant c.in_ok-item.ensures.read
    (omega (arith, c.len.ensures, c.if-len-limit.true))

pub loop-line-preserved : goal.loop-line-preserved
loop-line-preserved c =
    let turn = turn-at c.args.bytes.now c.args.lines.now c.loop-line.line-index c.requires.rising
    c.loop-line-test.true c.line_text-text.ensures (sym c.if-is_blank.ensures) in
    let given = c.in_ok-item.ensures in
    read-more c.in_ok-item.item c.push.new.self turn c.loop-line.invariant given.read given.word
    (λ full. c.if-len-limit.false (c.len.ensures ∙ full)) c.in_ok-push.ensures.ok

pub returns-clause-read : goal.returns-clause-read
returns-clause-read c =
    read-all c.args.affixes.now c.args.limit c.args.bytes.now c.args.lines.now
    c.loop-line.line-index c.loop-line.items (omega arith) c.loop-line.invariant
