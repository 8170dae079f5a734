-- A line is what was kept of it and the bytes that end it.
use Rattle.std.proofs.Common.{◌≡◌, ◌∙◌, ◌++◌, [], sym}
use borrow.Author.Tests.{eqb-true}
use Rattle.std.proofs.lemmas.List.{nil_from_length}
use Rattle.input_lines.specs.Lines.{piece_text}
use Rattle.input_lines.proofs.LineLemmas.{no-break-parts, piece-no-break}
use Rattle.input_lines.proofs.listener.Listener.end_line.Goals as goal

pub answer_line-requires-clause-whole : goal.answer_line-requires-clause-whole
answer_line-requires-clause-whole g c =
    let parts = no-break-parts c.args.self.now.pending.items c.args.bytes.now c.requires.whole in
    rw c.piece_text.ensures (piece-no-break c.replace-is_first.result c.args.bytes.now parts.1)

pub returns-then-is_empty-clause-turns : goal.returns-then-is_empty-clause-turns
returns-then-is_empty-clause-turns g c =
    let none : c.args.self.now.pending.items ≡ [] =
    sym c.as_slice.ensures.value
    ∙ nil_from_length c.as_slice.result.now (eqb-true _ 0 (sym c.if-is_empty.ensures)) in
    let line : c.piece_text.result.now ≡ piece_text c.args.self.now.is_first
    (c.args.self.now.pending.items ++ c.args.bytes.now) =
    rw (none, ← c.replace-is_first.ensures.value) c.piece_text.ensures in
    rw line at c.answer_line.ensures.turns

pub answer_line-requires-2-clause-whole : goal.answer_line-requires-2-clause-whole
answer_line-requires-2-clause-whole g c =
    rw (c.piece_text-line.ensures, c.deref.ensures.value, c.in_ok-extend_from_slice.ensures.items)
    (piece-no-break c.replace-is_first.result (c.args.self.now.pending.items ++ c.args.bytes.now)
    c.requires.whole)
