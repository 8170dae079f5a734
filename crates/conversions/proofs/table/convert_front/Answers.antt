-- The row that was found fits, and what was read is its pattern.
use Rattle.std.proofs.Common.{◌++◌, ◌∙◌, refl, sym, ap, drop, arith}
use Rattle.spell_types.specs.Conversions.{converted}
use Rattle.conversions.proofs.Steps.{best_fit-reads, front_replaced, front_kept}
use Rattle.conversions.proofs.table.convert_front.Goals as goal

pub returns-after-loop-c-clause-moves : goal.returns-after-loop-c-clause-moves
returns-after-loop-c-clause-moves c =
    omega (
      arith,
      (best_fit-reads c.args.table.now c.args.text.now c.in-Some.row.now
          (sym c.in-Some.ensures)).0,
      c.len.ensures,
    )

pub returns-after-loop-c-clause-within : goal.returns-after-loop-c-clause-within
returns-after-loop-c-clause-within c =
    omega (
      arith,
      (best_fit-reads c.args.table.now c.args.text.now c.in-Some.row.now
          (sym c.in-Some.ensures)).1,
      c.len.ensures,
    )

pub returns-after-loop-c-clause-made : goal.returns-after-loop-c-clause-made
returns-after-loop-c-clause-made c =
    ap (λ n. c.loop-c.made ++ converted c.args.table.now (drop n c.args.text.now)) c.len.ensures
    ∙ front_replaced c.args.table.now c.args.text.now c.loop-c.made c.args.made.now
    c.as_slice-c-items.result.now c.in-Some.row.now.from c.in-Some.row.now c.loop-c.c-index
    (sym c.in-Some.ensures) c.loop-c.invariant c.loop-c-test.false c.as_slice-c-items.ensures refl

pub returns-in_ok-push-in-None-clause-made : goal.returns-in_ok-push-in-None-clause-made
returns-in_ok-push-in-None-clause-made c =
    front_kept c.args.table.now c.args.text.now c.push-in-None.new.self c.args.made.now
    c.index-text-0.result c.requires.some (sym c.in-None.ensures)
    c.in_ok-push-in-None.ensures.ok c.index-text-0.is
