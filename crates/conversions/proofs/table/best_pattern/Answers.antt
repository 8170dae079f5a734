-- One character more is looked at.
use Rattle.std.proofs.Common.{◌∙◌, ◌≡◌, ◌+◌, ◌<◌, ◌≤◌, sym, subst, take, length, eqb-true, arith}
use Rattle.std.specs.Option.{option_copied}
use Rattle.text_order.specs.TextOrder.{beginning}
use Rattle.text_order.specs.TextOrderLaws.{all-begin, begin-further}
use Rattle.std.proofs.lemmas.List.{nil_from_length}
use Rattle.conversions.specs.Patterns.{BestUpTo}
use Rattle.conversions.proofs.Patterns.{none_yet, none_begins, first_best}
use Rattle.conversions.proofs.Patterns.{none_best, sorted-in_order}
use Rattle.conversions.proofs.table.best_pattern.Goals as goal
use Rattle.conversions.proofs.table.best_pattern.Goals.{in-Some, in_default}

pub loop-depth-init : goal.loop-depth-init
loop-depth-init c = record {
  alike = all-begin c.args.patterns.now c.args.text.now;
  best = none_yet c.args.patterns.now c.args.text.now;
}

pub returns-then-is_empty : goal.returns-then-is_empty
returns-then-is_empty c =
    let patterns = c.args.patterns.now in
    let text = c.args.text.now in
    let depth = c.loop-depth.depth in
    let within : depth < length text = omega arith in
    let now : c.going_on-alike.result.now ≡ beginning (take (depth + 1) text) patterns =
    begin-further patterns text depth (sorted-in_order patterns c.requires) within
    c.index-text-depth.is c.loop-depth.invariant.alike c.going_on-alike.ensures in
    none_begins patterns text depth (option_copied c.loop-depth.best) (omega arith)
    (sym now ∙ nil_from_length c.going_on-alike.result.now
    (eqb-true (length c.going_on-alike.result.now) 0 (sym c.if-is_empty.ensures)))
    c.loop-depth.invariant.best

pub loop-depth-preserved : goal.loop-depth-preserved
loop-depth-preserved c =
    let patterns = c.args.patterns.now in
    let text = c.args.text.now in
    let depth = c.loop-depth.depth in
    let within : depth < length text = omega arith in
    let up_to : depth + 1 ≤ length text = omega arith in
    let now : c.going_on-alike.result.now ≡ beginning (take (depth + 1) text) patterns =
    begin-further patterns text depth (sorted-in_order patterns c.requires) within
    c.index-text-depth.is c.loop-depth.invariant.alike c.going_on-alike.ensures in
    elim c.match-first.branch [
      | in-Some w ↦ record {
        alike = now;
        best = subst (λ found. BestUpTo patterns text (depth + 1) (option_copied found))
            (sym w.best-is)
            (first_best patterns c.going_on-alike.result.now c.ending.result.now text depth
            w.in-Some.pattern.now c.requires up_to now c.ending.ensures
            w.in-Some.ensures.value);
      }
      | in_default w ↦ record {
        alike = now;
        best = subst (λ found. BestUpTo patterns text (depth + 1) (option_copied found))
            (sym w.best-is)
            (none_best patterns c.going_on-alike.result.now c.ending.result.now text depth
            (option_copied c.loop-depth.best) c.requires up_to now c.ending.ensures
            w.in_default.ensures.value c.loop-depth.invariant.best);
      }
    ]
