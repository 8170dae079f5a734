-- Each item that is read moves on, and at the end all is read.
use Rattle.std.proofs.Common.{◌<◌, ◌∙◌, true, ap, subst, sym, arith, cond, Ok, Err, length, All}
use Rattle.std.proofs.lemmas.Bool.Decides.{nat_tests}
use Rattle.std.proofs.lemmas.List.Elements.{All-nil}
use Rattle.compound_pattern.specs.declared.reading.PatternFault.TheVariants.{BadFlag}
use Rattle.std.specs.Str.{chars}
use Rattle.compound_pattern.specs.PatternTexts.{pattern_items_of}
use Rattle.spell_types.specs.Flags.{IsOrdinary}
use Rattle.compound_pattern.proofs.RuleLemmas.{told_after, told-empty, told-first, told-last}
use Rattle.compound_pattern.proofs.reading.read_pattern.Goals as goal

pub returns-then-is_empty-clause-fault : goal.returns-then-is_empty-clause-fault
returns-then-is_empty-clause-fault c =
    λ other. told-empty c.args.kind c.args.text.now (grind (arith, nat_tests))

pub loop-rest-init : goal.loop-rest-init
loop-rest-init c =
    let some : 0 < length c.args.text.now = grind (arith, nat_tests) in (
      c.utf8.text,
      ap (λ made. told_after c.args.kind true made (pattern_items_of c.args.kind (chars c.args.text.now)))
          c.new-steps.ensures ∙ told-first c.args.kind c.args.text.now c.utf8.text some,
      subst (All (λ step. IsOrdinary step.flag)) (sym c.new-steps.ensures)
          (All-nil (λ step. IsOrdinary step.flag)),
    )

pub returns-then-not-are_flags-clause-fault : goal.returns-then-not-are_flags-clause-fault
returns-then-not-are_flags-clause-fault c = λ other.
    let l = c.loop-rest in
    told-last c.args.kind l.are_flags l.steps c.args.text.now l.rest.now (grind (arith, nat_tests))
    l.invariant.1
    ∙ ap (λ b. cond b (Ok l.steps) (Err BadFlag)) c.if-not-are_flags.true

pub returns-clause-pattern : goal.returns-clause-pattern
returns-clause-pattern c =
    let l = c.loop-rest in
    told-last c.args.kind l.are_flags l.steps c.args.text.now l.rest.now (grind (arith, nat_tests))
    l.invariant.1
    ∙ ap (λ b. cond b (Ok l.steps) (Err BadFlag)) c.if-not-are_flags.false
