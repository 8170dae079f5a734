-- What one rule more adds is noted, if it is wanted.
use Rattle.std.proofs.Common.{◌≡◌, ◌∙◌, ap, sym, true, Some, arith}
use Rattle.std.proofs.lemmas.Option.{slice_get-get_or}
use Rattle.affix_strip.specs.Edges.{is_wanted, IsNoted}
use Rattle.affix_strip.proofs.EdgeLemmas.{one-more, all-of}
use Rattle.affix_strip.proofs.edges.Edge.new.Goals as goal

pub loop-rule-preserved : goal.loop-rule-preserved
loop-rule-preserved c =
    one-more {P = λ rule. is_wanted c.args.side c.args.those rule ≡ true
    → IsNoted c.loop-rule.edge rule} {Q = λ rule. is_wanted c.args.side c.args.those rule ≡ true
    → IsNoted c.note_wanted.new.self rule} c.args.rules.now c.loop-rule.rule-index
    c.rule-item.result
    (slice_get-get_or c.args.rules.now c.loop-rule.rule-index c.rule-item.result
    c.loop-rule-test.true ∙ ap (λ r. Some r) (sym c.rule-item.is))
    (λ rule was wanted. c.note_wanted.ensures.kept rule (was wanted))
    c.note_wanted.ensures.noted c.loop-rule.invariant

pub returns : goal.returns
returns c =
    all-of {P = λ rule. is_wanted c.args.side c.args.those rule ≡ true
    → IsNoted c.loop-rule.edge rule} c.args.rules.now c.loop-rule.rule-index
    (omega arith) c.loop-rule.invariant
