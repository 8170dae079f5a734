-- The walk arrives at the byte.
use Rattle.std.proofs.Common.{rules, ap, ◌≡◌, ◌∙◌}
use Rattle.positions.specs.declared.Encoding.TheVariants.{Utf8}
use Rattle.positions.specs.Walks.{Walked, offset_at}
use Rattle.positions.proofs.WalkLemmas.{counted}
use Rattle.positions.proofs.walk.OffsetWalk.offset_of.Goals as goal

pub walked-reached-requires-clause-few : goal.walked-reached-requires-clause-few
walked-reached-requires-clause-few c = (c.before-from.ensures.on_way _ c.self.invariant).few

pub invariant_of-self : goal.invariant_of-self
invariant_of-self c =
    (c.walked-reached.ensures.arrived _ (c.before-from.ensures.on_way _ c.self.invariant)).on_way

pub returns-clause-offset : goal.returns-clause-offset
returns-clause-offset c =
    let other : c.self.inside.encoding ≡ Utf8 → ⊥ = search rules in
    (c.walked-reached.ensures.arrived _ (c.before-from.ensures.on_way _ c.self.invariant)).offset
    ∙ counted _ _ c.args.byte other
    ∙ ap (λ (walked : Walked). offset_at walked.encoding walked.line c.args.byte) (search rules)
