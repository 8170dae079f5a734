-- What one group more leaves is added.
use Rattle.std.proofs.Common.{rules, ◌∙◌, ap, ap₂}
use Rattle.affix_strip.specs.Peeling.{Peeled, join}
use Rattle.affix_strip.proofs.PeelLemmas.{peeled-next}
use Rattle.affix_strip.proofs.peeling.push_groups.Goals as goal

pub loop-number-preserved : goal.loop-number-preserved
loop-number-preserved c =
    peeled-next c.args.side c.args.kept.now c.args.groups.now c.loop-number.number
    c.args.found.now.items c.loop-number.found.items c.push.new.self.items c.new.result.0
    c.new.result.1
    (search rules) c.loop-number.invariant
    (ap (λ (p : Peeled). p.0) c.new.ensures
    ∙ ap₂ (join c.args.side) c.new-hashed.ensures.text c.group_strip-strip.ensures)
    (ap (λ (p : Peeled). p.1) c.new.ensures ∙ c.group_places.ensures) c.in_ok-push.ensures.items
