-- One place more is looked at.
use Rattle.std.proofs.Common.{◌∙◌, sym, ap}
use Rattle.spell_types.specs.Replacements.{stands_anchored, replaced_at}
use Rattle.conversions.proofs.Variants.{place_added, place_passed_over}
use Rattle.conversions.proofs.replacements.add_variants.Goals as goal
use Rattle.conversions.proofs.replacements.add_variants.Goals.{then-stands_anchored+in_ok-variant_at+in_ok-push}
use Rattle.conversions.proofs.replacements.add_variants.Goals.{else-stands_anchored}

pub loop-place-preserved : goal.loop-place-preserved
loop-place-preserved c =
    let make = replaced_at c.args.rep.now c.args.word.now in
    let test = stands_anchored c.args.rep.now.from c.args.word.now in
    let before = c.args.found.now.items in
    let found = c.loop-place.found.items in
    let place = c.loop-place.place in
    elim c.if-stands_anchored.branch [
      | then-stands_anchored+in_ok-variant_at+in_ok-push w ↦
          ap (λ v. v.items) w.found-is
          ∙ place_added make test before found w.push.new.self.items place
          w.in_ok-variant_at.field-0 (sym w.if-stands_anchored.ensures)
          w.in_ok-variant_at.ensures
          c.loop-place.invariant w.in_ok-push.ensures.items
      | else-stands_anchored w ↦
          ap (λ v. v.items) w.found-is
          ∙ place_passed_over make test before found place (sym w.if-stands_anchored.ensures)
          c.loop-place.invariant
    ]
