-- A row adds its set, which is ordinary.
use Rattle.std.proofs.Common.{All, sym, subst}
use Rattle.std.proofs.lemmas.List.Elements.{All-push}
use Rattle.spell_types.specs.Flags.{AreOrdinary}
use Rattle.aff_lines.proofs.PassLemmas.{sets_turn}
use Rattle.aff_lines.proofs.values.read_sets.Goals as goal

pub loop-line-preserved : goal.loop-line-preserved
loop-line-preserved c = record {
  said = sets_turn c.args.kind c.loop-line.sets c.push.new.self c.in_ok-read_set.field-0
      c.args.lines.now c.loop-line.line-index c.line-item.result
      c.loop-line-test.true c.line-item.is c.in_ok-push.ensures.ok c.in_ok-read_set.ensures.said
      c.loop-line.invariant.said;
  ordinary = subst (All AreOrdinary) (sym c.in_ok-push.ensures.ok)
      (All-push AreOrdinary c.loop-line.sets c.in_ok-read_set.field-0 c.loop-line.invariant.ordinary
      c.in_ok-read_set.ensures.ordinary);
}
