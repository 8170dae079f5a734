-- The pair at each place is loaded, or it ends the call.
use Rattle.std.proofs.Common.{◌∙◌, ◌+◌, arith, subst, sym, take}
use Rattle.team_forms.specs.TeamLoads.{AreLoaded, AreNotLoaded, IsNotHeld, IsPairLoaded}
use Rattle.file_loading.specs.DueLaws.{failed-so}
use Rattle.team_forms.proofs.TeamLemmas.{place-loaded, place-not-loaded}
use Rattle.team_forms.proofs.team.load_pairs.Goals as goal

pub returns-in_err-load_pair-clause-err : goal.returns-in_err-load_pair-clause-err
returns-in_err-load_pair-clause-err g c =
    let told = g.F.Files.told c.args.files.now in
    let pair = c.pair-item.result in
    failed-so (AreNotLoaded told c.args.pairs.now) c.from_residual.result c.from_residual.ensures.1
    (place-not-loaded told c.args.pairs.now c.loop-pair.pair-index pair c.loop-pair.loaded.items
    c.loop-pair-test.true c.pair-item.is c.loop-pair.invariant.loaded
    (subst (λ told. IsNotHeld told pair.aff pair.dic c.in_err-load_pair.field-0.0)
    c.loop-pair.invariant.same c.in_err-load_pair.ensures.err))

pub loop-pair-preserved : goal.loop-pair-preserved
loop-pair-preserved g c =
    let told = g.F.Files.told c.args.files.now in
    let pair = c.pair-item.result in
    let one = c.in_ok-load_pair.field-0 in
    let place = c.loop-pair.pair-index in
    record {
      same = c.in_ok-load_pair.ensures.same ∙ c.loop-pair.invariant.same;
      count = omega arith;
      loaded = subst (AreLoaded told (take (place + 1) c.args.pairs.now))
          (sym c.in_ok-push.ensures.items)
          (place-loaded told c.args.pairs.now place pair c.loop-pair.loaded.items one
          c.loop-pair-test.true c.pair-item.is c.loop-pair.invariant.loaded
          (subst (λ told. IsPairLoaded told pair one) c.loop-pair.invariant.same
          c.in_ok-load_pair.ensures.ok));
    }
