-- By the version, or by the claim.
use Rattle.std.proofs.Common.{◌∙◌, sym}
use Rattle.check_workers.proofs.Kept.{keeps-new, keeps-same}
use Rattle.check_workers.proofs.keeping.renew.Goals as goal

pub returns-then-is_for : goal.returns-then-is_for
returns-then-is_for g c run is knows known =
    keeps-same g.J.Judge.lexicon c.versions_name_dictionaries.ensures run c.args.claim.now
    c.args.kept.now (sym c.is_for.ensures ∙ c.if-is_for.true) is knows known

pub returns : goal.returns
returns g c run is knows known =
    keeps-new g.J.Judge.lexicon run c.args.claim.now c.kept_for.result c.kept_for.ensures knows
