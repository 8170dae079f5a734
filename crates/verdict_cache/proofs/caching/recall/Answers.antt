-- The word is found, or not, among what is remembered.
use Rattle.std.proofs.Common.{◌∙◌, sym, subst}
use Rattle.verdict_cache.specs.Verdicts.{AreVerdicts}
use Rattle.verdict_cache.proofs.Remembering.{found-is, promoted-are}
use Rattle.verdict_cache.proofs.caching.recall.Goals as goal

pub returns-clause-answer : goal.returns-clause-answer
returns-clause-answer c lexicon are =
    found-is lexicon c.args.verdicts.now.entries c.args.written.now c.copied.result are
    (sym (c.copied.ensures ∙ c.get.ensures.value))

pub returns-clause-kept : goal.returns-clause-kept
returns-clause-kept c lexicon are =
    subst (λ cache. AreVerdicts lexicon cache.entries) (sym c.get.follows.holds-at-none)
    (promoted-are lexicon c.args.verdicts.now.entries c.args.written.now are)
