-- The verdict is put, or what is remembered stays.
use Rattle.std.proofs.Common.{◌∙◌, sym, ap, subst}
use Rattle.mark_types.specs.spell_types.Yields.{yields}
use Rattle.verdict_cache.specs.Verdicts.{AreVerdicts}
use Rattle.verdict_cache.proofs.Remembering.{put-are}
use Rattle.verdict_cache.proofs.caching.remember.Goals as goal

pub returns : goal.returns
returns c lexicon is are =
    subst (λ cache. AreVerdicts lexicon cache.entries) (sym c.in_ok-put.ensures.entries)
    (put-are lexicon c.args.verdicts.now c.in_ok-word.word c.args.answer
    (is ∙ ap (yields lexicon) (sym c.in_ok-word.ensures.items)) are)
