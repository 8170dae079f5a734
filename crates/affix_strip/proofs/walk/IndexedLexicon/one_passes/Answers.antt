-- The walk is over where a derivation passes, and else none does.
use Rattle.affix_strip.proofs.QuestionLemmas.{if_answered, answered}
use Rattle.affix_strip.proofs.walk.IndexedLexicon.one_passes.Goals as goal

pub returns : goal.returns
returns g c =
    if_answered c.visit_all.result c.visit_all.ensures
    (λ b shown. answered c.args.self.now.lexicon c.args.word.now (g.T.Test.passing c.args.test)
    _ b shown)
