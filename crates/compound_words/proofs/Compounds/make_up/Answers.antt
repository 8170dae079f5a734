-- No part may stand first, and there is no rule.
use Rattle.std.proofs.Common.{◌∙◌, sym, refl}
use Rattle.compound_words.specs.Rests.{asked_by}
use Rattle.compound_words.proofs.RuleLemmas.{nothing-made-up, no-rule}
use Rattle.compound_words.proofs.Compounds.make_up.Goals as goal

pub returns-then-is_empty : goal.returns-then-is_empty
returns-then-is_empty c =
    nothing-made-up (asked_by c.args.search.now) c.args.word.now c.args.self.now.rules
    (sym c.requires.compounds.first ∙ c.if-not-self.true)
    (no-rule c.args.self.now.rules (sym c.is_empty.ensures ∙ c.if-is_empty.true))
    (c.requires.compounds.rules (asked_by c.args.search.now) refl)
    (c.compounds_have_parts.ensures.made_up (asked_by c.args.search.now) c.args.word.now)
