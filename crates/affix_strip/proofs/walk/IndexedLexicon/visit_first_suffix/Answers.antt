-- The rule may not be attached to what is left, or it may.
use Rattle.std.proofs.Common.{rules, ◌≡◌, ◌∙◌, sym, false, true, true≢false}
use Rattle.affix_strip.specs.Peeling.{may_undo_at}
use Rattle.spell_types.specs.declared.rules.Side.TheVariants.{Suffix}
use Rattle.affix_strip.proofs.ShowLemmas.{shows-none, answer-same}
use Rattle.affix_strip.proofs.walk.IndexedLexicon.visit_first_suffix.Goals as goal

pub returns-then-not-may_undo : goal.returns-then-not-may_undo
returns-then-not-may_undo g c =
    let fails : may_undo_at c.args.self.now.lexicon.affixes Suffix c.args.rest.now c.args.first
    ≡ false = search rules in
    shows-none (λ d from. true≢false (sym from.0 ∙ fails))

pub returns : goal.returns
returns g c =
    let may : may_undo_at c.args.self.now.lexicon.affixes Suffix c.args.rest.now c.args.first
    ≡ true = search rules in
    answer-same _ _ c.visit_prefixes.result (λ d. (λ from. (may, from), λ from. from.1))
    c.visit_prefixes.ensures
