-- The word is no entry's, or the stem is the word.
use Rattle.std.proofs.Common.{◌∙◌, ap, None, [], ◌∷◌, ◌++◌, subst, append-nil}
use Rattle.entry_table.specs.EntryTable.{AreEntriesOf}
use Rattle.affix_strip.proofs.ShowLemmas.{shows-none, answer-same}
use Rattle.affix_strip.proofs.FoundLemmas.{are-same, from-all, no-bare}
use Rattle.affix_strip.proofs.walk.IndexedLexicon.visit_without_suffix.Goals as goal

pub returns-then-not-may_have : goal.returns-then-not-may_have
returns-then-not-may_have g c =
    shows-none (no-bare c.args.self.now.lexicon c.args.prefixes.now c.args.word.now
    (subst (λ word. AreEntriesOf c.args.self.now.lexicon.entries word [])
    (ap (λ text. text ++ []) c.new-word.ensures.text ∙ append-nil c.args.word.now)
    (c.may_have.ensures c.args.self.now.lexicon.entries c.requires.entries c.if-not-may_have.true)))

pub returns : goal.returns
returns g c =
    answer-same _ _ c.visit_prefixes.result
    (from-all c.args.self.now.lexicon c.args.prefixes.now None (None ∷ []) c.args.word.now
    c.as_slice.result.now
    (are-same c.as_slice.ensures
    (subst (λ word. AreEntriesOf c.args.self.now.lexicon.entries word
    c.in_ok-entries.entries.items)
    (ap (λ text. text ++ []) c.new-word.ensures.text ∙ append-nil c.args.word.now)
    c.in_ok-entries.ensures)))
    c.visit_prefixes.ensures
