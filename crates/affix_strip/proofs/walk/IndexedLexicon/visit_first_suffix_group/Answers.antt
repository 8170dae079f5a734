-- What the group leaves is no entry's word, or its entries are looked at.
use Rattle.std.proofs.Common.{rules, refl, subst, []}
use Rattle.entry_table.specs.EntryTable.{AreEntriesOf}
use Rattle.affix_strip.proofs.ShowLemmas.{shows-none, answer-same}
use Rattle.affix_strip.proofs.FoundLemmas.{are-same, rules-peels, no-rules}
use Rattle.affix_strip.proofs.walk.IndexedLexicon.visit_first_suffix_group.Goals as goal

pub returns-then-not-may_have : goal.returns-then-not-may_have
returns-then-not-may_have g c =
    shows-none (no-rules c.args.self.now.lexicon c.args.prefixes.now c.args.seconds.now
    c.args.ending.now []
    (subst (λ word. AreEntriesOf c.args.self.now.lexicon.entries word []) c.parts.ensures.parts
    (c.may_have.ensures c.args.self.now.lexicon.entries c.requires.entries c.if-not-may_have.true))
    refl)

pub returns-then-is_empty : goal.returns-then-is_empty
returns-then-is_empty g c =
    shows-none (no-rules c.args.self.now.lexicon c.args.prefixes.now c.args.seconds.now
    c.args.ending.now c.as_slice-entries.result.now
    (subst (λ word. AreEntriesOf c.args.self.now.lexicon.entries word c.as_slice-entries.result.now)
    c.parts.ensures.parts (are-same c.as_slice-entries.ensures c.in_ok-entries.ensures))
    (search rules))

pub returns : goal.returns
returns g c =
    answer-same _ _ c.visit_first_suffixes.result
    (rules-peels c.args.self.now.lexicon c.args.prefixes.now c.args.seconds.now c.args.ending.now
    c.in_ok-stem.stem.now c.places.result.now c.as_slice-entries.result.now (search rules)
    c.places.ensures
    (subst (λ word. AreEntriesOf c.args.self.now.lexicon.entries word c.as_slice-entries.result.now)
    c.parts.ensures.parts (are-same c.as_slice-entries.ensures c.in_ok-entries.ensures)))
    c.visit_first_suffixes.ensures
