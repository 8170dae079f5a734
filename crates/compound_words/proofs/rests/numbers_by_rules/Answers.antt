-- An entry that is not there has no flags.
use Rattle.std.proofs.Common.{◌≡◌, ◌∙◌, sym, ap, cond, [], None}
use Rattle.spell_types.specs.EntriesOf.{entry_flags}
use Rattle.spell_types.specs.Parts.{stands_in_rule}
use Rattle.compound_words.specs.Rests.{patterns_of, numbers_at, number_by_rule}
use Rattle.compound_words.proofs.NumberLemmas.{by-no-flags}
use Rattle.compound_words.proofs.StepLemmas.{if-none}
use Rattle.compound_words.proofs.rests.numbers_by_rules.Goals as goal

pub returns-in-None : goal.returns-in-None
returns-in-None c rule step =
    let lexicon = c.args.search.now.stems.now in
    let d = c.args.part.now.d in
    let rules = patterns_of c.args.search.now in
    let stands = stands_in_rule lexicon d c.args.place in
    let no_flags : entry_flags lexicon d ≡ [] =
    ap (λ l. entry_flags l d) (sym c.lexicon-lexicon.ensures.dictionary)
    ∙ sym c.in-None.ensures in
    ap (λ n. numbers_at n rule step) c.new-in-None.ensures
    ∙ sym (ap (λ f. cond stands (number_by_rule f rules c.args.behind.now rule step) None) no_flags
    ∙ ap (λ n. cond stands n None) (by-no-flags rules c.args.behind.now rule step) ∙ if-none stands)
