-- The part stands at the place by its flags.
use Rattle.std.proofs.Common.{◌∙◌, sym, ap, cond, None}
use Rattle.compound_words.specs.Counting.{one_more}
use Rattle.compound_words.specs.Rests.{number_behind, ByFlags}
use Rattle.spell_types.specs.Parts.{stands_at}
use Rattle.compound_words.proofs.rests.number_by_flags.Goals as goal

pub returns-then-stands_at : goal.returns-then-stands_at
returns-then-stands_at c rules =
    c.one_more.ensures ∙ ap one_more (c.by_flags.ensures rules)
    ∙ sym (ap (λ b. cond b (one_more (number_behind rules c.args.behind.now ByFlags)) None)
    (ap (λ l. stands_at l c.args.part.now.d c.args.place) (sym c.lexicon.ensures.dictionary)
    ∙ sym c.stands_at.ensures ∙ c.if-stands_at.true))
