-- A text that is too short is no part's.
use Rattle.std.proofs.Common.{◌∙◌, ◌++◌, ap, append-nil, sym}
use Rattle.spell_types.specs.Parts.{is_long_enough}
use Rattle.compound_words.specs.Rests.{asked_by}
use Rattle.compound_words.proofs.PieceLemmas.{too-short}
use Rattle.compound_words.proofs.pieces.add_with.Goals as goal

pub returns-then-not-is_long_enough : goal.returns-then-not-is_long_enough
returns-then-not-is_long_enough c =
    sym (append-nil c.args.found.now.items) ∙ ap (λ parts. c.args.found.now.items ++ parts)
    (sym (too-short (asked_by c.args.search.now) c.args.off_begin c.args.joint.now c.args.text.now
    (ap (λ l. is_long_enough l c.args.text.now) (sym c.lexicon.ensures.dictionary)
    ∙ sym c.is_long_enough.ensures ∙ c.if-not-is_long_enough.true)))
