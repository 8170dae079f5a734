-- The pair makes such a word.
use Rattle.std.proofs.Common.{◌∙◌, sym}
use Rattle.spell_types.specs.Licences.{is_alone, is_derived}
use Rattle.spell_types.specs.Replacements.{variants_by}
use Rattle.compound_words.proofs.ReplacementLemmas.{pair_found}
use Rattle.compound_words.proofs.replacements.has_fault_by_one.Goals as goal

pub returns-then-branch : goal.returns-then-branch
returns-then-branch c =
    pair_found (variants_by c.args.word.now)
    (is_derived is_alone c.args.stems.now)
    c.args.reps.now c.loop-rep.rep-index c.rep-item.result c.loop-rep-test.true c.rep-item.is
    (sym c.in_ok-has_fault_by.ensures ∙ c.if-branch.true)
