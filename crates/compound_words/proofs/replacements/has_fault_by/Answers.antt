-- One place more is looked at.
use Rattle.std.proofs.Common.{◌∙◌, sym, length}
use Rattle.spell_types.specs.Licences.{is_alone, is_derived}
use Rattle.spell_types.specs.Replacements.{stands_anchored, replaced_at}
use Rattle.compound_words.proofs.ReplacementLemmas.{one_found, none_more}
use Rattle.compound_words.proofs.replacements.has_fault_by.Goals as goal

pub returns-then-branch : goal.returns-then-branch
returns-then-branch c =
    one_found (replaced_at c.args.rep.now c.args.word.now)
    (stands_anchored c.args.rep.now.from c.args.word.now) (is_derived is_alone c.args.stems.now)
    (length c.args.word.now) c.loop-place.place c.loop-place-test.true
    (sym c.in_ok-has_fault_at.ensures ∙ c.if-branch.true)

pub loop-place-preserved : goal.loop-place-preserved
loop-place-preserved c =
    none_more (replaced_at c.args.rep.now c.args.word.now)
    (stands_anchored c.args.rep.now.from c.args.word.now) (is_derived is_alone c.args.stems.now)
    c.loop-place.place (sym c.in_ok-has_fault_at.ensures ∙ c.if-branch.false) c.loop-place.invariant
