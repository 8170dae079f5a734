-- One rest more is looked at.
use Rattle.std.proofs.Common.{◌∙◌, ◌+◌, sym, subst}
use Rattle.compound_words.specs.Rests.{CanStandFor, picked}
use Rattle.compound_words.specs.Counting.{OneOf}
use Rattle.compound_words.proofs.HeadLemmas.{AreHeadsTo, heads-new, heads-known}
use Rattle.compound_words.proofs.heads.heads_of.Goals.{then-not-is_covered+in_ok-push}
use Rattle.compound_words.proofs.heads.heads_of.Goals.{else-not-is_covered}
use Rattle.compound_words.proofs.heads.heads_of.Goals as goal

pub loop-place-preserved : goal.loop-place-preserved
loop-place-preserved c =
    elim c.if-not-is_covered.branch [
      | then-not-is_covered+in_ok-push w ↦
          subst (λ heads. AreHeadsTo c.args.rests.now heads (c.loop-place.place + 1))
          (sym (w.heads-is ∙ w.in_ok-push.ensures.ok))
          (heads-new c.args.rests.now c.loop-place.heads c.loop-place.place
          c.index-rests-place.result c.loop-place-test.true c.index-rests-place.is
          c.loop-place.invariant)
      | else-not-is_covered w ↦
          subst (λ heads. AreHeadsTo c.args.rests.now heads (c.loop-place.place + 1))
          (sym w.heads-is)
          (heads-known c.args.rests.now c.loop-place.heads c.loop-place.place
          c.index-rests-place.result c.loop-place-test.true c.index-rests-place.is
          c.loop-place.invariant
          (subst (λ heads. OneOf (λ other. CanStandFor other c.index-rests-place.result)
          (picked c.args.rests.now heads)) c.deref.ensures
          (c.is_covered.ensures w.if-not-is_covered.false)))
    ]
