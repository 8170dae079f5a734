-- Each session that is there has a script of its own.
use Rattle.std.proofs.Common.{◌∙◌, ◌+◌, ap, subst, sym}
use Rattle.team_forms.proofs.UpTo.{AreUpTo, none-yet, one-more, passed-over, up-to-all}
use Rattle.team_forms.proofs.scripts.scripts_of.Goals.{then-has+in_ok-lines+in_ok-push, else-has}
use Rattle.team_forms.proofs.scripts.scripts_of.Goals as goal

pub loop-before-init : goal.loop-before-init
loop-before-init c =
    subst (AreUpTo c.args.script.now 0) (sym c.new-scripts.ensures.items)
    (none-yet c.args.script.now)

pub loop-before-preserved : goal.loop-before-preserved
loop-before-preserved c =
    elim c.if-has.branch [
      | then-has+in_ok-lines+in_ok-push w ↦
          subst (AreUpTo c.args.script.now (c.loop-before.before + 1))
          (sym (ap (λ scripts. scripts.items) w.scripts-is ∙ w.in_ok-push.ensures.items))
          (one-more c.args.script.now c.loop-before.before c.loop-before.scripts.items _
          (sym c.has.ensures ∙ w.if-has.true) w.in_ok-lines.ensures.texts
          w.in_ok-lines.ensures.whole w.in_ok-lines.ensures.named c.loop-before.invariant)
      | else-has w ↦
          subst (AreUpTo c.args.script.now (c.loop-before.before + 1))
          (sym (ap (λ scripts. scripts.items) w.scripts-is))
          (passed-over c.args.script.now c.loop-before.before c.loop-before.scripts.items
          (sym c.has.ensures ∙ w.if-has.false) c.loop-before.invariant)
    ]

pub returns-clause-scripts : goal.returns-clause-scripts
returns-clause-scripts c =
    (up-to-all c.loop-before.invariant c.loop-before-test.false
    c.loop-before.auto.before-end).scripts_are

pub returns-clause-few : goal.returns-clause-few
returns-clause-few c =
    (up-to-all c.loop-before.invariant c.loop-before-test.false c.loop-before.auto.before-end).few

pub returns-clause-short : goal.returns-clause-short
returns-clause-short c =
    (up-to-all c.loop-before.invariant c.loop-before-test.false c.loop-before.auto.before-end).short

pub returns-clause-whole : goal.returns-clause-whole
returns-clause-whole c =
    (up-to-all c.loop-before.invariant c.loop-before-test.false c.loop-before.auto.before-end).whole

pub returns-clause-named : goal.returns-clause-named
returns-clause-named c =
    (up-to-all c.loop-before.invariant c.loop-before-test.false c.loop-before.auto.before-end).named
