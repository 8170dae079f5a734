-- The rules of the side before the loop's place have their rows.
use Rattle.form_lister.proofs.ChoiceLemmas.{HasRulesBelow}
use Rattle.form_lister.proofs.choices.gathered.Given as goal

abbrev pub invariant-loop-place : goal.invariant-loop-place
invariant-loop-place l = HasRulesBelow l.rules l.side l.place l.rows.items
