-- Where no row fits, one character more stays.
use Rattle.std.proofs.Common.{◌≡◌, ◌∙◌, ◌-◌, refl, sym, ap, length, take_all, length-drop, Bor}
use Rattle.std.proofs.Common.{Option, None, Some, false, arith}
use Rattle.std.specs.Option.{is_some, option_copied}
use Rattle.spell_types.specs.declared.conversions.Conversion.{Conversion}
use Rattle.spell_types.specs.Conversions.{best_fit}
use Rattle.conversions.proofs.Steps.{stays_more, stays_all}
use Rattle.conversions.proofs.table.first_fit.Goals as goal

none_found : (found : Option (Bor Conversion)) → false ≡ is_some found → option_copied found ≡ None
none_found None is = refl
none_found (Some row) is = absurd (cc)

pub loop-start-preserved : goal.loop-start-preserved
loop-start-preserved c =
    let word = c.args.word.now in
    let start = c.loop-start.start in
    stays_more c.args.table.now word start (omega arith)
    (ap (best_fit c.args.table.now)
    (sym (take_all (length word - start) _ (omega (arith, length-drop start word))))
    ∙ sym c.best_fit.ensures ∙ none_found c.best_fit.result c.if-is_some.ensures)
    c.loop-start.invariant

pub returns : goal.returns
returns c =
    stays_all c.args.table.now c.args.word.now c.loop-start.start (omega arith)
    c.loop-start.invariant
