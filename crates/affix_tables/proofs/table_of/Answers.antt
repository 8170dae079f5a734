-- One rule more is in its table.
use Rattle.std.proofs.Common.{rules, ◌∙◌, sym, ap, subst, ◌<◌, [], ◌∷◌, ◌++◌, take, length}
use Rattle.std.proofs.Common.{length-take-le, arith}
use Rattle.std.proofs.lemmas.List.{take_more}
use Rattle.affix_tables.specs.Tables.{IsTable}
use Rattle.affix_tables.proofs.table_of.Goals as goal

pub loop-place-preserved : goal.loop-place-preserved
loop-place-preserved c =
    let place = c.loop-place.place in
    let rule = c.index-rules-place.result in
    let within : place < length c.args.rules.now = search rules in
    subst (λ before. IsTable before c.args.side c.add_rule.new.table)
    (sym (take_more c.args.rules.now place rule within
    ∙ ap (λ last. take place c.args.rules.now ++ last ∷ []) (sym c.index-rules-place.is)))
    (c.in_ok-add_rule.ensures (take place c.args.rules.now)
    (length-take-le place c.args.rules.now (omega (arith, within))) c.loop-place.invariant)
