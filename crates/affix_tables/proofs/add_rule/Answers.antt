-- A rule of the side goes into the table, and one of the other side changes nothing.
use Rattle.std.proofs.Common.{rules, ◌≡◌, ◌∙◌, sym, ap, subst, max, true, false, length}
use Rattle.spell_types.specs.Derivations.{is_same_side}
use Rattle.affix_tables.specs.Ends.{HasEnds, HasText}
use Rattle.affix_tables.specs.Tables.{Puts}
use Rattle.affix_tables.proofs.TableLemmas.{rule_of_side, rule_of_other_side}
use Rattle.affix_tables.proofs.add_rule.Goals as goal

pub returns-then-not-is_on : goal.returns-then-not-is_on
returns-then-not-is_on c = λ before at was.
    let off : is_same_side c.args.side c.args.rule.now.side ≡ false = search rules in
    rule_of_other_side before c.args.side c.args.rule.now c.args.table.now off was

pub returns : goal.returns
returns c = λ before at was.
    let on : is_same_side c.args.side c.args.rule.now.side ≡ true = search rules in
    rule_of_side before c.args.side c.args.rule.now c.args.table.now c.put.new.table on
    (subst (Puts c.args.table.now.by_text.entries c.put.new.table.by_text.entries
    c.args.rule.now.add c.args.rule.now.strip) (sym at)
    (subst (λ strip. Puts c.args.table.now.by_text.entries c.put.new.table.by_text.entries
    c.args.rule.now.add strip c.args.place) c.as_slice-2.ensures
    (subst (λ added. Puts c.args.table.now.by_text.entries c.put.new.table.by_text.entries added
    c.as_slice-2.result.now c.args.place) c.as_slice.ensures
    c.in_ok-put.ensures.place)))
    (c.in_ok-put.ensures.longest
    ∙ ap (λ added. max c.args.table.now.longest (length added)) c.as_slice.ensures)
    (subst (λ added. HasEnds c.args.side added c.put.new.table.ends) c.as_slice.ensures
    c.in_ok-put.ensures.ends.0)
    c.in_ok-put.ensures.ends.1
    (subst (λ added. HasText c.args.side added c.put.new.table.texts) c.as_slice.ensures
    c.in_ok-put.ensures.texts.0)
    c.in_ok-put.ensures.texts.1 was
