-- A sort moves the rows.
use Rattle.std.proofs.Common.{rules}
use Rattle.std.proofs.lemmas.List.Sorted.{IsNonDecreasingBy-from_sort_by_key}
use Rattle.form_lister.specs.declared.choices.RuleRow.{RuleRow}
use Rattle.form_lister.proofs.ChoiceLemmas.{rows-moved}
use Rattle.form_lister.proofs.choices.rows_of.Goals as goal

pub returns : goal.returns
returns c = record {
  has =
      rows-moved c.args.rules.now c.args.side c.in_ok-rows.rows.items
      c.sort_unstable_by_key.new.self.items c.sort_unstable_by_key.ensures.permutation
      c.in_ok-rows.ensures;
  rising =
      IsNonDecreasingBy-from_sort_by_key (λ (row : RuleRow). row.flag)
      c.sort_unstable_by_key.new.self.items
      c.sort_unstable_by_key.ensures.sorted (λ a r f called. search rules);
}
