-- The rows stand on as much of the text and of the sets as they need.
use Rattle.std.proofs.Common.{◌≡◌, ◌∙◌, ◌++◌, ap, ap₂, sym, subst, map, arith, length, take}
use Rattle.std.proofs.Common.{length-take}
use Rattle.std.specs.List.{AllByRecursion}
use Rattle.spell_types.specs.Rows.{entry_in, IsRowIn}
use Rattle.spell_types.proofs.RowLemmas.{front-rows, front-entries, row-ends, row-sets, cut-end}
use Rattle.spell_types.proofs.RowLemmas.{from-start}
use Rattle.spell_types.proofs.entries.front_of.Goals as goal

pub range-requires-clause-end_boundary : goal.range-requires-clause-end_boundary
range-requires-clause-end_boundary c =
    cut-end c.args.text.now c.text_end.result c.utf8.text
    (c.text_end.ensures.cut c.args.text.now
    (row-ends c.args.text.now c.args.sets.now c.args.rows.now c.requires))

pub slice_bounds-copies_of-end : goal.slice_bounds-copies_of-end
slice_bounds-copies_of-end c =
    omega (
      arith,
      length-take c.sets_end.result c.args.sets.now,
      c.sets_end.ensures.few (length c.args.sets.now)
          (row-sets c.args.text.now c.args.sets.now c.args.rows.now c.requires),
    )

pub invariant_of-result : goal.invariant_of-result
invariant_of-result c =
    let text = c.args.text.now in
    let sets = c.args.sets.now in
    let rows = c.args.rows.now in
    let own : c.extend_from_slice.new.self.items ≡ rows =
    c.in_ok-extend_from_slice.ensures.items ∙ ap (λ made. made ++ rows) c.in_ok-own.ensures.items in
    subst (λ bs. AllByRecursion (IsRowIn bs c.in_ok-sets.sets.items)
    c.extend_from_slice.new.self.items)
    (sym (c.in_ok-text.ensures.ok ∙ c.range.ensures.value ∙ from-start text c.text_end.result))
    (subst (λ ss. AllByRecursion (IsRowIn (take c.text_end.result text) ss)
    c.extend_from_slice.new.self.items) (sym c.in_ok-sets.ensures)
    (subst (AllByRecursion
    (IsRowIn (take c.text_end.result text) (take c.sets_end.result sets))) (sym own)
    (front-rows text sets c.text_end.result c.sets_end.result
    (c.text_end.ensures.cut text (row-ends text sets rows c.requires)).within
    (c.sets_end.ensures.few (length sets) (row-sets text sets rows c.requires)) rows c.requires
    c.text_end.ensures.within c.sets_end.ensures.within)))

pub returns : goal.returns
returns c =
    let text = c.args.text.now in
    let sets = c.args.sets.now in
    let rows = c.args.rows.now in
    let own : c.extend_from_slice.new.self.items ≡ rows =
    c.in_ok-extend_from_slice.ensures.items ∙ ap (λ made. made ++ rows) c.in_ok-own.ensures.items in
    ap₂ (λ bs ss. map (entry_in bs ss) c.extend_from_slice.new.self.items)
    (c.in_ok-text.ensures.ok ∙ c.range.ensures.value ∙ from-start text c.text_end.result)
    c.in_ok-sets.ensures
    ∙ ap (map (entry_in (take c.text_end.result text) (take c.sets_end.result sets))) own
    ∙ front-entries text sets c.text_end.result c.sets_end.result
    (c.text_end.ensures.cut text (row-ends text sets rows c.requires)).within
    (c.sets_end.ensures.few (length sets) (row-sets text sets rows c.requires)) rows c.requires
    c.text_end.ensures.within c.sets_end.ensures.within
