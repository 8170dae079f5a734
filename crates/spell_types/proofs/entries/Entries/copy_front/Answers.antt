-- The first rows are taken.
use Rattle.std.proofs.Common.{◌≡◌, ◌∙◌, ap, ap₂, sym, map, take}
use Rattle.std.specs.String.{string_bytes}
use Rattle.std.proofs.lemmas.List.{take-map, take_min}
use Rattle.spell_types.specs.Rows.{entry_in, IsRowIn}
use Rattle.spell_types.proofs.RowLemmas.{each-front, if-ok}
use Rattle.spell_types.proofs.entries.Entries.copy_front.Goals as goal

pub front_of-requires : goal.front_of-requires
front_of-requires c =
    rw (c.as_str.ensures.value, c.deref.ensures.value, c.as_slice-rows.ensures.value)
    (each-front (IsRowIn (string_bytes c.self.inside.text) c.self.inside.sets.items)
    c.min-count.result c.self.inside.rows.items c.self.invariant)

pub returns : goal.returns
returns c =
    let f = entry_in (string_bytes c.self.inside.text) c.self.inside.sets.items in
    let rows = c.as_slice-rows.result.now in
    let front : take c.min-count.result rows ≡ take c.args.count c.self.inside.rows.items =
    ap (λ count. take count rows) c.min-count.ensures ∙ take_min c.args.count rows
    ∙ ap (take c.args.count) c.as_slice-rows.ensures.value in
    if-ok c.front_of.result
    (λ made is.
    is
    ∙ ap₂ (λ bs ss. map (entry_in bs ss) (take c.min-count.result rows))
    c.as_str.ensures.value c.deref.ensures.value
    ∙ ap (map f) front
    ∙ sym (take-map f c.args.count c.self.inside.rows.items)
    ∙ ap (take c.args.count) c.self.view_is) c.front_of.ensures
