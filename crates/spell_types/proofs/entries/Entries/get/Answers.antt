-- The row's word is cut out of the text between characters.
use Rattle.std.proofs.Common.{◌∙◌, sym, ap, ap₂, subst, Some, [], get_or}
use Rattle.std.specs.List.{slice_range}
use Rattle.std.specs.Str.{IsCharBoundary, chars}
use Rattle.std.specs.String.{string_bytes}
use Rattle.std.proofs.lemmas.List.{get_or_default}
use Rattle.std.proofs.lemmas.Str.{IsUtf8-string_bytes}
use Rattle.spell_types.specs.Rows.{IsRowIn}
use Rattle.spell_types.proofs.RowLemmas.{found-at, each-at, same-entry, cut-from, cut-to}
use Rattle.spell_types.proofs.entries.Entries.get.Goals as goal

pub range-requires-clause-start_boundary : goal.range-requires-clause-start_boundary
range-requires-clause-start_boundary c = λ behind.
    let text = string_bytes c.self.inside.text in
    let sets = c.self.inside.sets.items in
    let row = c.in_ok-row.row.now in
    let lookup = c.in_ok-row.ensures.lookup in
    let at = found-at c.deref.result.now c.self.inside.rows.items c.args.place row
    c.deref.ensures.value lookup.3.0 lookup.1 in
    subst (λ bytes. IsCharBoundary bytes row.from) (sym c.as_str.ensures.value)
    (cut-from text sets row (IsUtf8-string_bytes c.self.inside.text)
    (each-at (IsRowIn text sets) c.self.inside.rows.items c.args.place row c.self.invariant at))

pub range-requires-clause-end_boundary : goal.range-requires-clause-end_boundary
range-requires-clause-end_boundary c =
    let text = string_bytes c.self.inside.text in
    let sets = c.self.inside.sets.items in
    let row = c.in_ok-row.row.now in
    let lookup = c.in_ok-row.ensures.lookup in
    let at = found-at c.deref.result.now c.self.inside.rows.items c.args.place row
    c.deref.ensures.value lookup.3.0 lookup.1 in
    subst (λ bytes. IsCharBoundary bytes row.to) (sym c.as_str.ensures.value)
    (cut-to text sets row (IsUtf8-string_bytes c.self.inside.text)
    (each-at (IsRowIn text sets) c.self.inside.rows.items c.args.place row c.self.invariant at))

pub returns : goal.returns
returns c =
    let text = string_bytes c.self.inside.text in
    let sets = c.self.inside.sets.items in
    let row = c.in_ok-row.row.now in
    let lookup = c.in_ok-row.ensures.lookup in
    let at = found-at c.deref.result.now c.self.inside.rows.items c.args.place row
    c.deref.ensures.value lookup.3.0 lookup.1 in
    let has =
    (each-at (IsRowIn text sets) c.self.inside.rows.items c.args.place row c.self.invariant at).set
    in
    ap₂ (λ word flags. Some (record { word = chars word; flags = flags }))
    (c.range.ensures.value ∙ ap (λ bytes. slice_range bytes row.from row.to) c.as_str.ensures.value)
    (c.index-as_slice-row.is
    ∙ ap (λ ss. get_or ss row.set c.index-as_slice-row.result) c.as_slice.ensures.value
    ∙ get_or_default sets row.set c.index-as_slice-row.result [] has)
    ∙ same-entry text sets c.self.inside.rows.items c.args.self.now c.args.place row c.self.view_is
    at
