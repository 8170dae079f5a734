-- A row is added over the longer text, with the set of another row.
use Rattle.std.proofs.Common.{◌≡◌, ◌∙◌, ◌∷◌, [], ◌++◌, ap, sym, subst, OnErr, map, length, Some}
use Rattle.std.proofs.Common.{◌<◌, arith, slice_get}
use Rattle.std.specs.Str.{chars}
use Rattle.std.specs.String.{string_bytes}
use Rattle.std.proofs.lemmas.List.{append-nil, length-map}
use Rattle.std.proofs.lemmas.Option.{slice_get-get_or}
use Rattle.std.proofs.lemmas.Str.{IsUtf8-string_bytes}
use Rattle.spell_types.specs.Rows.{entry_in, IsRowIn}
use Rattle.spell_types.proofs.RowLemmas.{grown-rows, grown-entries, each-at, like-entry, on-ok}
use Rattle.spell_types.proofs.entries.Entries.push_like.Goals as goal

pub invariant_of-self-2 : goal.invariant_of-self-2
invariant_of-self-2 c =
    let text = string_bytes c.self.inside.text in
    let sets = c.self.inside.sets.items in
    let rows = c.self.inside.rows.items in
    let row = c.index.result.now in
    let within : c.args.place < length rows =
    omega (arith, c.requires, ap length c.self.view_is, length-map rows (entry_in text sets)) in
    let at : slice_get rows c.args.place ≡ Some row =
    slice_get-get_or rows c.args.place row within ∙ ap Some (sym c.index.ensures) in
    grown-rows c.push_row.result text c.args.word.now (string_bytes c.push_str.new.self) sets []
    sets c.in_ok-from.from row.set rows c.push_row.new.rows.items
    (record {
      bytes_are = c.in_ok-push_str.ensures.bytes;
      sets_are = sym (append-nil sets);
      front = IsUtf8-string_bytes c.self.inside.text;
      whole = IsUtf8-string_bytes c.push_str.new.self;
    })
    c.in_ok-from.ensures
    (each-at (IsRowIn text sets) rows c.args.place row c.self.invariant at).set c.self.invariant
    (c.push_row.ensures.ok, c.push_row.ensures.err)

pub returns-clause-ok : goal.returns-clause-ok
returns-clause-ok c =
    let text = string_bytes c.self.inside.text in
    let bytes = string_bytes c.push_str.new.self in
    let sets = c.self.inside.sets.items in
    let rows = c.self.inside.rows.items in
    let now = c.push_row.new.rows.items in
    let row = c.index.result.now in
    let within : c.args.place < length rows =
    omega (arith, c.requires, ap length c.self.view_is, length-map rows (entry_in text sets)) in
    let at : slice_get rows c.args.place ≡ Some row =
    slice_get-get_or rows c.args.place row within ∙ ap Some (sym c.index.ensures) in
    on-ok c.push_row.result
    (λ added entry is.
    subst (λ before. map (entry_in bytes sets) now
    ≡ before ++ record { word = chars c.args.word.now; flags = entry.flags } ∷ []) c.self.view_is
    (subst (λ flags. map (entry_in bytes sets) now
    ≡ map (entry_in text sets) rows ++ record { word = chars c.args.word.now; flags = flags } ∷ [])
    (like-entry text sets rows c.args.self.now c.args.place row entry c.self.view_is at is) added))
    (grown-entries c.push_row.result text c.args.word.now bytes sets [] sets c.in_ok-from.from
    row.set rows now
    (record {
      bytes_are = c.in_ok-push_str.ensures.bytes;
      sets_are = sym (append-nil sets);
      front = IsUtf8-string_bytes c.self.inside.text;
      whole = IsUtf8-string_bytes c.push_str.new.self;
    })
    c.in_ok-from.ensures c.self.invariant (c.push_row.ensures.ok, c.push_row.ensures.err)).0

pub returns-clause-err : goal.returns-clause-err
returns-clause-err c =
    let bytes = string_bytes c.push_str.new.self in
    let sets = c.self.inside.sets.items in
    subst (λ before. OnErr c.push_row.result
    (map (entry_in bytes sets) c.push_row.new.rows.items ≡ before)) c.self.view_is
    (grown-entries c.push_row.result (string_bytes c.self.inside.text) c.args.word.now bytes sets
    [] sets c.in_ok-from.from c.index.result.now.set c.self.inside.rows.items
    c.push_row.new.rows.items
    (record {
      bytes_are = c.in_ok-push_str.ensures.bytes;
      sets_are = sym (append-nil sets);
      front = IsUtf8-string_bytes c.self.inside.text;
      whole = IsUtf8-string_bytes c.push_str.new.self;
    })
    c.in_ok-from.ensures c.self.invariant (c.push_row.ensures.ok, c.push_row.ensures.err)).1
