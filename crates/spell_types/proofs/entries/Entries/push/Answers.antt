-- A row is added over the longer text and the sets.
use Rattle.std.proofs.Common.{◌≡◌, ◌∙◌, ◌∷◌, [], ◌++◌, ap, ap₂, sym, subst, OnOk, OnErr, map}
use Rattle.std.proofs.Common.{get_or, length}
use Rattle.std.proofs.Common.{◌<◌, arith, length-append}
use Rattle.std.specs.Str.{chars}
use Rattle.std.specs.String.{string_bytes}
use Rattle.std.proofs.lemmas.List.{append-nil}
use Rattle.std.proofs.lemmas.Str.{IsUtf8-string_bytes}
use Rattle.spell_types.specs.Rows.{entry_in}
use Rattle.spell_types.proofs.RowLemmas.{grown-alone, kept-entries, grown-rows, grown-entries}
use Rattle.spell_types.proofs.RowLemmas.{last-set, on-err}
use Rattle.spell_types.proofs.entries.Entries.push.Goals as goal

pub invariant_of-self-in_err-push_str : goal.invariant_of-self-in_err-push_str
invariant_of-self-in_err-push_str c =
    let text = string_bytes c.self.inside.text in
    grown-alone text [] (string_bytes c.push_str.new.self) c.self.inside.sets.items
    (c.args.flags ∷ []) c.push_set.new.sets.items c.self.inside.rows.items
    (c.in_err-push_str.ensures.bytes ∙ sym (append-nil text)) c.in_ok-set.ensures.ok
    c.self.invariant

pub returns-in_err-push_str-clause-err : goal.returns-in_err-push_str-clause-err
returns-in_err-push_str-clause-err c =
    let text = string_bytes c.self.inside.text in
    on-err c.from_residual-in_err-push_str.result
    (kept-entries text [] (string_bytes c.push_str.new.self) c.self.inside.sets.items
    (c.args.flags ∷ []) c.push_set.new.sets.items c.self.inside.rows.items
    (c.in_err-push_str.ensures.bytes ∙ sym (append-nil text)) c.in_ok-set.ensures.ok
    c.self.invariant
    ∙ c.self.view_is)

pub invariant_of-self-2 : goal.invariant_of-self-2
invariant_of-self-2 c =
    let sets = c.self.inside.sets.items in
    let all = c.push_set.new.sets.items in
    let has : c.in_ok-set.set < length all =
    omega (
      arith,
      c.in_ok-set.ensures.number,
      ap length c.in_ok-set.ensures.ok,
      length-append sets (c.args.flags ∷ []),
    ) in
    grown-rows c.push_row.result (string_bytes c.self.inside.text) c.args.word.now
    (string_bytes c.push_str.new.self) sets (c.args.flags ∷ []) all c.in_ok-from.from
    c.in_ok-set.set c.self.inside.rows.items c.push_row.new.rows.items
    (record {
      bytes_are = c.in_ok-push_str.ensures.bytes;
      sets_are = c.in_ok-set.ensures.ok;
      front = IsUtf8-string_bytes c.self.inside.text;
      whole = IsUtf8-string_bytes c.push_str.new.self;
    })
    c.in_ok-from.ensures has c.self.invariant (c.push_row.ensures.ok, c.push_row.ensures.err)

pub returns-clause-ok : goal.returns-clause-ok
returns-clause-ok c =
    let text = string_bytes c.self.inside.text in
    let bytes = string_bytes c.push_str.new.self in
    let sets = c.self.inside.sets.items in
    let all = c.push_set.new.sets.items in
    let rows = c.self.inside.rows.items in
    let now = c.push_row.new.rows.items in
    let own : get_or all c.in_ok-set.set [] ≡ c.args.flags =
    ap₂ (λ ss number. get_or ss number []) c.in_ok-set.ensures.ok c.in_ok-set.ensures.number
    ∙ last-set sets c.args.flags in
    subst (λ before. OnOk c.push_row.result (map (entry_in bytes all) now
    ≡ before ++ record { word = chars c.args.word.now; flags = c.args.flags } ∷ []))
    c.self.view_is
    (subst (λ flags. OnOk c.push_row.result (map (entry_in bytes all) now
    ≡ map (entry_in text sets) rows ++ record { word = chars c.args.word.now; flags = flags } ∷ []))
    own
    (grown-entries c.push_row.result text c.args.word.now bytes sets (c.args.flags ∷ []) all
    c.in_ok-from.from c.in_ok-set.set rows now
    (record {
      bytes_are = c.in_ok-push_str.ensures.bytes;
      sets_are = c.in_ok-set.ensures.ok;
      front = IsUtf8-string_bytes c.self.inside.text;
      whole = IsUtf8-string_bytes c.push_str.new.self;
    })
    c.in_ok-from.ensures c.self.invariant (c.push_row.ensures.ok, c.push_row.ensures.err)).0)

pub returns-clause-err : goal.returns-clause-err
returns-clause-err c =
    let bytes = string_bytes c.push_str.new.self in
    let all = c.push_set.new.sets.items in
    subst (λ before. OnErr c.push_row.result
    (map (entry_in bytes all) c.push_row.new.rows.items ≡ before))
    c.self.view_is
    (grown-entries c.push_row.result (string_bytes c.self.inside.text) c.args.word.now bytes
    c.self.inside.sets.items (c.args.flags ∷ []) all c.in_ok-from.from c.in_ok-set.set
    c.self.inside.rows.items c.push_row.new.rows.items
    (record {
      bytes_are = c.in_ok-push_str.ensures.bytes;
      sets_are = c.in_ok-set.ensures.ok;
      front = IsUtf8-string_bytes c.self.inside.text;
      whole = IsUtf8-string_bytes c.push_str.new.self;
    })
    c.in_ok-from.ensures c.self.invariant (c.push_row.ensures.ok, c.push_row.ensures.err)).1
