-- Each entry's flags are those of a set, and all of those are gathered.
use Rattle.std.proofs.Common.{◌∙◌, ap, [], slice_get}
use Rattle.std.specs.List.{flat_map}
use Rattle.std.specs.String.{string_bytes}
use Rattle.spell_types.specs.Flags.{put_all}
use Rattle.spell_types.proofs.RowLemmas.{has-all, if-ok}
use Rattle.spell_types.proofs.entries.Entries.flags.Goals as goal

pub returns : goal.returns
returns c =
    if-ok c.from_list.result
    (λ set is place entry flag at holds.
    has-all (string_bytes c.self.inside.text) c.self.inside.sets.items set c.self.inside.rows.items
    place entry flag (is ∙ ap (put_all [])
    (c.in_ok-flags_in.ensures ∙ ap (flat_map (λ set. set)) c.deref.ensures.value)) c.self.invariant
    (ap (λ all. slice_get all place) c.self.view_is ∙ at) holds) c.from_list.ensures
