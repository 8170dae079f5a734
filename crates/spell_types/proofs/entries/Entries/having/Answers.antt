-- What is told of the set of a row is told of its entry's flags.
use Rattle.std.proofs.Common.{◌∙◌, ap, map, get_or, false}
use Rattle.std.specs.String.{string_bytes}
use Rattle.spell_types.specs.Flags.{has_flag_of}
use Rattle.spell_types.proofs.RowLemmas.{told-rows, if-ok}
use Rattle.spell_types.proofs.entries.Entries.having.Goals as goal

pub returns : goal.returns
returns c =
    let tells = has_flag_of c.args.flags.now in
    if-ok c.told_by_rows.result
    (λ told is.
    is
    ∙ ap (map (λ row. get_or c.deref-3.result.now row.set false)) c.deref-2.ensures.value
    ∙ told-rows tells (string_bytes c.self.inside.text) c.self.inside.sets.items
    c.self.inside.rows.items c.deref-3.result.now
    (c.deref-3.ensures.value ∙ c.in_ok-by_set.ensures ∙ ap (map tells) c.deref.ensures.value)
    c.self.invariant
    ∙ ap (map (λ entry. tells entry.flags)) c.self.view_is) c.told_by_rows.ensures
