-- The entry is that which was found, and texts are known as before, with one more.
use Rattle.std.proofs.Common.{◌≡◌, ◌∷◌, [], ◌++◌, ap₂, sym, subst, OnOk}
use Rattle.std.specs.Str.{chars}
use Rattle.dic_reader.specs.KnownSets.{IsSetOf, AreFlagsOf, flags_in}
use Rattle.dic_reader.proofs.KnownLemmas.{known-stay, known-more, on-ok}
use Rattle.dic_reader.proofs.known_sets.add.Goals as goal

pub returns-clause-added : goal.returns-clause-added
returns-clause-added c =
    let entries = c.args.entries.now in
    subst (λ entry. OnOk c.push.result (c.push.new.self ≡ entries ++ entry ∷ []))
    (ap₂ (λ bytes flags. record { word = chars bytes; flags = flags_in entries flags })
    c.as_str-in-New.ensures (sym c.in-New.is))
    c.push.ensures.ok

pub returns-clause-known : goal.returns-clause-known
returns-clause-known c = λ affixes text are flags.
    let entries = c.args.entries.now in
    let found = subst (AreFlagsOf affixes entries text) c.in-New.is flags in
    on-ok c.push.result
    (λ added.
    known-more affixes entries c.push.new.self _ c.args.known.now c.insert.new.self
    c.in-New.text _ c.in_ok-insert-in-New.ensures.updates.0 c.len.ensures added
    (subst (λ own. IsSetOf affixes own c.in-New.set) (sym found.0) found.1) are)
    c.push.ensures.ok

pub returns-in-Like-clause-known : goal.returns-in-Like-clause-known
returns-in-Like-clause-known c = λ affixes text are flags.
    let entries = c.args.entries.now in
    let found = subst (AreFlagsOf affixes entries text) c.in-Like.is flags in
    on-ok c.push_like.result
    (λ added. known-stay affixes entries c.push_like.new.self _ c.args.known.now
    (added found.entry found.at) are)
    c.push_like.ensures.ok
