-- The derivation from one entry more is shown, if it is licensed.
use Rattle.std.proofs.Common.{◌≡◌, refl, true, get_or, arith}
use Rattle.spell_types.specs.Derivations.{derivation_of}
use Rattle.spell_types.specs.Licences.{is_licensed}
use Rattle.affix_strip.proofs.ShowLemmas.{loop-first, loop-more, loop-end, loop-last}
use Rattle.affix_strip.proofs.walk.visit_entries.Goals as goal

pub loop-entry-init : goal.loop-entry-init
loop-entry-init g c =
    loop-first (λ entry d. (d ≡ derivation_of entry c.args.prefix c.args.first c.args.second)
    × (is_licensed c.args.lexicon.now d ≡ true)) c.args.entries.now

pub returns-then-branch : goal.returns-then-branch
returns-then-branch g c =
    loop-end (λ entry d. (d ≡ derivation_of entry c.args.prefix c.args.first c.args.second)
    × (is_licensed c.args.lexicon.now d ≡ true)) c.args.entries.now c.loop-entry.entry-index
    (get_or c.args.entries.now c.loop-entry.entry-index 0) 0
    (omega arith) refl c.loop-entry.invariant c.in_ok-visit_licensed.ensures c.if-branch.true

pub loop-entry-preserved : goal.loop-entry-preserved
loop-entry-preserved g c =
    loop-more (λ entry d. (d ≡ derivation_of entry c.args.prefix c.args.first c.args.second)
    × (is_licensed c.args.lexicon.now d ≡ true)) c.args.entries.now c.loop-entry.entry-index
    (get_or c.args.entries.now c.loop-entry.entry-index 0) 0
    (omega arith) refl c.loop-entry.invariant c.in_ok-visit_licensed.ensures c.if-branch.false

pub returns : goal.returns
returns g c =
    loop-last (λ entry d. (d ≡ derivation_of entry c.args.prefix c.args.first c.args.second)
    × (is_licensed c.args.lexicon.now d ≡ true)) c.args.entries.now c.loop-entry.entry-index
    (omega arith) c.loop-entry.invariant
