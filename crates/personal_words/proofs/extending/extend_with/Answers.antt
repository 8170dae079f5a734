-- The parts are those of the dictionary that is asked for.
use Rattle.std.proofs.Common.{◌∙◌, ◌++◌, refl, ap, sym, subst}
use Rattle.mark_types.specs.spell_types.Sanity.{IsSane}
use Rattle.personal_words.proofs.ExtendLemmas.{is-extended, extended-sane}
use Rattle.personal_words.proofs.extending.extend_with.Goals as goal

pub returns-clause-made : goal.returns-clause-made
returns-clause-made c =
    let lexicon = c.args.lexicon in
    is-extended lexicon c.args.own.now c.as_slice.result.now c.unwrap_or-flag.result
    c.with_forbidden.result c.in_ok-joined.field-0 c.unwrap_or-flag.ensures
    c.as_slice.ensures.items c.with_forbidden.ensures
    (c.in_ok-joined.ensures
    ∙ ap (λ more. lexicon.entries ++ more)
    (c.in_ok-more.ensures lexicon refl c.unwrap_or-flag.ensures))

pub returns-clause-sane : goal.returns-clause-sane
returns-clause-sane c =
    subst IsSane (sym (returns-clause-made c))
    (extended-sane c.args.lexicon c.args.own.now c.requires.sane c.requires.few
    c.as_slice.ensures.own)
