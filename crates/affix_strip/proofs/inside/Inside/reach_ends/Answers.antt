-- The places are told to which parts lead with the prefixes that may stand there.
use Rattle.std.proofs.Common.{◌∙◌, sym, subst}
use Rattle.spell_types.specs.lists.Laws.{take-rest}
use Rattle.affix_strip.specs.Inside.{ReachesEnds, ReachesParts}
use Rattle.affix_strip.proofs.InsideLemmas.{ends-first, ends-middle}
use Rattle.affix_strip.proofs.inside.Inside.reach_ends.Goals as goal

pub returns-in-First : goal.returns-in-First
returns-in-First c = λ lexicon is.
    let inside = c.args.self.now in
    let word = c.args.word.now in
    subst (λ place. ReachesEnds lexicon place word c.args.from c.args.reached.now
    c.reach_parts.new.reached) (sym c.in-First.is)
    (ends-first c.sets_have_their_flags.ensures.told lexicon inside is word c.args.from
    (is.two ∙ c.if-self.false)
    (subst (λ text. ReachesParts inside.known inside.begins inside.ends text c.args.from
    c.args.reached.now c.reach_parts.new.reached) (take-rest c.args.from word)
    c.reach_parts.ensures))

pub returns-in-Middle : goal.returns-in-Middle
returns-in-Middle c = λ lexicon is.
    let inside = c.args.self.now in
    let word = c.args.word.now in
    subst (λ place. ReachesEnds lexicon place word c.args.from c.args.reached.now
    c.reach_parts-in-Middle.new.reached) (sym c.in-Middle.is)
    (ends-middle c.sets_have_their_flags.ensures.told lexicon inside is word c.args.from
    (is.two ∙ c.if-self.false)
    (subst (λ text. ReachesParts inside.known inside.fronts inside.ends text c.args.from
    c.args.reached.now c.reach_parts-in-Middle.new.reached) (take-rest c.args.from word)
    c.reach_parts-in-Middle.ensures))
