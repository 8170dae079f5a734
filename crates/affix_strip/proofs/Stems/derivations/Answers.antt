-- What is found, in order, is the list of all derivations.
use Rattle.std.proofs.Common.{◌∙◌, ap}
use Rattle.affix_strip.specs.Found.{derivations_of}
use Rattle.affix_strip.proofs.SameLemmas.{same-derivations}
use Rattle.affix_strip.proofs.QuestionLemmas.{listed}
use Rattle.affix_strip.proofs.Stems.derivations.Goals as goal

pub returns : goal.returns
returns c =
    let lexicon = c.self.inside.dictionary.lexicon in
    same-derivations lexicon c.args.word.now c.put_in_order.new.found.items
    c.put_in_order.ensures.order
    (λ d. (
      λ inside. (listed lexicon c.args.word.now _ _ _ c.new-found.ensures.items
          c.in_ok-visit_all.ensures d).0 ((c.put_in_order.ensures.members d).0 inside),
      λ gives. (c.put_in_order.ensures.members d).1
          ((listed lexicon c.args.word.now _ _ _ c.new-found.ensures.items c.in_ok-visit_all.ensures
          d).1 gives),
    ))
    ∙ ap (λ given. derivations_of given c.args.word.now) c.self.view_is
