-- By what the line adds to the list.
use Rattle.std.proofs.Common.{◌≡◌, ◌∙◌, ◌++◌, ◌∷◌, [], sym, ap, subst, true, false}
use Rattle.personal_words.specs.Lists.{IsAdded, IsOwnLineRefused, added}
use Rattle.personal_words.specs.Dictionaries.{in_force}
use Rattle.own_dictionary.proofs.BaseLemmas.{same-added}
use Rattle.own_dictionary.proofs.asking.OwnDictionaryDictionarySpeller.with_item.Goals as goal

pub returns-in_ok-next-in-Ok-true-clause-more : goal.returns-in_ok-next-in-Ok-true-clause-more
returns-in_ok-next-in-Ok-true-clause-more c =
    let own = c.args.self.now in
    let is : c.lexicon.result.now ≡ in_force own =
    c.lexicon.ensures.same ∙ c.stems.ensures ∙ c.deref.ensures ∙ c.speller.ensures in
    let also = c.in_ok-own.ensures ∙ c.own.ensures in
    let same = same-added own c.args.text.now is also in
    let items = added c.lexicon.result.now.affixes c.in_ok-own.own c.args.text.now in
    let is_added : IsAdded items c.in_ok-own.own true c.add.new.self =
    subst (λ has. IsAdded items c.in_ok-own.own has c.add.new.self) c.in-Ok-true.field-0-test
    c.in-Ok-true.ensures.added in (
      is_added.0,
      sym same ∙ is_added.1,
      c.in_ok-next-in-Ok-true.ensures
          ∙ ap (λ items. record { base = own.base; own = items })
          (is_added.2 ∙ ap (λ items. items ++ is_added.0 ∷ []) also),
    )

pub returns-in-Ok-false-clause-blank : goal.returns-in-Ok-false-clause-blank
returns-in-Ok-false-clause-blank c =
    let own = c.args.self.now in
    let is : c.lexicon.result.now ≡ in_force own =
    c.lexicon.ensures.same ∙ c.stems.ensures ∙ c.deref.ensures ∙ c.speller.ensures in
    let same = same-added own c.args.text.now is (c.in_ok-own.ensures ∙ c.own.ensures) in
    let items = added c.lexicon.result.now.affixes c.in_ok-own.own c.args.text.now in
    let is_added : IsAdded items c.in_ok-own.own false c.add.new.self =
    subst (λ has. IsAdded items c.in_ok-own.own has c.add.new.self) c.in-Ok-false.field-0-test
    c.in-Ok-false.ensures.added in
    sym same ∙ is_added.0

pub returns-in-Err-clause-refused : goal.returns-in-Err-clause-refused
returns-in-Err-clause-refused c =
    let own = c.args.self.now in
    let is : c.lexicon.result.now ≡ in_force own =
    c.lexicon.ensures.same ∙ c.stems.ensures ∙ c.deref.ensures ∙ c.speller.ensures in
    let same = same-added own c.args.text.now is (c.in_ok-own.ensures ∙ c.own.ensures) in
    subst (λ due. IsOwnLineRefused due c.in-Err.fault) same c.in-Err.ensures.refused
