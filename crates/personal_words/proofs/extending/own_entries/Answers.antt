-- The entry of one item more.
use Rattle.std.proofs.Common.{◌∙◌, ◌∷◌, [], ap, map, subst}
use Rattle.std.proofs.lemmas.List.{take_all}
use Rattle.personal_words.specs.Extended.{entry_of_item}
use Rattle.mark_types.specs.spell_types.Flags.{put}
use Rattle.personal_words.specs.Models.{AreLike}
use Rattle.personal_words.proofs.ExtendLemmas.{more-entries}
use Rattle.personal_words.proofs.extending.own_entries.Goals as goal

pub loop-item-preserved : goal.loop-item-preserved
loop-item-preserved c = λ lexicon is flag_is.
    let barred =
    c.in_ok-insert.ensures.ok ∙ ap (put c.args.flag) c.new-barred.ensures
    ∙ ap (λ flag. flag ∷ []) flag_is in
    more-entries lexicon c.args.items.now c.loop-item.item-index c.item-item.result
    c.loop-item.made.items c.push.new.self.items c.in_ok-entry_of_item.field-0
    c.loop-item-test.true
    c.item-item.is (c.loop-item.invariant lexicon is flag_is)
    (c.in_ok-entry_of_item.ensures lexicon
    (subst (λ entries. AreLike entries c.in_ok-models.models) is
    c.in_ok-models.ensures.like) barred)
    c.in_ok-push.ensures.items

pub returns : goal.returns
returns c = λ lexicon is flag_is.
    c.loop-item.invariant lexicon is flag_is
    ∙ ap (map (entry_of_item lexicon))
    (take_all c.loop-item.item-index c.args.items.now c.loop-item-test.false)
