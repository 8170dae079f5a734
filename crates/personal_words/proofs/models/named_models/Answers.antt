-- The model of an item is kept, if it has one.
use Rattle.std.proofs.Common.{[], ◌+◌, sym, subst, arith}
use Rattle.personal_words.specs.Models.{HasModel, Puts}
use Rattle.personal_words.proofs.ModelLemmas.{turn-named, turn-unnamed, all-named, put-none}
use Rattle.personal_words.proofs.ModelLemmas.{NamedUpTo}
use Rattle.personal_words.proofs.models.named_models.Goals.{in-Some+in_ok-copy+in_ok-put}
use Rattle.personal_words.proofs.models.named_models.Goals.{in_default}
use Rattle.personal_words.proofs.models.named_models.Goals as goal

pub loop-item-preserved : goal.loop-item-preserved
loop-item-preserved c =
    let before = c.loop-item.invariant in
    let place = c.loop-item.item-index in
    elim c.match-item.branch [
      | in-Some+in_ok-copy+in_ok-put w ↦
          let word = w.in_ok-copy.field-0 in
          let puts : Puts c.loop-item.models word [] w.put.new.models =
          subst (λ flags. Puts c.loop-item.models word flags w.put.new.models) w.new.ensures
          w.in_ok-put.ensures in
          subst (NamedUpTo c.args.items.now (place + 1)) (sym w.models-is) (record {
            each = turn-named c.args.items.now place c.item-item.result c.loop-item-test.true
                c.item-item.is c.loop-item.models w.put.new.models w.in-Some.model word []
                w.in-Some.is w.in_ok-copy.ensures puts before.each;
            like = put-none c.loop-item.models w.put.new.models word puts before.like;
          })
      | in_default w ↦
          subst (NamedUpTo c.args.items.now (place + 1)) (sym w.models-is) (record {
            each = turn-unnamed c.args.items.now place c.item-item.result c.loop-item-test.true
                c.item-item.is c.loop-item.models w.in_default.is before.each;
            like = before.like;
          })
    ]

pub returns-clause-each : goal.returns-clause-each
returns-clause-each c =
    all-named (HasModel c.loop-item.models) c.args.items.now c.loop-item.item-index (omega arith)
    c.loop-item.invariant.each
