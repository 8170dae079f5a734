-- The flags of an entry are put at its word, if something is kept there.
use Rattle.std.proofs.Common.{◌∙◌, ◌-◌, sym, arith}
use Rattle.std.proofs.lemmas.Option.{get_or_from_slice_get}
use Rattle.personal_words.proofs.ModelLemmas.{cut-at, turn-put, turn-past, put-has}
use Rattle.personal_words.proofs.models.fill.Goals as goal

pub loop-place-preserved-in_ok-put : goal.loop-place-preserved-in_ok-put
loop-place-preserved-in_ok-put c =
    let before = c.loop-place.invariant in
    let entry = c.at-entry.result in
    let word = c.word-in-loop-place.inside.kept.items in
    record {
      within = omega arith;
      each = λ item has. put-has c.loop-place.models c.put.new.models word c.in_ok-copy.field-0
          c.in_ok-put.ensures item (before.each item has);
      like = turn-put c.args.entries.now c.loop-place.place entry c.loop-place.models
          c.put.new.models word c.in_ok-copy.field-0
          (cut-at c.args.entries.now c.loop-place.place entry c.loop-place-test.true before.within
          (sym (get_or_from_slice_get c.args.entries.now (c.loop-place.place - 1) entry entry
          c.at-entry.ensures)))
          (c.word-in-loop-place.view_is ∙ c.in_ok-word.ensures ∙ c.word.ensures) (c.in_ok-copy.ensures ∙ c.flags.ensures)
          c.in_ok-put.ensures
          before.like;
    }

pub loop-place-preserved : goal.loop-place-preserved
loop-place-preserved c =
    let before = c.loop-place.invariant in
    let entry = c.at-entry.result in
    record {
      within = omega arith;
      each = before.each;
      like = turn-past c.args.entries.now c.loop-place.place entry c.loop-place.models
          c.in_ok-word.word
          (cut-at c.args.entries.now c.loop-place.place entry c.loop-place-test.true before.within
          (sym (get_or_from_slice_get c.args.entries.now (c.loop-place.place - 1) entry entry
          c.at-entry.ensures)))
          (c.in_ok-word.ensures ∙ c.word.ensures) (sym c.if-contains_key.ensures) before.like;
    }
