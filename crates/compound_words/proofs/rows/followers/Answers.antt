-- The rest at the loop's place is there, if the part may stand before it.
use Rattle.std.proofs.Common.{◌∙◌, ◌++◌, [], ◌∷◌, sym, ap, cond, filter, get_or, append-nil}
use Rattle.std.proofs.lemmas.List.{map-append}
use Rattle.std.specs.Option.{option_map, option_to_list}
use Rattle.compound_words.specs.Rests.{asked_by, may_precede, rests_at}
use Rattle.compound_words.proofs.HeadLemmas.{followers-turn, looked-at}
use Rattle.compound_words.proofs.rows.followers.Goals.{in-Some+then-do_meet+in_ok-push}
use Rattle.compound_words.proofs.rows.followers.Goals.{in-Some+else-do_meet, in_default}
use Rattle.compound_words.proofs.rows.followers.Goals as goal

pub loop-place-preserved : goal.loop-place-preserved
loop-place-preserved c =
    let rests = c.args.piece.now.rests.now in
    let heads = c.args.piece.now.heads.now in
    let place = get_or heads c.loop-place.place-index 0 in
    let before = rests_at c.loop-place.found.items in
    let test = may_precede (asked_by c.args.search.now) c.args.part.now in
    let turn =
    followers-turn (asked_by c.args.search.now) c.args.part.now rests heads c.loop-place.place-index
    before c.loop-place-test.true c.loop-place.invariant in
    elim c.match-rest_at.branch [
      | in-Some+then-do_meet+in_ok-push w ↦
          ap (λ found. rests_at found.items) w.found-is ∙ ap rests_at w.in_ok-push.ensures.items
          ∙ map-append (λ rest. rest.now) c.loop-place.found.items (w.in-Some.rest ∷ [])
          ∙ ap (λ b. before ++ cond b (w.in-Some.rest.now ∷ []) []) w.if-do_meet.ensures
          ∙ ap (λ o. before ++ filter test (option_to_list o))
          (sym (looked-at rests place c.rest_at.result w.in-Some.rest c.rest_at.ensures
          w.in-Some.is))
          ∙ turn
      | in-Some+else-do_meet w ↦
          ap (λ found. rests_at found.items) w.found-is ∙ sym (append-nil before)
          ∙ ap (λ b. before ++ cond b (w.in-Some.rest.now ∷ []) []) w.if-do_meet.ensures
          ∙ ap (λ o. before ++ filter test (option_to_list o))
          (sym (looked-at rests place c.rest_at.result w.in-Some.rest c.rest_at.ensures
          w.in-Some.is))
          ∙ turn
      | in_default w ↦
          ap (λ found. rests_at found.items) w.found-is ∙ sym (append-nil before)
          ∙ ap (λ o. before ++ filter test (option_to_list o))
          (ap (option_map (λ r. r.now)) (sym w.in_default.is) ∙ c.rest_at.ensures)
          ∙ turn
    ]
