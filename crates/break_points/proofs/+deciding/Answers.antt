-- The judge's answer decides a piece, or else its ways do, whose pieces are pieces of the word.
use Rattle.std.proofs.Common.{rules, arith, sym, ap, ◌∙◌, ◌≡◌, true, false, drop, take, take_all}
use Rattle.std.proofs.Common.{get_or}
use Rattle.std.specs.Prelude.{slice_range}
use Rattle.std.specs.List.{list_any}
use Rattle.std.proofs.lemmas.Fn.{says_at}
use Rattle.std.proofs.lemmas.List.Folds.{list_any_at}
use Rattle.break_points.specs.declared.occurrences.Occurrence.{Occurrence}
use Rattle.break_points.specs.Occurrences.{way_by, way_passes}
use Rattle.break_points.specs.Pieces.{all_left, is_broken_as_judged, is_shorter}
use Rattle.break_points.proofs.Deciding.{ok_weaker, base_decided, barred_decided, parts_decided}
use Rattle.break_points.proofs.Deciding.{behind_same, before_same, front_within, both_decided}
use Rattle.break_points.proofs.OccurrenceWays.{occurrences_decide, way-shorter}
use Rattle.break_points.proofs.+deciding.Goals as goal

pub decide_anew-returns-in-Base : goal.decide_anew-returns-in-Base
decide_anew-returns-in-Base g t c = λ judged breaks answers are right. (
  base_decided judged breaks (slice_range c.args.word.now c.args.piece.from c.args.piece.to)
      c.in_ok-judge.field-0 (answers _ _ (says_at g.F.Fn c.judge.ensures c.in_ok-judge.was))
      c.in-Base.is,
  right,
)

pub decide_anew-returns-in-Barred : goal.decide_anew-returns-in-Barred
decide_anew-returns-in-Barred g t c = λ judged breaks answers are right. (
  barred_decided judged breaks (slice_range c.args.word.now c.args.piece.from c.args.piece.to)
      c.in_ok-judge.field-0 (answers _ _ (says_at g.F.Fn c.judge.ensures c.in_ok-judge.was))
      c.in-Barred.is,
  right,
)

pub decide_anew-returns-in-Other : goal.decide_anew-returns-in-Other
decide_anew-returns-in-Other g t c = λ judged breaks answers are right.
    ok_weaker c.decide_parts.result _ _
    (λ answer p. (
      parts_decided judged breaks (slice_range c.args.word.now c.args.piece.from c.args.piece.to)
          c.in_ok-judge.field-0 answer
          (answers _ _ (says_at g.F.Fn c.judge.ensures c.in_ok-judge.was)) c.in-Other.is p.0,
      p.1,
    ))
    (c.decide_parts.ensures judged breaks answers are right)

pub decide_parts-decide_way-requires : goal.decide_parts-decide_way-requires
decide_parts-decide_way-requires g t c κs within =
    let occurrence : Occurrence =
    get_or c.args.occurrences.now c.loop-occurrence.occurrence-index
    (record { place = 0; len = 0; front = false; back = false }) in
    let shorter : is_shorter (slice_range c.args.word.now c.args.piece.from c.args.piece.to)
    c.in-Some.way ≡ true =
    way-shorter occurrence.front occurrence.back c.args.word.now c.args.piece.from c.args.piece.to
    occurrence.place occurrence.len c.in-Some.way c.requires.within (sym c.in-Some.ensures) in
    search rules

pub decide_parts-returns-then-branch : goal.decide_parts-returns-then-branch
decide_parts-returns-then-branch g t c = λ judged breaks answers are right.
    let so_far = c.loop-occurrence.invariant judged breaks answers are right in
    let here = c.in_ok-decide_way.ensures judged breaks answers are so_far.1 in
    let test = all_left (is_broken_as_judged judged breaks)
    (slice_range c.args.word.now c.args.piece.from c.args.piece.to) in (
      sym (list_any_at (λ occurrence. way_passes test (way_by occurrence c.args.piece))
          c.args.occurrences.now c.loop-occurrence.occurrence-index
          (record { place = 0; len = 0; front = false; back = false }) (omega arith)
          (ap (way_passes test) (sym c.in-Some.ensures) ∙ sym here.0 ∙ c.if-branch.true))
          ∙ occurrences_decide (is_broken_as_judged judged breaks) breaks c.args.word.now
          c.args.occurrences.now c.args.piece c.requires.within are,
      here.1,
    )

pub decide_parts-returns : goal.decide_parts-returns
decide_parts-returns g t c = λ judged breaks answers are right.
    let so_far = c.loop-occurrence.invariant judged breaks answers are right in
    let test = all_left (is_broken_as_judged judged breaks)
    (slice_range c.args.word.now c.args.piece.from c.args.piece.to) in (
      sym so_far.0 ∙ ap (list_any (λ occurrence. way_passes test (way_by occurrence c.args.piece)))
          (take_all c.loop-occurrence.occurrence-index c.args.occurrences.now (omega arith))
          ∙ occurrences_decide (is_broken_as_judged judged breaks) breaks c.args.word.now
          c.args.occurrences.now c.args.piece c.requires.within are,
      so_far.1,
    )

pub decide_way-returns-in-Behind : goal.decide_way-returns-in-Behind
decide_way-returns-in-Behind g t c = λ judged breaks answers are right.
    let word = c.args.word.now in
    let piece = slice_range word c.args.piece.from c.args.piece.to in
    let test = is_broken_as_judged judged breaks in
    ok_weaker c.decide-in-Behind.result _ _
    (λ answer p. (
      p.0 ∙ ap test
          (behind_same word c.args.piece c.behind-in-Behind.result c.in-Behind.start
          c.behind-in-Behind.ensures.from c.behind-in-Behind.ensures.to)
          ∙ ap (all_left test piece) (sym c.in-Behind.is),
      p.1,
    ))
    (c.decide-in-Behind.ensures judged breaks answers are right)

pub decide_way-returns-in_ok-decide-in-Between-2 :
    goal.decide_way-returns-in_ok-decide-in-Between-2
decide_way-returns-in_ok-decide-in-Between-2 g t c = λ judged breaks answers are right.
    let word = c.args.word.now in
    let piece = slice_range word c.args.piece.from c.args.piece.to in
    let test = is_broken_as_judged judged breaks in
    let first = c.in_ok-decide-in-Between.ensures judged breaks answers are right in
    let second = c.in_ok-decide-in-Between-2.ensures judged breaks answers are first.1 in
    let within =
    front_within piece c.args.way c.in-Between.end c.in-Between.start c.in-Between.is
    c.requires.shorter in (
      both_decided (test (take c.in-Between.end piece)) (test (drop c.in-Between.start piece))
          c.in_ok-decide-in-Between.field-0 c.in_ok-decide-in-Between-2.field-0
          (first.0 ∙ ap test
          (before_same word c.args.piece c.before-in-Between.result c.in-Between.end within
          c.before-in-Between.ensures.from c.before-in-Between.ensures.to))
          (second.0 ∙ ap test
          (behind_same word c.args.piece c.behind.result c.in-Between.start
          c.behind.ensures.from c.behind.ensures.to))
          c.if-branch.true
          ∙ ap (all_left test piece) (sym c.in-Between.is),
      second.1,
    )
