-- The judge decides the word, or the texts of patterns that stand in it do.
use Rattle.std.proofs.Common.{◌≡◌, ◌∙◌, refl, sym, ap, subst, length, map, vec_len, eqb-true, arith}
use Rattle.std.specs.List.{list_any}
use Rattle.std.proofs.lemmas.Fn.{says_at}
use Rattle.break_points.specs.declared.table.Stretch.{Stretch}
use Rattle.break_points.specs.Occurrences.{AreOccurrences}
use Rattle.break_points.specs.Patterns.{anchored_of}
use Rattle.break_points.specs.Pieces.{all_left, is_broken_as_judged, is_broken_piece, ways_of}
use Rattle.break_points.proofs.Deciding.{ok_weaker, base_decided, barred_decided, parts_decided}
use Rattle.break_points.proofs.Deciding.{whole_word}
use Rattle.break_points.proofs.OccurrenceWays.{no_occurrences}
use Rattle.break_points.proofs.breaks.Breaks.broken.Goals as goal

pub returns-in-Base : goal.returns-in-Base
returns-in-Base g c = λ judged answers.
    base_decided judged c.args.self.now c.args.word.now c.in_ok-judge.field-0
    (answers _ _ (says_at g.F.Fn c.judge.ensures c.in_ok-judge.was)) c.in-Base.is

pub returns-in-Barred : goal.returns-in-Barred
returns-in-Barred g c = λ judged answers.
    barred_decided judged c.args.self.now c.args.word.now c.in_ok-judge.field-0
    (answers _ _ (says_at g.F.Fn c.judge.ensures c.in_ok-judge.was)) c.in-Barred.is

pub returns-then-is_empty : goal.returns-then-is_empty
returns-then-is_empty g c = λ judged answers.
    let occurrences = c.in_ok-occurrences.occurrences.items in
    let none : length occurrences ≡ 0 =
    omega (
      arith,
      eqb-true (vec_len c.in_ok-occurrences.occurrences) 0
          (sym c.if-is_empty.ensures),
      c.in_ok-occurrences.occurrences.ok,
    ) in
    parts_decided judged c.args.self.now c.args.word.now c.in_ok-judge.field-0 _
    (answers _ _ (says_at g.F.Fn c.judge.ensures c.in_ok-judge.was)) c.in-Other.is
    (no_occurrences (is_broken_as_judged judged c.args.self.now) c.args.self.now c.args.word.now
    occurrences none
    (subst (λ breaks. AreOccurrences breaks c.args.word.now occurrences)
    (ap (map anchored_of) c.as_slice.ensures.value ∙ c.self.view_is)
    c.in_ok-occurrences.ensures))

pub returns : goal.returns
returns g c = λ judged answers.
    let breaks = c.args.self.now in
    let word = c.args.word.now in
    let occurrences = c.in_ok-occurrences.occurrences.items in
    let piece : Stretch = record { from = 0; to = length word } in
    let are : AreOccurrences breaks word occurrences =
    subst (λ breaks. AreOccurrences breaks word occurrences)
    (ap (map anchored_of) c.as_slice.ensures.value ∙ c.self.view_is)
    c.in_ok-occurrences.ensures in
    let test = is_broken_as_judged judged breaks in
    ok_weaker c.decide_parts.result _ _
    (λ answer p. parts_decided judged breaks word c.in_ok-judge.field-0 answer
    (answers _ _ (says_at g.F.Fn c.judge.ensures c.in_ok-judge.was)) c.in-Other.is
    (p.0 ∙ ap (λ w. list_any (all_left test w) (ways_of breaks w))
    (whole_word word piece refl refl)))
    (c.decide_parts.ensures judged breaks answers
    (subst (AreOccurrences breaks word) (sym c.as_slice-2.ensures.value) are)
    (c.new-table.ensures (is_broken_piece judged breaks word)))
