-- The texts at one place more.
use Rattle.std.proofs.Common.{◌≡◌, ◌⊎◌, inl, inr, ◌+◌, ◌<◌, ◌≤◌, map, arith}
use Rattle.std.specs.List.{Contains}
use Rattle.std.proofs.lemmas.Bool.{cases_lt}
use Rattle.break_points.specs.declared.occurrences.Occurrence.{Occurrence}
use Rattle.break_points.specs.Patterns.{anchored_of}
use Rattle.break_points.specs.Occurrences.{IsOccurrence}
use Rattle.break_points.proofs.occurrences.occurrences_in.Goals as goal

either : (c : goal.In_ok-add_occurrences) (occurrence : Occurrence)
    → occurrence.place < c.loop-place.place + 1
    → IsOccurrence (map anchored_of c.args.patterns.now) c.args.word.now occurrence
    → (occurrence.place < c.loop-place.place) ⊎ (c.loop-place.place ≤ occurrence.place)
    → Contains c.add_occurrences.new.occurrences.items occurrence
either c occurrence below is (inl less) =
    c.in_ok-add_occurrences.ensures.kept occurrence
    (c.loop-place.invariant.whole occurrence less is)
either c occurrence below is (inr more) =
    let here : occurrence.place ≡ c.loop-place.place =
    omega (arith, below, more) in c.in_ok-add_occurrences.ensures.whole occurrence here is

pub loop-place-preserved : goal.loop-place-preserved
loop-place-preserved c = record {
  sound = c.in_ok-add_occurrences.ensures.sound c.loop-place.invariant.sound;
  whole = λ occurrence below is. either c occurrence below is
      (cases_lt occurrence.place c.loop-place.place);
}
