-- So far the words before the loop's place are there, each with what stands behind it.
use Rattle.std.proofs.Common.{◌≡◌, ◌≤◌, ◌+◌, ◌-◌, ◌*◌, length}
use Rattle.work_maker.specs.Made.{drawn, drawn_word}
use Rattle.work_maker.proofs.MadeLemmas.{run}
use Rattle.work_maker.proofs.make_text.Given as goal

abbrev pub invariant-loop-place : goal.invariant-loop-place
invariant-loop-place l = record {
  bytes : l.made.items ≡ run (λ place. drawn_word l.fn.size (drawn l.fn.start place)) l.fn.size 1
      (l.place - 1);
  draw : l.draw.number ≡ drawn l.fn.start (l.place - 1);
  small : length l.made.items + 10 ≤ 10 * l.place;
}
