-- One place after another.
use Rattle.std.proofs.Common.{ap, subst, ℕ, ◌≤◌}
use Rattle.board_share.specs.edit_core.declared.view.Versions.{Versions}
use Rattle.check_workers.proofs.Later.{counts-self, counts-trans, later-self, later-trans}
use Rattle.check_workers.proofs.OneByOne.{settled-more, settled-none, settled-whole}
use Rattle.check_workers.proofs.settling.settle_board.Goals as goal

pub loop-place-init : goal.loop-place-init
loop-place-init g c = record {
  later = later-self c.args.eye.now;
  counts = counts-self c.args.eye.now;
  settled = settled-none c.args.board.now c.args.eye.now;
}

pub loop-place-preserved : goal.loop-place-preserved
loop-place-preserved g c =
    let old = c.args.eye.now in
    let middle = c.loop-place.eye in
    let new = c.settle_place.new.eye in
    let kept = c.loop-place.invariant in
    let made = c.settle_place.ensures in
    let later = later-trans old middle new kept.later made.later in
    record {
      later = later;
      counts = counts-trans old middle new kept.counts made.counts;
      settled = settled-more c.loop-place.place c.args.board.now old middle new c.requires later
          kept.settled made.later c.in_ok-settle_place.ensures.closed;
    }

pub returns-clause-settled : goal.returns-clause-settled
returns-clause-settled g c =
    settled-whole c.loop-place.place c.args.board.now c.args.eye.now c.loop-place.eye
    (subst (λ (n : ℕ). n ≤ c.loop-place.place)
    (ap (λ (v : Versions). v.paragraphs) c.versions-place-end.ensures.versions)
    c.loop-place-test.false)
    c.loop-place.invariant.settled
