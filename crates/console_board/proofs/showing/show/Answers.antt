-- One text is shown after another, and at last all of them.
use Rattle.std.proofs.Common.{◌∙◌, ap, ◌≤◌, length, arith}
use Rattle.console_board.proofs.ConsoleViews.{all-shown}
use Rattle.console_board.proofs.showing.show.Goals as goal

pub returns : goal.returns
returns g c =
    let board = c.args.board.now in
    let few : length board.paragraphs ≤ c.loop-place.place =
    omega (arith, ap (λ p. p.paragraphs) c.versions-versions.ensures.versions) in
    cc (
      ap (λ p. p.text) c.versions-versions.ensures.versions,
      ap (λ p. p.dict) c.versions-versions.ensures.versions,
      c.loop-place.invariant ∙ all-shown board c.loop-place.place c.board_is_valid.ensures few,
    )
