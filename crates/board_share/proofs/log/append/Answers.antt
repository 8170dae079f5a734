-- Whatever the number is by then, the step keeps the rule.
use Rattle.std.proofs.Common.{◌∙◌, sym, ap}
use Rattle.board_share.proofs.Appending.{append-moves}
use Rattle.board_share.proofs.log.append.Goals as goal

pub compare_exchange-requires : goal.compare_exchange-requires
compare_exchange-requires g c =
    let head = c.requires.head in
    let offer = c.plain-offer.ensures in
    let pen = c.no_pen-pen.ensures in (
      ap (λ w. w.tracked) head,
      sym (ap (λ w. w.book) head),
      pen.0 ∙ sym (ap (λ w. w.book) head),
      offer.0,
      rw (ap (λ w. w.key) head, pen.1, offer.1, offer.3)
          (append-moves c.args.seen.now.log c.args.entry.now c.args.count (sym c.requires.count)),
    )
