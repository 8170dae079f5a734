-- By what is shown of the paragraph.
use Rattle.std.proofs.Common.{◌≡◌, ◌∙◌, sym, true, false}
use Rattle.std.specs.Arc.{arc_value}
use Rattle.board_share.specs.edit_core.Views.{shown_in}
use Rattle.board_share.specs.Eyes.{last_of}
use Rattle.check_workers.proofs.OneByOne.{spent-over}
use Rattle.check_workers.proofs.Shown.{has-open, open-shown}
use Rattle.check_workers.proofs.settling.settle_place.Goals as goal

pub returns-then-not-is_open-clause-closed : goal.returns-then-not-is_open-clause-closed
returns-then-not-is_open-clause-closed g c paragraph stands at beside free =
    let shut : true ≡ false =
    sym free
    ∙ (sym (open-shown c.args.board.now c.args.place (shown_in c.in-Some.view.shown) stands
    c.in-Some.ensures.some.shown beside) ∙ (sym c.is_open.ensures ∙ c.if-not-is_open.true)) in
    absurd (cc)

pub check_all-requires : goal.check_all-requires
check_all-requires g c =
    let open' = c.in_ok-open.open in
    let run = c.args.eye.now.run in
    c.known_texts_are_short.ensures run open'.id open'.rev open'.dict (arc_value open'.text)
    (g.J.Judge.lexicon (arc_value open'.judge)) c.known-point.ensures.run
    (c.in_ok-open.ensures.known run c.args.place c.requires c.in-Some.ensures.some)

pub returns-clause-short : goal.returns-clause-short
returns-clause-short g c =
    spent-over c.args.board.now (last_of c.finish_if_wanted.new.eye.run)
    c.finish_if_wanted.result
    (has-open c.args.board.now c.args.place (shown_in c.in-Some.view.shown)
    c.in-Some.ensures.some.shown
    (sym c.is_open.ensures ∙ c.if-not-is_open.false))
    c.finish_if_wanted.ensures.short
