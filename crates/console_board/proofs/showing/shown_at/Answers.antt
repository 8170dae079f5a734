-- By what the board shows at the place.
use Rattle.std.proofs.Common.{◌∙◌, sym, ap, Some}
use Rattle.console_lang.specs.declared.reply.ShownPara.TheVariants.{Finished}
use Rattle.edit_core.specs.Views.{shown_in}
use Rattle.console_board.specs.BoardAnswers.{shown_para}
use Rattle.console_board.proofs.ConsoleViews.{shown-at}
use Rattle.console_board.proofs.showing.shown_at.Goals as goal

pub returns-in_ok-copy-in-Marks : goal.returns-in_ok-copy-in-Marks
returns-in_ok-copy-in-Marks g c =
    shown-at c.args.board.now c.args.place (shown_in c.in-Some.view.shown)
    c.in-Some.ensures.some.shown
    ∙ ap (λ shown. Some (shown_para (shown_in shown))) c.in-Marks.is
    ∙ ap (λ marks. Some (Finished marks)) (sym c.in_ok-copy-in-Marks.ensures)

pub returns-in-Pending : goal.returns-in-Pending
returns-in-Pending g c =
    shown-at c.args.board.now c.args.place (shown_in c.in-Some.view.shown)
    c.in-Some.ensures.some.shown
    ∙ ap (λ shown. Some (shown_para (shown_in shown))) c.in-Pending.is
