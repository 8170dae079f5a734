-- Commands that are done without a dictionary.
use Rattle.std.proofs.Common.{◌≡◌, sym, subst, ℕ, Some}
use Rattle.board_share.specs.Eyes.{EyeSeen}
use Rattle.console_lang.specs.declared.command.Command.{Command}
use Rattle.console_lang.specs.declared.command.Command.TheVariants.{Ins, Put, Sub, Del, Load, Stop}
use Rattle.console_lang.specs.declared.command.Command.TheVariants.{Ask, Own, Show, Settle, Quit}
use Rattle.console_lang.specs.declared.reply.Reply.{Reply}
use Rattle.console_board.specs.Transcripts.{HasWholeText}
use Rattle.console_history.specs.Told.{IsPlainTold}
use Rattle.team_history.specs.Eyes.{IsSaidTo}
use Rattle.team_history.specs.ToldBy.{Session, without_own}

-- what a console tells of them is what is said to a session with its number
pub plain-said : (session : Session) (number : ℕ) (command : Command) (old new : EyeSeen)
    (reply : Reply) → session.number ≡ number → HasWholeText command
    → IsPlainTold number command old new reply
    → IsSaidTo session old (without_own (Some command)) new reply
unfolding IsPlainTold
plain-said session number (Load aff dic) old new reply is whole told = absurd told
plain-said session number (Own text) old new reply is whole told = absurd told
plain-said session number Quit old new reply is whole told = absurd told
plain-said session number Show old new reply is whole told = (whole, told)
plain-said session number Settle old new reply is whole told = (whole, told)
plain-said session number (Ins place text) old new reply is whole told =
    (whole, subst (λ n. IsPlainTold n (Ins place text) old new reply) (sym is) told)
plain-said session number (Put place text) old new reply is whole told =
    (whole, subst (λ n. IsPlainTold n (Put place text) old new reply) (sym is) told)
plain-said session number (Sub place from to text) old new reply is whole told =
    (whole, subst (λ n. IsPlainTold n (Sub place from to text) old new reply) (sym is) told)
plain-said session number (Del place) old new reply is whole told =
    (whole, subst (λ n. IsPlainTold n (Del place) old new reply) (sym is) told)
plain-said session number (Stop place) old new reply is whole told =
    (whole, subst (λ n. IsPlainTold n (Stop place) old new reply) (sym is) told)
plain-said session number (Ask place) old new reply is whole told =
    (whole, subst (λ n. IsPlainTold n (Ask place) old new reply) (sym is) told)
