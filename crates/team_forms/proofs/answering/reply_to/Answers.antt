-- By what the command is.
use Rattle.std.proofs.Common.{Some}
use Rattle.console_history.specs.Told.{IsPlainTold}
use Rattle.team_history.specs.Eyes.{IsSaidTo}
use Rattle.team_history.specs.ToldBy.{Session, without_own}
use Rattle.team_forms.specs.Sessions.{IsOf}
use Rattle.team_forms.proofs.Plain.{plain-said}
use Rattle.team_forms.proofs.Stops.{ended-asks, ended-may, ended-told}
use Rattle.team_forms.proofs.answering.reply_to.Goals as goal

pub returns-in_default-clause-asks : goal.returns-in_default-clause-asks
returns-in_default-clause-asks g c =
    let old = c.args.console.now.eye in
    let new = c.reply_as.new.self.eye in
    ended-asks (IsPlainTold c.args.session c.args.command old new) old new c.reply_as.result
    (λ reply told.
    c.told_commands_ask_once.ensures.plain c.args.session c.args.command old new reply
    c.requires.whole told)
    c.reply_as.ensures.told c.reply_as.ensures.cut

pub returns-in_default-clause-cut : goal.returns-in_default-clause-cut
returns-in_default-clause-cut g c =
    ended-may c.args.console.now.eye c.reply_as.new.self.eye c.reply_as.result
    c.reply_as.ensures.cut

pub returns-in_default-clause-said : goal.returns-in_default-clause-said
returns-in_default-clause-said g c =
    let old = c.args.console.now.eye in
    let new = c.reply_as.new.self.eye in
    ended-told (IsPlainTold c.args.session c.args.command old new)
    (λ reply. (of : Session) → IsOf g.J.Judge.lexicon c.args.pairs.now c.args.session of
    → IsSaidTo of old (without_own (Some c.args.command)) new reply) c.reply_as.result
    (λ reply told of is.
    plain-said of c.args.session c.args.command old new reply is.number_is c.requires.whole told)
    c.reply_as.ensures.told
