-- The pair of these names is held.
use Rattle.std.proofs.Common.{◌∙◌, ap, sym, ℕ}
use Rattle.std.specs.Arc.{arc_value}
use Rattle.std.specs.Option.{option_copied}
use Rattle.console_history.specs.Told.{IsLexiconTold}
use Rattle.team_history.specs.Eyes.{IsPairTold}
use Rattle.team_history.specs.ToldBy.{Session}
use Rattle.team_forms.specs.Sessions.{IsOf}
use Rattle.team_forms.proofs.Held.{fault-held, is-held, lexicon-told, pair-brought}
use Rattle.team_forms.proofs.Stops.{ended-asks, ended-may, ended-told}
use Rattle.team_forms.proofs.answering.load.Goals as goal

pub unreachable-requires : goal.unreachable-requires
unreachable-requires g c =
    is-held c.args.pairs.now c.args.aff.now c.args.dic.now
    (sym c.pair_named.ensures ∙ ap option_copied c.in_default.is) c.requires.held

-- ---- a dictionary that is held
pub returns-in_ok-judge-in-Ok-clause-told : goal.returns-in_ok-judge-in-Ok-clause-told
returns-in_ok-judge-in-Ok-clause-told g c =
    let old = c.args.console.now.eye in
    let new = c.bring_in.new.self.eye in
    let lexicon = g.J.Judge.lexicon (arc_value c.in_ok-judge-in-Ok.judge) in
    ended-told (IsLexiconTold lexicon old new)
    (λ reply. (number : ℕ) (of : Session) → IsOf g.J.Judge.lexicon c.args.pairs.now number of
    → IsPairTold of c.args.aff.now c.args.dic.now old new reply) c.bring_in.result
    (λ reply told number of is.
    pair-brought g.J.Judge.lexicon of c.args.pairs.now c.in-Some.pair.now c.args.aff.now
    c.args.dic.now (sym c.pair_named.ensures ∙ ap option_copied c.in-Some.is) is.loaded
    (λ due holds. lexicon-told (λ held. g.J.Judge.lexicon (arc_value held)) due
    c.in-Some.pair.now.loaded c.in-Ok.judge c.in-Ok.is holds
    (rw c.in_ok-judge-in-Ok.ensures at told)))
    c.bring_in.ensures.told

pub returns-in_ok-judge-in-Ok-clause-asks : goal.returns-in_ok-judge-in-Ok-clause-asks
returns-in_ok-judge-in-Ok-clause-asks g c =
    let old = c.args.console.now.eye in
    let new = c.bring_in.new.self.eye in
    let lexicon = g.J.Judge.lexicon (arc_value c.in_ok-judge-in-Ok.judge) in
    ended-asks (IsLexiconTold lexicon old new) old new c.bring_in.result
    (c.told_commands_ask_once.ensures.brought lexicon old new) c.bring_in.ensures.told
    c.bring_in.ensures.cut

pub returns-in_ok-judge-in-Ok-clause-cut : goal.returns-in_ok-judge-in-Ok-clause-cut
returns-in_ok-judge-in-Ok-clause-cut g c =
    ended-may c.args.console.now.eye c.bring_in.new.self.eye c.bring_in.result
    c.bring_in.ensures.cut

-- ---- a fault that is held
pub returns-in_ok-fault_reply-in-Err-clause-told : goal.returns-in_ok-fault_reply-in-Err-clause-told
returns-in_ok-fault_reply-in-Err-clause-told g c = λ number of is.
    pair-brought g.J.Judge.lexicon of c.args.pairs.now c.in-Some.pair.now c.args.aff.now
    c.args.dic.now (sym c.pair_named.ensures ∙ ap option_copied c.in-Some.is) is.loaded
    (λ due holds. fault-held (λ held. g.J.Judge.lexicon (arc_value held)) due
    c.in-Some.pair.now.loaded c.in-Err.fault c.args.console.now.eye
    c.in_ok-fault_reply-in-Err.field-0 c.in-Err.is holds
    c.in_ok-fault_reply-in-Err.ensures.reply)
