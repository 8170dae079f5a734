-- By what the line adds to the list.
use Rattle.std.proofs.Common.{ap, refl, subst}
use Rattle.console_lang.specs.declared.reply.Reply.TheVariants.{Done, NoOwn}
use Rattle.personal_words.specs.Lists.{IsOwnLineRefused, added}
use Rattle.console_history.specs.Told.{Seat}
use Rattle.desk_console.proofs.LoadLemmas.{own-added, own-blank, own-refused}
use Rattle.desk_console.proofs.console.DeskConsole.own.Goals as goal

pub returns-in-Ok-Some-clause-told : goal.returns-in-Ok-Some-clause-told
returns-in-Ok-Some-clause-told g c =
    let own = c.args.self.now in
    let before : Seat = record { eye = own.eye; dictionary = g.O.Dictionary.seen own.dictionary } in
    let new = c.put_in_force.new.self in
    let after : Seat = record { eye = new.eye; dictionary = g.O.Dictionary.seen new.dictionary } in
    let more = rw c.in-Ok-Some.field-0-is at c.in-Ok-Some.ensures.more in
    own-added before after c.args.text.now more.0 c.put_in_force.result more.1 more.2
    c.put_in_force.ensures.told c.put_in_force.ensures.dictionary

pub returns-in-Ok-None-clause-told : goal.returns-in-Ok-None-clause-told
returns-in-Ok-None-clause-told g c =
    let own = c.args.self.now in
    let before : Seat = record { eye = own.eye; dictionary = g.O.Dictionary.seen own.dictionary } in
    own-blank before _ c.args.text.now (rw c.in-Ok-None.field-0-is at c.in-Ok-None.ensures.blank)
    refl
    (record { later = c.progress.ensures.later; counts = c.progress.ensures.counts })
    (ap (λ p. Done p.text) c.progress.ensures.progress)

pub returns-in-Err-Why-clause-told : goal.returns-in-Err-Why-clause-told
returns-in-Err-Why-clause-told g c =
    let own = c.args.self.now in
    let before : Seat = record { eye = own.eye; dictionary = g.O.Dictionary.seen own.dictionary } in
    let items = added before.dictionary.base.affixes before.dictionary.own c.args.text.now in
    own-refused before before c.args.text.now c.in-Err-Why.why
    (subst (IsOwnLineRefused items) c.in-Err-Why.field-0-is c.in-Err-Why.ensures.refused)
    (ap NoOwn c.in-Err-Why.why-is) refl
