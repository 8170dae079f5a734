-- By what is due of the files.
use Rattle.std.proofs.Common.{refl}
use Rattle.desk_console.proofs.LoadLemmas.{faults-load, loads-read}
use Rattle.desk_console.proofs.console.DeskConsole.load.Goals as goal

pub returns-in_ok-dictionary-in-Ok-clause-told : goal.returns-in_ok-dictionary-in-Ok-clause-told
returns-in_ok-dictionary-in-Ok-clause-told g c =
    let due = c.in-Ok.ensures in
    let old = c.args.self.now in
    let new = c.put_in_force.new.self in
    loads-read (record { eye = old.eye; dictionary = g.O.Dictionary.seen old.dictionary })
    (record { eye = new.eye; dictionary = g.O.Dictionary.seen new.dictionary }) c.put_in_force.result
    (record { found = due.found; told_is = due.told })
    c.in_ok-dictionary-in-Ok.ensures c.put_in_force.ensures.told
    c.put_in_force.ensures.dictionary

pub returns-in_ok-fault_reply-in-Err-clause-told : goal.returns-in_ok-fault_reply-in-Err-clause-told
returns-in_ok-fault_reply-in-Err-clause-told g c =
    let due = c.in-Err.ensures in
    let told = c.in_ok-fault_reply-in-Err.ensures in
    faults-load (record { found = due.found; told_is = due.told }) told.has_reply told.reply refl
