-- What is due of the files is held, or it ends the call.
use Rattle.std.proofs.Common.{◌∙◌, sym}
use Rattle.team_forms.proofs.TeamLemmas.{fault-ends, fault-held, judge-held}
use Rattle.team_forms.proofs.team.hold.Goals as goal

pub returns-in-Ok-clause-ok : goal.returns-in-Ok-clause-ok
returns-in-Ok-clause-ok g c =
    judge-held (g.F.Files.told c.args.files.now) c.args.aff.now c.args.dic.now c.in-Ok.judge
    c.in-Ok.ensures.due

pub returns-in-Some-clause-err : goal.returns-in-Some-clause-err
returns-in-Some-clause-err g c =
    fault-ends (g.F.Files.told c.args.files.now) c.args.aff.now c.args.dic.now c.in-Err.fault
    (sym c.ending_of.ensures ∙ c.in-Some.is) c.in-Err.ensures.due

pub returns-in-None-clause-ok : goal.returns-in-None-clause-ok
returns-in-None-clause-ok g c =
    fault-held (g.F.Files.told c.args.files.now) c.args.aff.now c.args.dic.now c.in-Err.fault
    (sym c.ending_of.ensures ∙ c.in-None.is) c.in-Err.ensures.due
