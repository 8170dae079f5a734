-- What is due of all lines follows from what is due of those that are read.
use Rattle.std.proofs.Common.{◌∙◌, ◌≤◌, inr, length, subst, sym}
use Rattle.text_lines.specs.lists.AnswerLaws.{gives-fault}
use Rattle.text_lines.specs.Lines.{line_texts}
use Rattle.team_script.specs.Lines.{HasNoBreak, IsNumbered}
use Rattle.team_script.specs.Due.{MayComeOfScripts}
use Rattle.team_script.proofs.FileLemmas.{lines-given, bad-given, fault-given, few-told}
use Rattle.team_script.proofs.SessionLemmas.{due-all}
use Rattle.team_script.proofs.reading.read_lines.Goals as goal

pub returns-in_err-told-clause-due : goal.returns-in_err-told-clause-due
returns-in_err-told-clause-due c =
    gives-fault MayComeOfScripts (λ told. told) c.from_residual-in_err-told.result
    (fault-given c.args.bytes.now c.deref.result.now c.in_err-told.field-0.0
    (c.deref.ensures ∙ c.in_ok-found.ensures.good) c.in_err-told.ensures)
    c.from_residual-in_err-told.ensures.1

pub returns-in-None-clause-due : goal.returns-in-None-clause-due
returns-in-None-clause-due c =
    lines-given c.args.bytes.now c.deref.result.now c.in_ok-found.found.bad c.in_ok-told.told
    (c.deref.ensures ∙ c.in_ok-found.ensures.good) c.in_ok-found.ensures.bad c.in-None.is
    c.in_ok-told.ensures

pub returns-clause-due : goal.returns-clause-due
returns-clause-due c =
    inr (bad-given c.args.bytes.now c.deref.result.now c.in_ok-found.found.bad c.in-Some.line
    c.in_ok-told.told
    (c.deref.ensures ∙ c.in_ok-found.ensures.good) c.in_ok-found.ensures.bad c.in-Some.is
    c.in_ok-told.ensures)

pub returns-in-None-clause-sessions : goal.returns-in-None-clause-sessions
returns-in-None-clause-sessions c =
    due-all IsNumbered (line_texts c.args.bytes.now) c.in_ok-told.told
    (c.lines_are_sound.ensures.sessions (line_texts c.args.bytes.now))
    (lines-given c.args.bytes.now c.deref.result.now c.in_ok-found.found.bad c.in_ok-told.told
    (c.deref.ensures ∙ c.in_ok-found.ensures.good) c.in_ok-found.ensures.bad c.in-None.is
    c.in_ok-told.ensures)

pub returns-in-None-clause-whole : goal.returns-in-None-clause-whole
returns-in-None-clause-whole c =
    due-all (λ line. HasNoBreak line.text) (line_texts c.args.bytes.now) c.in_ok-told.told
    (c.lines_are_sound.ensures.whole c.args.bytes.now)
    (lines-given c.args.bytes.now c.deref.result.now c.in_ok-found.found.bad c.in_ok-told.told
    (c.deref.ensures ∙ c.in_ok-found.ensures.good) c.in_ok-found.ensures.bad c.in-None.is
    c.in_ok-told.ensures)

pub returns-in-None-clause-few : goal.returns-in-None-clause-few
returns-in-None-clause-few c =
    few-told c.args.bytes.now c.deref.result.now c.in_ok-told.told (length c.args.bytes.now)
    c.in_ok-told.ensures
    (subst (λ lines. length lines ≤ length c.args.bytes.now) (sym c.deref.ensures)
    c.in_ok-found.ensures.few)
