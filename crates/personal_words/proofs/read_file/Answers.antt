-- A line that is not UTF-8 is told first, and else what is read of the lines.
use Rattle.std.proofs.Common.{◌∙◌, ap, sym, subst, Ok}
use Rattle.personal_words.proofs.FileLemmas.{bad-told, of-lines, told-of-lines, handed}
use Rattle.personal_words.proofs.OrderLemmas.{AreRising, rising}
use Rattle.personal_words.proofs.read_file.Goals as goal

pub returns-in-Some : goal.returns-in-Some
returns-in-Some c =
    bad-told c.args.affixes.now c.args.bytes.now c.in-Some.line
    (sym c.in_ok-found.ensures.bad ∙ c.in-Some.is)

pub read_items-requires-clause-rising : goal.read_items-requires-clause-rising
read_items-requires-clause-rising c =
    subst AreRising (sym c.deref.ensures)
    (rising c.in_ok-found.found.good c.in_ok-found.ensures.numbered)

pub returns-in_err-items : goal.returns-in_err-items
returns-in_err-items c =
    let fault = c.in_err-items.field-0.0 in
    handed _ c.from_residual-in_err-items.result fault c.from_residual-in_err-items.ensures.1
    (told-of-lines c.args.affixes.now c.args.bytes.now c.deref.result.now fault
    (c.deref.ensures ∙ c.in_ok-found.ensures.good) (sym c.in_ok-found.ensures.bad ∙ c.in_default.is)
    c.in_err-items.ensures.read)

pub returns : goal.returns
returns c =
    let lines = c.deref.ensures ∙ c.in_ok-found.ensures.good in
    let none = sym c.in_ok-found.ensures.bad ∙ c.in_default.is in
    sym (of-lines c.args.affixes.now c.args.bytes.now c.deref.result.now lines none)
    ∙ c.in_ok-items.ensures.read ∙ ap Ok (sym c.from_items.ensures)
