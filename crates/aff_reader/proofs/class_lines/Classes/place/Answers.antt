-- One line more, of a class or of none.
use Rattle.std.proofs.Common.{sym, ◌∙◌}
use Rattle.aff_reader.proofs.ClassLemmas.{knows-other, placed-none, knows-more, placed-some}
use Rattle.aff_reader.proofs.ClassLemmas.{placed-as}
use Rattle.aff_reader.proofs.class_lines.Classes.place.Goals as goal

pub returns-in_default-clause-knows : goal.returns-in_default-clause-knows
returns-in_default-clause-knows c = λ before known.
    knows-other c.args.kind before c.args.line.now c.args.self.now
    (sym c.class_of.ensures.class ∙ c.in_default.is) known

pub returns-in_default-clause-placed : goal.returns-in_default-clause-placed
returns-in_default-clause-placed c =
    λ before known. placed-none c.args.kind before c.args.line.now
    (sym c.class_of.ensures.class ∙ c.in_default.is)

pub returns-clause-knows : goal.returns-clause-knows
returns-clause-knows c = λ before known.
    knows-more c.args.kind before c.args.line.now c.in-Some.class c.args.self.now c.set.new.self
    c.standing-standing.result c.with_line.result
    (sym c.class_of.ensures.class ∙ c.in-Some.is) c.standing-standing.ensures c.with_line.ensures
    c.in_ok-set.ensures known

pub returns-clause-placed : goal.returns-clause-placed
returns-clause-placed c = λ before known.
    placed-as c.in-Some.class c.role_after.result c.standing-standing.result c.role_after.ensures
    ∙ placed-some c.args.kind before c.args.line.now c.in-Some.class c.args.self.now
    c.standing-standing.result
    (sym c.class_of.ensures.class ∙ c.in-Some.is) c.standing-standing.ensures known
