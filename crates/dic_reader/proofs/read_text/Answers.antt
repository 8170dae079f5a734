-- The first line counts, or its fault is told.
use Rattle.std.proofs.Common.{◌≡◌, ◌∙◌, ap, sym, ℕ, ◌==◌, true, Bool, length, arith}
use Rattle.std.proofs.lemmas.Bool.Decides.{nat_tests}
use Rattle.dic_reader.specs.Entries.{is_count}
use Rattle.dic_reader.proofs.FileLemmas.{parted, no-line-of, counted, uncounted, no-lines}
use Rattle.dic_reader.proofs.read_text.Goals.{then-not-is_empty+else-is_count, else-not-is_empty}
use Rattle.dic_reader.proofs.read_text.Goals as goal

none-left : (n : ℕ) (empty : Bool) → empty ≡ (n == 0) → empty ≡ true → n ≡ 0
none-left n empty is holds = grind (arith, nat_tests)

pub returns-then-is_count-clause-read : goal.returns-then-is_count-clause-read
returns-then-is_count-clause-read c = λ bytes lines are.
    let parts = parted bytes lines c.args.text.now c.first_line.result.0.now
    c.first_line.result.1.now are c.first_line.ensures.first in
    counted c.args.affixes.now bytes lines parts.later parts.count c.read_entries.result parts.is
    (ap is_count parts.text ∙ sym c.if-is_count.ensures)
    (c.read_entries.ensures.read bytes parts.later parts.lines_behind)

pub returns-clause-read : goal.returns-clause-read
returns-clause-read c = λ bytes lines are.
    elim c.if-not-is_empty.branch [
      | then-not-is_empty+else-is_count w ↦
          (let parts = parted bytes lines c.args.text.now w.first_line.result.0.now
          w.first_line.result.1.now are w.first_line.ensures.first in
          uncounted c.args.affixes.now bytes lines parts.later parts.count parts.is are.numbers
          (ap is_count parts.text ∙ sym w.if-is_count.ensures))
      | else-not-is_empty w ↦
          no-lines c.args.affixes.now bytes lines
          (no-line-of bytes lines c.args.text.now are
          (none-left (length c.args.text.now) c.is_empty.result c.is_empty.ensures
          w.if-not-is_empty.false))
    ]
