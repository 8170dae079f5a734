-- The faults of single lines, and those of headers past the limit.
use Rattle.std.proofs.Common.{◌∙◌, ap, sym, []}
use Rattle.std.specs.Option.{option_copied}
use Rattle.aff_lines.specs.Faults.{sooner, least_of}
use Rattle.aff_reader.specs.ClassLines.{each_after}
use Rattle.aff_reader.specs.Classes.{line_faults, too_many_rules_faults, rule_limit}
use Rattle.aff_reader.proofs.classes.class_fault.Goals as goal

pub returns : goal.returns
returns c =
    let lines = each_after (line_faults c.args.kind (option_copied c.args.aliases) c.args.rows.now)
    [] c.args.rows.now in
    let many = too_many_rules_faults c.args.kind rule_limit c.args.rows.now in
    c.sooner.ensures
    ∙ ap (λ found. sooner found c.in_ok-many_fault.field-0) c.in_ok-fault.ensures
    ∙ ap (sooner (least_of lines)) c.in_ok-many_fault.ensures
    ∙ sym (c.earliest_faults.ensures.join lines many)
