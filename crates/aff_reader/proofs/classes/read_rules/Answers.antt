-- A line adds its rule.
use Rattle.std.proofs.Common.{◌∙◌, ap, sym, subst, map, take, length, ◌≡◌, ◌+◌, ◌≤◌}
use Rattle.std.proofs.lemmas.List.{take_all, length-map}
use Rattle.aff_reader.specs.ClassRules.{rule_without}
use Rattle.aff_reader.specs.Classes.{rule_limit, rules_said}
use Rattle.aff_reader.proofs.BoundLemmas.{rules-few}
use Rattle.std.specs.Option.{option_copied}
use Rattle.aff_reader.proofs.TurnLemmas.{taken, knows-turn, rules-turn}
use Rattle.aff_reader.proofs.classes.read_rules.Goals as goal

pub loop-line-preserved : goal.loop-line-preserved
loop-line-preserved c =
    let more = taken c.args.rows.now c.loop-line.line-index c.line-item.result c.loop-line-test.true
    c.line-item.is in
    let lines = take c.loop-line.line-index c.args.rows.now in
    let longer = take (c.loop-line.line-index + 1) c.args.rows.now in
    record {
      known = knows-turn c.args.kind lines longer c.line-item.result c.loop-line.classes
          c.place.new.self more
          c.in_ok-placed.ensures.knows c.loop-line.invariant.known;
      ordinary = λ aliases. c.in_ok-push_rule.ensures.ordinary aliases
          c.in_ok-placed.ensures.ordinary (c.loop-line.invariant.ordinary aliases);
      said = rules-turn c.args.kind (option_copied c.args.aliases) c.args.ignore.now lines longer
          c.line-item.result c.loop-line.classes c.in_ok-placed.placed c.loop-line.rules _
          more c.in_ok-placed.ensures.placed c.in_ok-push_rule.ensures.rules
          c.loop-line.invariant.known c.loop-line.invariant.said;
    }

pub returns-clause-few : goal.returns-clause-few
returns-clause-few c = λ none.
    let all = take_all c.loop-line.line-index c.args.rows.now c.loop-line-test.false in
    let whole = rules_said c.args.kind (option_copied c.args.aliases) c.args.rows.now in
    let same : length c.loop-line.rules ≡ length whole =
    ap length (c.loop-line.invariant.said
    ∙ ap (λ rows. map (rule_without c.args.ignore.now)
    (rules_said c.args.kind (option_copied c.args.aliases) rows)) all)
    ∙ length-map whole (rule_without c.args.ignore.now) in
    subst (λ n. n ≤ rule_limit) (sym same)
    (rules-few c.earliest_faults.ensures.least c.args.kind (option_copied c.args.aliases)
    c.args.rows.now none)
