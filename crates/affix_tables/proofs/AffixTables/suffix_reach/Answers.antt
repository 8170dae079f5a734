-- The ends of what the rules of the side add have their keys.
use Rattle.std.proofs.Common.{◌∙◌, ap}
use Rattle.spell_types.specs.declared.rules.Side.TheVariants.{Suffix}
use Rattle.spell_types.specs.Derivations.{is_same_side}
use Rattle.spell_types.specs.Laws.{own_side}
use Rattle.affix_tables.proofs.EndLemmas.{reached}
use Rattle.affix_tables.proofs.AffixTables.suffix_reach.Goals as goal

pub returns-clause-rules : goal.returns-clause-rules
returns-clause-rules c = λ rules holds place rule at on has.
    reached Suffix c.args.self.now.suffixes.ends c.args.word.now rule.add c.reach.result
    c.reach.ensures.over
    (holds.suffixes.ends place rule at (ap (is_same_side Suffix) on ∙ own_side Suffix)) has
