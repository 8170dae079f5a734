-- So far the affixes of fewer characters than the loop's count are peeled off.
use Rattle.std.proofs.Common.{List}
use Rattle.spell_types.specs.declared.rules.Rule.{Rule}
use Rattle.affix_tables.specs.Tables.{IsTableOf}
use Rattle.affix_strip.proofs.PeelLemmas.{ArePeeledBelow}
use Rattle.affix_strip.proofs.peeling.peel.Given as goal

abbrev pub invariant-loop-count : goal.invariant-loop-count
invariant-loop-count l = (rules : List Rule) → IsTableOf rules l.tables
    → ArePeeledBelow rules l.side l.word l.count l.found.items
