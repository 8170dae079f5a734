-- The laws are lemmas on the definition alone.
use Rattle.compound_pattern.proofs.RuleLemmas.{pattern_of-read, pattern_of-bad_pattern}
use Rattle.compound_pattern.proofs.RuleLemmas.{pattern_of-bad_flag}
use Rattle.compound_pattern.proofs.reading.patterns_are_read.Goals as goal

pub returns-clause-read : goal.returns-clause-read
returns-clause-read c = pattern_of-read

pub returns-clause-bad_pattern : goal.returns-clause-bad_pattern
returns-clause-bad_pattern c = pattern_of-bad_pattern

pub returns-clause-bad_flag : goal.returns-clause-bad_flag
returns-clause-bad_flag c = pattern_of-bad_flag
