-- The laws are lemmas on the definition alone.
use Rattle.affix_classes.proofs.PieceLemmas.{pieces_of-nil, pieces_of-plain, pieces_of-bracket}
use Rattle.affix_classes.proofs.PieceLemmas.{pieces_of-unclosed}
use Rattle.affix_classes.proofs.reading.conditions_are_read_by_pieces.Goals as goal

pub returns-clause-end : goal.returns-clause-end
returns-clause-end c = pieces_of-nil

pub returns-clause-plain : goal.returns-clause-plain
returns-clause-plain c = pieces_of-plain

pub returns-clause-bracket : goal.returns-clause-bracket
returns-clause-bracket c = pieces_of-bracket

pub returns-clause-unclosed : goal.returns-clause-unclosed
returns-clause-unclosed c = pieces_of-unclosed
