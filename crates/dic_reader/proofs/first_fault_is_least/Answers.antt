-- The law of the first fault, at none and at one.
use Rattle.line_faults.specs.Laws.{no-first, first-least}
use Rattle.dic_reader.specs.Faults.{dic_cause_number, dic_passes}
use Rattle.dic_reader.proofs.first_fault_is_least.Goals as goal

pub returns-clause-none : goal.returns-clause-none
returns-clause-none c = λ affixes bytes. no-first dic_cause_number (dic_passes affixes bytes)

pub returns-clause-least : goal.returns-clause-least
returns-clause-least c = λ affixes bytes. first-least dic_cause_number (dic_passes affixes bytes)
