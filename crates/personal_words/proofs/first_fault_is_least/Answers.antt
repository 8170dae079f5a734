-- The law of the first fault, at none and at one.
use Rattle.line_faults.specs.Laws.{no-first, first-least}
use Rattle.personal_words.specs.Faults.{own_cause_number, own_passes}
use Rattle.personal_words.proofs.first_fault_is_least.Goals as goal

pub returns-clause-none : goal.returns-clause-none
returns-clause-none c = λ affixes bytes. no-first own_cause_number (own_passes affixes bytes)

pub returns-clause-least : goal.returns-clause-least
returns-clause-least c = λ affixes bytes. first-least own_cause_number (own_passes affixes bytes)
