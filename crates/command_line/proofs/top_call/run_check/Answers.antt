-- What statuses tell, without an input.
use Rattle.std.proofs.Common.{None, inl, inr, arith, refl, ⊎_elim}
use Rattle.input_lines.specs.Ends.{Reading}
use Rattle.command_line.proofs.StatusLemmas.{five-has-cause, six-is-sink, two-has-no-form}
use Rattle.command_line.proofs.top_call.run_check.Goals as goal

-- no input
nothing : Reading
nothing = record { before = None; after = None; faults_before = 0; faults_after = 0 }

pub returns-clause-no_form : goal.returns-clause-no_form
unfolding nothing
returns-clause-no_form g c =
    two-has-no-form
    (rw c.request_of.ensures at c.answer_unread.ensures.due nothing (record { same = refl; count = refl }))

pub returns-clause-files : goal.returns-clause-files
unfolding nothing
returns-clause-files g c =
    λ five. ⊎_elim inl (⊎_elim (λ never. absurd (omega (arith, never))) inr)
    (five-has-cause (c.answer_unread.ensures.due nothing (record { same = refl; count = refl })) five)

pub returns-clause-sink : goal.returns-clause-sink
unfolding nothing
returns-clause-sink g c =
    six-is-sink (c.answer_unread.ensures.due nothing (record { same = refl; count = refl }))
