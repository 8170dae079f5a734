-- The last line is put, or that memory is wanting.
use Rattle.std.proofs.Common.{◌≡◌, ◌∙◌, ◌++◌, inl, inr, refl, ap}
use Rattle.file_loading.specs.Failures.{last_line}
use Rattle.file_loading.specs.declared.ending.End.TheVariants.{Failed}
use Rattle.file_loading.specs.declared.failure.Failure.TheVariants.{NoMemory}
use Rattle.file_loading.proofs.EndLemmas.{failure-nonzero, put-nonzero}
use Rattle.file_loading.proofs.ending.put_line.Goals as goal

pub returns-in-Ok-clause-puts : goal.returns-in-Ok-clause-puts
returns-in-Ok-clause-puts g c =
    let line : c.as_bytes.result.now ≡ last_line c.args.failure =
    c.as_bytes.ensures.value ∙ c.in-Ok.ensures
    ∙ ap (λ text. text ++ last_line c.args.failure) c.new-line.ensures.bytes in
    (Failed c.args.failure, inr refl, rw (c.status.ensures, line) at c.put.ensures.puts)

pub returns-clause-puts : goal.returns-clause-puts
returns-clause-puts g c = (Failed NoMemory, inl refl, c.put_wanting.ensures.puts)

-- no failure has the status 0, and no sink that failed
pub returns-in-Ok-clause-zero : goal.returns-in-Ok-clause-zero
returns-in-Ok-clause-zero g c =
    put-nonzero (rw c.status.ensures at c.put.ensures.puts) (failure-nonzero c.args.failure)

pub returns-clause-zero : goal.returns-clause-zero
returns-clause-zero g c = put-nonzero c.put_wanting.ensures.puts refl
