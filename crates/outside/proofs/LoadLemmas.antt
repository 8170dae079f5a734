-- Each answer of a load is what is due of some file.
use Rattle.std.proofs.Common.{◌≡◌, inl, inr, Option, Some, None, ℕ, ◌+◌, ◌≤◌, Result, Ok, Err}
use Rattle.std.proofs.Common.{IsErrAnd, List, length, replicate, refl, arith}
use Rattle.std.proofs.lemmas.Bool.Decides.{nat_tests}
use Rattle.std.proofs.lemmas.List.{length-replicate}
use Rattle.lists.specs.AnswerLaws.{gives-fault}
use Rattle.lists.specs.Answers.{FailsAs, GivesDue}
use Rattle.outside.specs.Files.{MayComeOfFiles, file_due}
use Rattle.outside.specs.declared.faults.FileFault.{FileFault}
use Rattle.outside.specs.declared.faults.FileFault.TheVariants.{Failed, Missing, TooLong, NoMemory}

-- the bytes of a file that is not too long
pub loaded : (limit : ℕ) (bytes : List ℕ) → length bytes ≤ limit
    → file_due limit (Some bytes) ≡ Ok bytes
unfolding file_due
loaded limit bytes few = grind (arith, nat_tests)

-- some file is too long
too-long : (limit : ℕ) → file_due limit (Some (replicate {A = ℕ} (limit + 1) 0)) ≡ Err TooLong
unfolding file_due
too-long limit =
    let long : length (replicate {A = ℕ} (limit + 1) 0) ≡ limit + 1 =
    length-replicate {A = ℕ} (limit + 1) 0 in
    grind (arith, nat_tests)

-- each fault is that of some file
explained : (limit : ℕ) (fault : FileFault)
    → (file : Option (List ℕ)) × FailsAs MayComeOfFiles (file_due limit file) fault
unfolding file_due
explained limit Failed = (None, inl tt)
explained limit Missing = (None, inr refl)
explained limit TooLong = (Some (replicate {A = ℕ} (limit + 1) 0), inr (too-long limit))
explained limit NoMemory = (None, inl tt)

-- and so is the fault of a result
pub fault-explained : {A : Type 0} (limit : ℕ) (view : A → List ℕ) (result : Result A FileFault)
    (fault : FileFault) → IsErrAnd result (λ told. told ≡ fault)
    → (file : Option (List ℕ)) × GivesDue MayComeOfFiles view (file_due limit file) result
fault-explained limit view result fault is =
    let some = explained limit fault in
    (some.0, gives-fault MayComeOfFiles view result some.1 is)
