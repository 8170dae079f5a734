-- What a folder holds, and what a load may answer.
use Rattle.std.specs.Prelude.{◌≡◌, ℕ, ◌<◌, List, length, nat_le, Option, Some, None, IsSomeAnd}
use Rattle.std.specs.Prelude.{Result, Ok, Err, if◌then◌else◌}
use Rattle.outside.specs.declared.faults.FileFault.{FileFault}
use Rattle.outside.specs.declared.faults.FileFault.TheVariants.{Failed, Missing, TooLong, NoMemory}

-- the bytes of each name, where there is such a file
abbrev pub Folder : Type 0
Folder = List ℕ → Option (List ℕ)

-- What a load may answer, where `file` is what the folder has of the name, and `buffer` what `into`
-- then holds. A failure and want of memory may come at any file.
abbrev pub LoadAnswers : {T : Type 0} → Option (List ℕ) → ℕ → List ℕ → Result T FileFault → Type 0
LoadAnswers file limit buffer (Ok done) = file ≡ Some buffer
LoadAnswers file limit buffer (Err Failed) = Unit {0}
LoadAnswers file limit buffer (Err Missing) = file ≡ None
LoadAnswers file limit buffer (Err TooLong) = IsSomeAnd file (λ bytes. limit < length bytes)
LoadAnswers file limit buffer (Err NoMemory) = Unit {0}

-- what is due of a file that may have so many bytes: nothing but its bytes
abbrev pub bytes_due : ℕ → Option (List ℕ) → Result (List ℕ) FileFault
bytes_due limit None = Err Missing
bytes_due limit (Some bytes) = if nat_le (length bytes) limit then Ok bytes else Err TooLong

unfoldable pub file_due : ℕ → Option (List ℕ) → Result (List ℕ) FileFault
file_due limit file = bytes_due limit file

-- a failure and want of memory may come at any file
abbrev pub MayComeOfFiles : FileFault → Type 0
MayComeOfFiles Failed = Unit {0}
MayComeOfFiles NoMemory = Unit {0}
MayComeOfFiles _ = ⊥
