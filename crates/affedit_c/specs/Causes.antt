-- Faults in words.
use Rattle.std.specs.Prelude.{ℕ, List, [], map, nat_eq, slice_index_or, if◌then◌else◌}
use Rattle.affedit_c.specs.declared.causes.TheConstants.{AFF_CAUSES, DIC_CAUSES, OWN_CAUSES}
use Rattle.affedit_c.specs.declared.faults.TheConstants.{AFF_FILE, DIC_FILE, OWN_FILE}

-- the sentences for the causes in a file: at 0 that it has too many bytes, and then by their numbers
abbrev pub sentences_of : ℕ → List (List ℕ)
sentences_of file =
    if nat_eq file AFF_FILE then map (λ sentence. sentence.now) AFF_CAUSES
    else if nat_eq file DIC_FILE then map (λ sentence. sentence.now) DIC_CAUSES
    else if nat_eq file OWN_FILE then map (λ sentence. sentence.now) OWN_CAUSES
    else []

-- the one for a cause; no bytes where no fault has these numbers
abbrev pub sentence_of : ℕ → ℕ → List ℕ
sentence_of file cause = slice_index_or (sentences_of file) cause []
