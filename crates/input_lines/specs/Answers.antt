-- What comes of one line.
use Rattle.std.specs.Prelude.{◌≡◌, ℕ, Bool, true, false, List, [], ◌∷◌, ◌++◌, Result, Ok, Err}
use Rattle.std.specs.List.{AllByRecursion}
use Rattle.outside.specs.lists.declared.NoMemory.{NoMemory}
use Rattle.input_lines.specs.declared.responder.Flow.{Flow}
use Rattle.input_lines.specs.declared.responder.Flow.TheVariants.{On, Quit}

-- bytes without a line feed
abbrev pub HasNoBreak : List ℕ → Type 0
HasNoBreak bytes = AllByRecursion (λ byte. ¬ (byte ≡ 10)) bytes

-- wherever some lines with some answers have led here, these lines with these answers lead there
abbrev pub LeadsOn : {S B : Type 0} → (S → B → List (List ℕ) → List ℕ → S → B → Type 0) → S → B → S
    → B → List (List ℕ) → List ℕ → Type 0
LeadsOn {S} {B} Leads here beside there beside_there more added =
    (first : S) (beside_first : B) (lines : List (List ℕ)) (said : List ℕ)
    → Leads first beside_first lines said here beside
    → Leads first beside_first (lines ++ more) (said ++ added) there beside_there

-- a line was answered, it ends the input, or memory was wanting
unfoldable pub AnswersLine : {S B : Type 0} → (List ℕ → Bool)
    → (S → B → List (List ℕ) → List ℕ → S → B → Type 0)
    → S → B → S → B → List ℕ → List ℕ → List ℕ → Result Flow NoMemory → Type 0
AnswersLine quits Leads before beside_before after beside_after line text_before text_after
    (Ok On) =
    (quits line ≡ false)
    × ((added : List ℕ) × (text_after ≡ text_before ++ added)
    × LeadsOn Leads before beside_before after beside_after (line ∷ []) added)
AnswersLine quits Leads before beside_before after beside_after line text_before text_after
    (Ok Quit) =
    (quits line ≡ true) × (text_after ≡ text_before)
    × LeadsOn Leads before beside_before after beside_after [] []
AnswersLine quits Leads before beside_before after beside_after line text_before text_after
    (Err wanting) =
    (text_after ≡ text_before) × LeadsOn Leads before beside_before after beside_after [] []
