-- What a call fails with, step by step, is told, and has its cause.
use Rattle.std.proofs.Common.{Bool, ◌≡◌, ◌⊎◌, inl, inr, ℕ, ◌<◌, true, List, [], Option, Some, None}
use Rattle.std.proofs.Common.{IfSome, Result, Ok, Err, IfErr, IsErrAnd, refl, sym, subst}
use Rattle.std.proofs.lemmas.Result.{IfErr-at_err}
use Rattle.outside.specs.lists.Answers.{◌>>=◌, failing, FailsAs}
use Rattle.outside.specs.Files.{Folder, file_due}
use Rattle.outside.specs.declared.faults.FileFault.{FileFault}
use Rattle.spell_types.specs.declared.Affixes.{Affixes}
use Rattle.own_dictionary.specs.personal_words.Faults.{own_read}
use Rattle.own_dictionary.specs.dictionary_swap.declared.limits.TheConstants.{SIZE_LIMIT}
use Rattle.own_dictionary.specs.dictionary_swap.Loads.{DictionaryFiles, MayComeOfLoads, found_in}
use Rattle.own_dictionary.specs.dictionary_swap.Loads.{lexicon_due, load_fault_of}
use Rattle.own_dictionary.specs.dictionary_swap.declared.fault.LoadFault.{LoadFault}
use Rattle.own_dictionary.specs.dictionary_swap.declared.fault.LoadFault.TheVariants.{Failed as FailedLoad}
use Rattle.own_dictionary.specs.dictionary_swap.declared.fault.LoadFault.TheVariants.{NoMemory as LoadWanting}
use Rattle.console_board.specs.Transcripts.{IsThere}
use Rattle.file_loading.specs.Due.{IsFileThere, MayCome, OwnFiles, base_due, bytes_due_of_file}
use Rattle.file_loading.specs.Due.{dictionary_due, in_force_due, items_due, list_due, own_due}
use Rattle.file_loading.specs.Due.{unextended_due}
use Rattle.file_loading.specs.Failures.{failure_of, is_fault, own_failure}
use Rattle.file_loading.specs.Forms.{IsCaused, Met}
use Rattle.file_loading.specs.declared.ending.End.TheVariants.{Failed}
use Rattle.file_loading.specs.declared.failure.Failure.{Failure}
use Rattle.file_loading.specs.declared.failure.Failure.TheVariants.{Words, Load, Input, NoMemory}

-- ---- faults as failures

-- what may come at any time
pub comes-as : (failure : Failure) → MayCome failure
    → (failure ≡ Load FailedLoad) ⊎ (failure ≡ NoMemory)
comes-as (Load FailedLoad) comes = inl refl
comes-as NoMemory comes = inr refl
comes-as _ comes = absurd comes

pub load-comes : (fault : LoadFault) → MayComeOfLoads fault → MayCome (failure_of fault)
load-comes FailedLoad comes = tt
load-comes LoadWanting comes = tt
load-comes _ comes = absurd comes

-- what a call fails with is so
pub failed-so : {A E : Type 0} (Holds : E → Type 0) {fault : E} (result : Result A E)
    → IsErrAnd result (λ told. told ≡ fault) → Holds fault → IfErr result Holds
failed-so Holds (Ok given) is holds = tt
failed-so Holds (Err told) is holds = subst Holds (sym is) holds

-- ---- what is told

-- a failure that is told may come at any time, or is a fault of the files or of the document
abbrev pub IsTold : Failure → Type 0
IsTold failure = MayCome failure ⊎ (is_fault failure ≡ true)

load-told : (fault : LoadFault) → IsTold (failure_of fault)
load-told FailedLoad = inl tt
load-told LoadWanting = inl tt
load-told _ = inr refl

pub failing-told : {A E : Type 0} (to : E → Failure) → ((fault : E) → IsTold (to fault))
    → (due : Result A E) → IfErr (failing to due) IsTold
failing-told to told (Ok given) = tt
failing-told to told (Err fault) = told fault

pub then-told : {A B : Type 0} (due : Result A Failure) (next : A → Result B Failure)
    → IfErr due IsTold → ((given : A) → IfErr (next given) IsTold) → IfErr (due >>= next) IsTold
then-told (Ok given) next told later = later given
then-told (Err failure) next told later = told

-- the failure of a file that may have so many bytes
abbrev pub file_failure : ℕ → FileFault → Failure
file_failure limit fault = failure_of (load_fault_of limit fault)

pub bytes-told : (limit : ℕ) (file : Option (List ℕ)) → IfErr (bytes_due_of_file limit file) IsTold
unfolding bytes_due_of_file
bytes-told limit file =
    failing-told (file_failure limit) (λ fault. load-told (load_fault_of limit fault))
    (file_due limit file)

items-told : (affixes : Affixes) (bytes : List ℕ) → IfErr (items_due affixes bytes) IsTold
unfolding items_due
items-told affixes bytes = failing-told own_failure (λ fault. inr refl) (own_read affixes bytes)

list-told : (affixes : Affixes) (file : Option (List ℕ)) → IfErr (list_due affixes file) IsTold
unfolding list_due
list-told affixes file =
    then-told (bytes_due_of_file SIZE_LIMIT file) _ (bytes-told SIZE_LIMIT file) (items-told affixes)

own-told : (affixes : Affixes) (there : Option (Option (List ℕ)))
    → IfErr (own_due affixes there) IsTold
unfolding own_due
own-told affixes None = tt
own-told affixes (Some file) = list-told affixes file

pub base-told : (there : DictionaryFiles) → IfErr (base_due there) IsTold
unfolding base_due
base-told there = failing-told failure_of load-told (lexicon_due there)

pub dictionary-told : (there : OwnFiles) → IfErr (dictionary_due there) IsTold
unfolding dictionary_due
dictionary-told there =
    then-told (base_due there.dictionary) _ (base-told there.dictionary) (λ base.
    then-told (own_due base.affixes there.own) _ (own-told base.affixes there.own) (λ own. tt))

pub in-force-told : (there : OwnFiles) → IfErr (in_force_due there) IsTold
unfolding in_force_due
in-force-told there =
    then-told (dictionary_due there) _ (dictionary-told there) (λ dictionary. tt)

pub unextended-told : (there : OwnFiles) → IfErr (unextended_due there) IsTold
unextended-told there = base-told there.dictionary

-- so what a call fails with is told
pub failure-told : {A : Type 0} {due : Result A Failure} {failure : Failure}
    → IfErr due IsTold → FailsAs MayCome due failure → IsTold failure
failure-told told (inl comes) = inl comes
failure-told told (inr is) = IfErr-at_err IsTold is told

-- a failure that is of neither the words nor an input
abbrev pub IsOfNeither : Failure → Type 0
IsOfNeither Words = ⊥
IsOfNeither Input = ⊥
IsOfNeither _ = Unit {0}

pub told-neither : (failure : Failure) → IsTold failure → IsOfNeither failure
told-neither Words (inl never) = never
told-neither Words (inr never) = absurd (cc)
told-neither Input (inl never) = never
told-neither Input (inr never) = absurd (cc)
told-neither _ told = tt

-- has no other cause than a failed file
pub neither-caused : {has_form : Bool} {met : Met} {failure : Failure} → IsOfNeither failure
    → (failure ≡ Load FailedLoad → met.files_before < met.files_after)
    → IsCaused has_form met [] (Failed failure)
neither-caused {failure = failure} neither rose = record {
  words = λ is. let same : failure ≡ Words = cc in absurd (subst IsOfNeither same neither);
  files = λ is. rose (cc);
  input = λ is. let same : failure ≡ Input = cc in absurd (subst IsOfNeither same neither);
  alone = λ is. refl;
}

-- nor has one that is told
pub failure-caused : {has_form : Bool} {met : Met} {failure : Failure} → IsTold failure
    → (failure ≡ Load FailedLoad → met.files_before < met.files_after)
    → IsCaused has_form met [] (Failed failure)
failure-caused {failure = failure} told rose = neither-caused (told-neither failure told) rose

-- ---- files

-- there are some files of which something holds, which are those that are told
pub some-there : (told : Option Folder) (aff dic : List ℕ) {P : DictionaryFiles → Type 0}
    → (there : DictionaryFiles) × P there
    → IfSome told (λ folder. P (found_in folder aff dic)) → (there : DictionaryFiles)
    × IsThere told aff dic there × P there
some-there None aff dic (there, is) is_told = (there, tt, is)
some-there (Some folder) aff dic some is_told = (found_in folder aff dic, refl, is_told)

pub some-file : (told : Option Folder) (name : List ℕ) {P : Option (List ℕ) → Type 0}
    → (file : Option (List ℕ)) × P file
    → IfSome told (λ folder. P (folder name)) → (file : Option (List ℕ))
    × IsFileThere told name file × P file
some-file None name (file, is) is_told = (file, tt, is)
some-file (Some folder) name some is_told = (folder name, refl, is_told)

pub any-file : (told : Option Folder) (name : List ℕ) → (file : Option (List ℕ))
    × IsFileThere told name file
any-file None name = (None, tt)
any-file (Some folder) name = (folder name, refl)
