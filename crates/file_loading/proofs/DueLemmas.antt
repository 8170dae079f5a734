-- What is due of a dictionary and of the list behind it, step by step.
use Rattle.std.proofs.Common.{◌≡◌, ◌∙◌, inl, inr, ℕ, List, Option, Some, None, Result, Ok, IsErrAnd}
use Rattle.std.proofs.Common.{refl, ap}
use Rattle.outside.specs.lists.AnswerLaws.{fails-then, gives-fault, gives-then}
use Rattle.outside.specs.lists.Answers.{failing, FailsAs, GivesDue}
use Rattle.outside.specs.Files.{Folder, MayComeOfFiles}
use Rattle.outside.specs.declared.faults.FileFault.{FileFault}
use Rattle.outside.specs.declared.faults.FileFault.TheVariants.{Failed as FileFailed}
use Rattle.outside.specs.declared.faults.FileFault.TheVariants.{NoMemory as FileWanting}
use Rattle.std.specs.Option.{option_map}
use Rattle.std.specs.Prelude.{is_some}
use Rattle.spell_types.specs.declared.Affixes.{Affixes}
use Rattle.spell_types.specs.declared.Lexicon.{Lexicon}
use Rattle.own_dictionary.specs.personal_words.declared.items.OwnItem.{OwnItem}
use Rattle.own_dictionary.specs.personal_words.Faults.{OwnFaultAtLine, IsOwnFaultTold}
use Rattle.own_dictionary.specs.personal_words.declared.faults.OwnFault.{OwnFault as ListFault}
use Rattle.own_dictionary.specs.personal_words.declared.faults.OwnFault.TheVariants.{At}
use Rattle.own_dictionary.specs.personal_words.declared.faults.OwnFault.TheVariants.{NoMemory as ListWanting}
use Rattle.own_dictionary.specs.personal_words.Dictionaries.{OwnSeen}
use Rattle.own_dictionary.specs.dictionary_swap.Loads.{DictionaryFiles}
use Rattle.console_board.specs.Transcripts.{IsThere}
use Rattle.file_loading.specs.Due.{IsListThere, IsOwnThere, MayCome, OwnFiles, base_due}
use Rattle.file_loading.specs.Due.{dictionary_due, own_due}
use Rattle.file_loading.specs.Failures.{failure_of_own, own_failure}
use Rattle.file_loading.specs.Operands.{DictionaryNamed}
use Rattle.file_loading.specs.declared.failure.Failure.{Failure}
use Rattle.file_loading.specs.DueLaws.{any-file, file_failure}

pub file-comes : (limit : ℕ) (fault : FileFault) → MayComeOfFiles fault
    → MayCome (file_failure limit fault)
file-comes limit FileFailed comes = tt
file-comes limit FileWanting comes = tt
file-comes limit _ comes = absurd comes

-- what is told of a personal list is its fault, or that memory is wanting
pub own-fails : (read : Result (List OwnItem) OwnFaultAtLine) (fault : ListFault)
    → IsOwnFaultTold read fault → FailsAs MayCome (failing own_failure read) (failure_of_own fault)
own-fails read (At line why) is = inr (ap (failing own_failure) is)
own-fails read ListWanting is = inl tt

any-list : (told : Option Folder) (name : Option (List ℕ))
    → (there : Option (Option (List ℕ))) × IsListThere told name there
any-list told None = (None, refl)
any-list told (Some name) =
    let file = any-file told name in (Some file.0, (file.0, refl, file.1))

-- a dictionary and the list behind it
own-there : (told : Option Folder) (names : DictionaryNamed) (there : DictionaryFiles)
    (list : Option (Option (List ℕ))) → IsThere told names.aff names.dic there
    → IsListThere told names.own list
    → IsOwnThere told names (record { dictionary = there; own = list })
own-there None names there list is also = by names.own also
  where
    by : (name : Option (List ℕ)) → IsListThere None name list → is_some list ≡ is_some name
    by None none = ap is_some none
    by (Some name) (file, some, any) = ap is_some some
own-there (Some folder) names there list is also = rw (is, by names.own also) refl
  where
    by : (name : Option (List ℕ)) → IsListThere (Some folder) name list
        → list ≡ option_map folder name
    by None none = none
    by (Some name) (file, some, found) = some ∙ ap Some found

-- ---- the dictionary

-- what is due of the files that there are
abbrev pub IsLoaded : Option Folder → DictionaryNamed → Result OwnSeen Failure → Type 0
IsLoaded told names result = (there : OwnFiles) × IsOwnThere told names there
    × GivesDue MayCome (λ dictionary. dictionary) (dictionary_due there) result

-- what is due of the two files of a dictionary
abbrev pub BaseIs : Option Folder → DictionaryNamed → (Result Lexicon Failure → Type 0) → Type 0
BaseIs told names holds = (there : DictionaryFiles)
    × IsThere told names.aff names.dic there × holds (base_due there)

-- and of the list behind them
abbrev pub ListIs : Option Folder → DictionaryNamed → Affixes
    → (Result (List OwnItem) Failure → Type 0) → Type 0
ListIs told names affixes holds = (list : Option (Option (List ℕ)))
    × IsListThere told names.own list × holds (own_due affixes list)

module _ (told : Option Folder) (names : DictionaryNamed) (result : Result OwnSeen Failure) where
  -- the base is not loaded
  pub base-not-loaded : {failure : Failure} → BaseIs told names (λ due. FailsAs MayCome due failure)
      → IsErrAnd result (λ other. other ≡ failure) → IsLoaded told names result
  unfolding dictionary_due
  base-not-loaded (there, is, fails) fault =
      let list = any-list told names.own in (
        _,
        own-there told names there list.0 is list.1,
        gives-fault MayCome (λ d. d) result (fails-then MayCome _ fails) fault,
      )

  -- the list is not loaded
  pub list-not-loaded : {base : Lexicon} {failure : Failure}
      → BaseIs told names (λ due. due ≡ Ok base)
      → ListIs told names base.affixes (λ due. FailsAs MayCome due failure)
      → IsErrAnd result (λ other. other ≡ failure) → IsLoaded told names result
  unfolding dictionary_due
  list-not-loaded (there, is, due) (list, also, fails) fault = (
    _,
    own-there told names there list is also,
    gives-then MayCome _ (λ d. d) result due
        (gives-fault MayCome (λ d. d) result (fails-then MayCome _ fails) fault),
  )

  -- both are, and then the dictionary is made of them, or memory is wanting
  pub dictionary-made : {base : Lexicon} {own : List OwnItem}
      → BaseIs told names (λ due. due ≡ Ok base)
      → ListIs told names base.affixes (λ due. due ≡ Ok own)
      → GivesDue MayCome (λ dictionary. dictionary) (Ok (record { base = base; own = own })) result
      → IsLoaded told names result
  unfolding dictionary_due
  dictionary-made (there, is, due) (list, also, items) gives = (
    _,
    own-there told names there list is also,
    gives-then MayCome _ (λ d. d) result due (gives-then MayCome _ (λ d. d) result items gives),
  )

-- beside the files of a dictionary of which something holds there is something of a list too
pub files-there : {P : DictionaryFiles → Type 0} (told : Option Folder) (names : DictionaryNamed)
    → (there : DictionaryFiles) × IsThere told names.aff names.dic there × P there
    → (there : OwnFiles) × IsOwnThere told names there × P there.dictionary
files-there None names (there, is, holds) =
    let list = some-list names.own in
    (record { dictionary = there; own = list.0 }, list.1, holds)
  where
    some-list : (name : Option (List ℕ))
        → (own : Option (Option (List ℕ))) × (is_some own ≡ is_some name)
    some-list None = (None, refl)
    some-list (Some name) = (Some None, refl)
files-there (Some folder) names (there, is, holds) = (
  record { dictionary = there; own = option_map folder names.own },
  rw is refl,
  holds,
)
