-- What is loaded for a team, step by step, and what the call then answers.
use Rattle.std.proofs.Common.{Bool, ◌≡◌, ◌∙◌, ⊎_elim, inl, inr, ℕ, ◌+◌, ◌<◌, List, [], ◌∷◌, ◌++◌}
use Rattle.std.proofs.Common.{length, get_or, take, drop, Option, Some, None, IfSome, IfErr, Result}
use Rattle.std.proofs.Common.{Contains, Ok, Err, refl, sym, ap, subst, arith}
use Rattle.std.proofs.lemmas.List.{drop_more, map_push, take-append-drop, take_more}
use Rattle.std.proofs.lemmas.List.Elements.{All-nil, All-push, All-weaker, Contains-append_left}
use Rattle.std.proofs.lemmas.List.Elements.{Contains-push}
use Rattle.std.proofs.lemmas.Result.{IfErr-at_err, IfErr-weaker}
use Rattle.std.specs.Arc.{arc_value}
use Rattle.std.specs.declared.alloc.Global.{Global}
use Rattle.std.specs.declared.sync.Arc.{Arc}
use Rattle.std.specs.List.{All, AllZip, flat_map}
use Rattle.outside.specs.lists.AnswerLaws.{fails-then}
use Rattle.outside.specs.lists.Answers.{◌>>=◌, failing, FailsAs}
use Rattle.outside.specs.Files.{Folder}
use Rattle.mark_types.specs.spell_types.declared.Lexicon.{Lexicon}
use Rattle.own_dictionary.specs.dictionary_swap.Loads.{DictionaryFiles, MayComeOfLoads, found_in}
use Rattle.own_dictionary.specs.dictionary_swap.Loads.{lexicon_due}
use Rattle.own_dictionary.specs.dictionary_swap.declared.fault.LoadFault.{LoadFault}
use Rattle.own_dictionary.specs.dictionary_swap.declared.fault.LoadFault.TheVariants.{Failed as FailedLoad}
use Rattle.own_dictionary.specs.dictionary_swap.declared.fault.LoadFault.TheVariants.{Missing}
use Rattle.own_dictionary.specs.dictionary_swap.declared.fault.LoadFault.TheVariants.{TooLong, Aff}
use Rattle.own_dictionary.specs.dictionary_swap.declared.fault.LoadFault.TheVariants.{Dic}
use Rattle.own_dictionary.specs.dictionary_swap.declared.fault.LoadFault.TheVariants.{NoMemory as LoadWanting}
use Rattle.board_share.specs.edit_core.Runs.{Run}
use Rattle.board_share.specs.edit_core.Seen.{opening_of}
use Rattle.board_share.specs.Eyes.{last_of}
use Rattle.console_board.specs.Transcripts.{IsThere}
use Rattle.team_history.specs.ToldBy.{NamedFiles}
use Rattle.team_script.specs.Due.{MayComeOfScripts, script_due}
use Rattle.team_script.specs.Told.{ScriptTold}
use Rattle.team_script.specs.declared.fault.ScriptFault.{ScriptFault}
use Rattle.team_script.specs.declared.fault.ScriptFault.TheVariants.{Bad, LongLine, ManyPairs}
use Rattle.team_script.specs.declared.fault.ScriptFault.TheVariants.{NoMemory as ScriptWanting}
use Rattle.team_script.specs.declared.pairs.Pair.{Pair}
use Rattle.team_forms.specs.Pairs.{Holds, IsLoaded, names_of}
use Rattle.team_forms.specs.Teamwork.{IsTeamwork, Script, scripts_in, total_line}
use Rattle.team_forms.specs.declared.pairs.LoadedPair.{LoadedPair}
use Rattle.file_loading.specs.Due.{IsFileThere, MayCome, base_due, bytes_due_of_file}
use Rattle.team_forms.specs.Teams.{script_failure, ArePairs, AreTeamFiles, IsTeamPrinted, TeamFiles}
use Rattle.team_forms.specs.Teams.{TeamSeen, or_else, pair_failure, pairs_failure, pairs_found_in}
use Rattle.team_forms.specs.Teams.{named_files, read_due, team_due, team_found_in}
use Rattle.team_forms.specs.Forms.{AllEnded, AllOfThem, FilesFailedThen, IsTeamAnswer, IsTeamFit}
use Rattle.team_forms.specs.Forms.{IsWholeTeam, NoneOfThem, PairRefused, TeamRefused, WantingThen}
use Rattle.team_forms.specs.Forms.{pairs_of_fit}
use Rattle.file_loading.specs.Forms.{IsCaused, Met}
use Rattle.team_forms.specs.Operands.{TeamNamed}
use Rattle.team_forms.specs.TeamLoads.{AreLoaded, AreNotLoaded, IsHeld, IsNotHeld, IsNotLoaded}
use Rattle.team_forms.specs.TeamLoads.{IsPairLoaded, IsTeamLoaded, PairComes, PairEnds, PairEndsIt}
use Rattle.team_forms.specs.TeamLoads.{PairsCome, PairsEnd, TeamComes, TeamEnds, ending_of}
use Rattle.file_loading.specs.declared.ending.End.TheVariants.{Quiet, Failed}
use Rattle.file_loading.specs.declared.failure.Failure.{Failure}
use Rattle.file_loading.specs.declared.failure.Failure.TheVariants.{Load, NoMemory}
use Rattle.file_loading.specs.DueLaws.{IsOfNeither, IsTold, any-file, base-told, bytes-told}
use Rattle.file_loading.specs.DueLaws.{comes-as, neither-caused, told-neither}
use Rattle.own_dictionary.specs.dictionary_swap.declared.limits.TheConstants.{SIZE_LIMIT}

-- ---- a script

-- what may come at any time
pub script-comes : (fault : ScriptFault) → MayComeOfScripts fault → MayCome (script_failure fault)
script-comes ScriptWanting comes = tt
script-comes _ comes = absurd comes

-- no fault of a script is that the files failed
pub script-unfailed : (fault : ScriptFault) → script_failure fault ≡ Load FailedLoad → ⊥
script-unfailed (Bad line) is = absurd (cc)
script-unfailed LongLine is = absurd (cc)
script-unfailed ManyPairs is = absurd (cc)
script-unfailed ScriptWanting is = absurd (cc)

-- ---- what is held of a pair

-- it is what is due
abbrev HoldsDue : Result Lexicon LoadFault → Result (Arc Lexicon Global) LoadFault → Type 0
HoldsDue due held = Holds (λ judge. arc_value judge) due held

module _ (told : Option Folder) (aff dic : List ℕ) where
  -- the dictionary
  pub judge-held : (judge : Arc Lexicon Global)
      → (there : DictionaryFiles) × IsThere told aff dic there
      × (lexicon_due there ≡ Ok (arc_value judge))
      → IsHeld told aff dic (Ok judge)
  judge-held judge (there, is, due) = record {
    there = there;
    is_there = is;
    goes_on = ap pair_failure due;
    holds = subst (λ due. HoldsDue due (Ok judge)) (sym due) refl;
  }

  -- a fault in a line
  pub fault-held : (fault : LoadFault) → ending_of fault ≡ None
      → (there : DictionaryFiles) × IsThere told aff dic there
      × FailsAs MayComeOfLoads (lexicon_due there) fault
      → IsHeld told aff dic (Err fault)
  fault-held (Aff line why) goes_on (there, is, inl comes) = absurd comes
  fault-held (Aff line why) goes_on (there, is, inr due) = record {
    there = there;
    is_there = is;
    goes_on = ap pair_failure due;
    holds = subst (λ due. HoldsDue due (Err (Aff line why))) (sym due) refl;
  }
  fault-held (Dic line why) goes_on (there, is, inl comes) = absurd comes
  fault-held (Dic line why) goes_on (there, is, inr due) = record {
    there = there;
    is_there = is;
    goes_on = ap pair_failure due;
    holds = subst (λ due. HoldsDue due (Err (Dic line why))) (sym due) refl;
  }
  fault-held _ ends some = absurd (cc)

  -- any other fault ends the call
  pub fault-ends : (fault : LoadFault) {failure : Failure} → ending_of fault ≡ Some failure
      → (there : DictionaryFiles) × IsThere told aff dic there
      × FailsAs MayComeOfLoads (lexicon_due there) fault
      → IsNotHeld told aff dic failure
  fault-ends (Aff line why) ends some = absurd (cc)
  fault-ends (Dic line why) ends some = absurd (cc)
  fault-ends Missing ends (there, is, inl comes) = absurd comes
  fault-ends Missing ends (there, is, inr due) = PairEnds there is (ap pair_failure due ∙ ends)
  fault-ends (TooLong limit) ends (there, is, inl comes) = absurd comes
  fault-ends (TooLong limit) ends (there, is, inr due) =
      PairEnds there is (ap pair_failure due ∙ ends)
  fault-ends FailedLoad {failure} ends some =
      let same : Load FailedLoad ≡ failure = cc in PairComes (subst MayCome same tt)
  fault-ends LoadWanting {failure} ends some =
      let same : NoMemory ≡ failure = cc in PairComes (subst MayCome same tt)

-- it ends the call by files that failed only where they did
pub ending-failed : (fault : LoadFault) → ending_of fault ≡ Some (Load FailedLoad)
    → fault ≡ FailedLoad
ending-failed FailedLoad ends = refl
ending-failed (Aff line why) ends = absurd (cc)
ending-failed (Dic line why) ends = absurd (cc)
ending-failed Missing ends = absurd (cc)
ending-failed (TooLong limit) ends = absurd (cc)
ending-failed LoadWanting ends = absurd (cc)

-- ---- pairs, one behind another

-- where the first go on, what is behind them decides
or-none : (one later : Option Failure) → or_else one later ≡ None → (one ≡ None) × (later ≡ None)
or-none None later none = (refl, none)
or-none (Some failure) later none = absurd (cc)

pairs-behind : (front back : List DictionaryFiles) → pairs_failure front ≡ None
    → pairs_failure (front ++ back) ≡ pairs_failure back
pairs-behind [] back none = refl
pairs-behind (there ∷ more) back none =
    let both = or-none (pair_failure (lexicon_due there)) (pairs_failure more) none in
    ap (λ first. or_else first (pairs_failure (more ++ back))) both.0
    ∙ pairs-behind more back both.1

-- what there is of some pairs, and of those behind them
zip-behind : {A B : Type 0} (R : A → B → Type 0) (xs more : List A) (ys others : List B)
    → AllZip R xs ys → AllZip R more others → AllZip R (xs ++ more) (ys ++ others)
zip-behind R [] more [] others is also = also
zip-behind R [] more (y ∷ ys) others is also = absurd is
zip-behind R (x ∷ xs) more [] others is also = absurd is
zip-behind R (x ∷ xs) more (y ∷ ys) others is also =
    (is.0, zip-behind R xs more ys others is.1 also)

-- there is something of any pairs
any-files : (told : Option Folder) (aff dic : List ℕ)
    → (there : DictionaryFiles) × IsThere told aff dic there
any-files None aff dic = (record { aff = None; dic = None }, tt)
any-files (Some folder) aff dic = (found_in folder aff dic, refl)

any-pairs : (told : Option Folder) (pairs : List Pair)
    → (there : List DictionaryFiles) × ArePairs told pairs there
any-pairs told [] = ([], tt)
any-pairs told (pair ∷ more) =
    let first = any-files told pair.aff pair.dic in
    let others = any-pairs told more in
    (first.0 ∷ others.0, (first.1, others.1))

-- a pair with what there is of it
abbrev named : Pair → DictionaryFiles → NamedFiles
named pair there = record { aff = pair.aff; dic = pair.dic; there = there }

-- what there is of some pairs, and of those behind them, by their names
named-behind : (R : Pair → DictionaryFiles → Type 0) (pairs more : List Pair)
    (there others : List DictionaryFiles) → AllZip R pairs there
    → named_files (pairs ++ more) (there ++ others)
    ≡ named_files pairs there ++ named_files more others
named-behind R [] more [] others are = refl
named-behind R [] more (first ∷ there) others are = absurd are
named-behind R (pair ∷ pairs) more [] others are = absurd are
named-behind R (pair ∷ pairs) more (first ∷ there) others are =
    λ i. named pair first ∷ named-behind R pairs more there others are.1 i

-- a pair was loaded of these files, to be looked at
abbrev IsBareLoaded : List NamedFiles → LoadedPair Lexicon → Type 0
IsBareLoaded files one = IsLoaded (λ lexicon. lexicon) files one

loaded-longer : (files : List NamedFiles) (last : NamedFiles) (one : LoadedPair Lexicon)
    → IsBareLoaded files one → IsBareLoaded (files ++ last ∷ []) one
loaded-longer files last one is = record {
  there = is.there;
  is_there = Contains-append_left files (last ∷ []) _ is.is_there;
  holds = is.holds;
}

module _ (told : Option Folder) where
  -- none is loaded
  pub none-loaded : AreLoaded told [] []
  none-loaded = record {
    there = [];
    are_there = tt;
    go_on = refl;
    names = refl;
    each = All-nil (IsBareLoaded []);
  }

  -- what is loaded under these names, of what there is of them
  named-loaded : (files : List NamedFiles) (pair : Pair) (loaded : LoadedPair Lexicon)
      (held : IsPairLoaded told pair loaded)
      → Contains files (named pair held.held.there) → IsBareLoaded files loaded
  named-loaded files pair loaded held inside = record {
    there = held.held.there;
    is_there = subst (λ (pair : Pair). Contains files (named pair held.held.there))
        (sym held.names) inside;
    holds = held.held.holds;
  }

  -- one more is loaded
  pub one-loaded : (pairs : List Pair) (pair : Pair) (loaded : List (LoadedPair Lexicon))
      (one : LoadedPair Lexicon) → AreLoaded told pairs loaded → IsPairLoaded told pair one
      → AreLoaded told (pairs ++ pair ∷ []) (loaded ++ one ∷ [])
  one-loaded pairs pair loaded one are is = record {
    there = are.there ++ is.held.there ∷ [];
    are_there = zip-behind (λ pair there. IsThere told pair.aff pair.dic there) pairs (pair ∷ [])
        are.there (is.held.there ∷ []) are.are_there (is.held.is_there, tt);
    go_on = pairs-behind are.there (is.held.there ∷ []) are.go_on
        ∙ ap (λ first. or_else first None) is.held.goes_on;
    names = map_push names_of loaded one
        ∙ ap (λ names. names ++ names_of one ∷ []) are.names
        ∙ ap (λ last. pairs ++ last ∷ []) is.names;
    each =
        let files = named_files pairs are.there in
        let last = named pair is.held.there in
        let same = named-behind (λ pair there. IsThere told pair.aff pair.dic there) pairs (pair ∷ [])
        are.there (is.held.there ∷ []) are.are_there in
        subst (λ files. All (IsBareLoaded files) (loaded ++ one ∷ [])) (sym same)
        (All-push (IsBareLoaded (files ++ last ∷ [])) loaded one
        (All-weaker (IsBareLoaded files) (IsBareLoaded (files ++ last ∷ []))
        (loaded-longer files last) loaded are.each)
        (named-loaded (files ++ last ∷ []) pair one is (Contains-push files last)));
  }

  -- one is not loaded, and those behind it are not looked at
  one-not-loaded : (front : List Pair) (pair : Pair) (back : List Pair)
      (loaded : List (LoadedPair Lexicon)) {failure : Failure} → AreLoaded told front loaded
      → IsNotHeld told pair.aff pair.dic failure
      → AreNotLoaded told (front ++ pair ∷ back) failure
  one-not-loaded front pair back loaded are (PairComes comes) = PairsCome comes
  one-not-loaded front pair back loaded are (PairEnds there is ends) =
      let behind = any-pairs told back in
      PairsEnd (are.there ++ there ∷ behind.0)
      (zip-behind (λ pair there. IsThere told pair.aff pair.dic there) front (pair ∷ back)
      are.there (there ∷ behind.0) are.are_there (is, behind.1))
      (pairs-behind are.there (there ∷ behind.0) are.go_on
      ∙ ap (λ first. or_else first (pairs_failure behind.0)) ends)

  -- the same of the pair at a place
  pub place-loaded : (pairs : List Pair) (place : ℕ) (pair : Pair)
      (loaded : List (LoadedPair Lexicon)) (one : LoadedPair Lexicon) → place < length pairs
      → pair ≡ get_or pairs place pair → AreLoaded told (take place pairs) loaded
      → IsPairLoaded told pair one
      → AreLoaded told (take (place + 1) pairs) (loaded ++ one ∷ [])
  place-loaded pairs place pair loaded one inside same are is =
      let front : take (place + 1) pairs ≡ take place pairs ++ pair ∷ [] =
      take_more pairs place pair inside
      ∙ ap (λ last. take place pairs ++ last ∷ []) (sym same) in
      subst (λ front. AreLoaded told front (loaded ++ one ∷ [])) (sym front)
      (one-loaded (take place pairs) pair loaded one are is)

  pub place-not-loaded : (pairs : List Pair) (place : ℕ) (pair : Pair)
      (loaded : List (LoadedPair Lexicon)) {failure : Failure} → place < length pairs
      → pair ≡ get_or pairs place pair → AreLoaded told (take place pairs) loaded
      → IsNotHeld told pair.aff pair.dic failure → AreNotLoaded told pairs failure
  place-not-loaded pairs place pair loaded {failure} inside same are is =
      let back : pair ∷ drop (place + 1) pairs ≡ drop place pairs =
      ap (λ first. first ∷ drop (place + 1) pairs) same
      ∙ sym (drop_more pairs place pair inside) in
      subst (λ pairs. AreNotLoaded told pairs failure)
      (ap (λ back. take place pairs ++ back) back ∙ take-append-drop place pairs)
      (one-not-loaded (take place pairs) pair (drop (place + 1) pairs) loaded are is)

-- ---- a team

-- what is due of a script behind a dictionary
abbrev and_script : Option (List ℕ) → Lexicon → Result TeamSeen Failure
and_script file lexicon =
    read_due file >>= (λ script. Ok (record { lexicon = lexicon; script = script }))

-- what is due of a dictionary
abbrev pub BaseIs : Option Folder → TeamNamed → (Result Lexicon Failure → Type 0) → Type 0
BaseIs told names holds = (there : DictionaryFiles)
    × IsThere told names.aff names.dic there × holds (base_due there)

-- and of a script
abbrev pub ScriptIs : Option Folder → TeamNamed → (Result ScriptTold Failure → Type 0) → Type 0
ScriptIs told names holds = (file : Option (List ℕ))
    × IsFileThere told names.script file × holds (read_due file)

not-loaded-as : {told : Option Folder} {names : TeamNamed} {failure : Failure} (files : TeamFiles)
    → AreTeamFiles told names files → FailsAs MayCome (team_due files) failure
    → IsNotLoaded told names failure
not-loaded-as files are (inl comes) = TeamComes comes
not-loaded-as files are (inr ends) = TeamEnds files are ends

module _ (told : Option Folder) (names : TeamNamed) where
  -- its dictionary is not loaded
  pub team-no-base : {failure : Failure}
      → BaseIs told names (λ due. FailsAs MayCome due failure)
      → IsNotLoaded told names failure
  unfolding team_due
  team-no-base (there, is, fails) =
      let file = any-file told names.script in
      not-loaded-as (record { dictionary = there; script = file.0 })
      (record { dictionary = is; script = file.1 })
      (fails-then MayCome (and_script file.0) fails)

  -- its script is not
  pub team-no-script : {lexicon : Lexicon} {failure : Failure}
      → BaseIs told names (λ due. due ≡ Ok lexicon)
      → ScriptIs told names (λ due. FailsAs MayCome due failure)
      → IsNotLoaded told names failure
  unfolding team_due
  team-no-script {lexicon} {failure} (there, is, due) (file, also, fails) =
      not-loaded-as (record { dictionary = there; script = file })
      (record { dictionary = is; script = also })
      (subst (λ due. FailsAs MayCome (due >>= and_script file) failure) (sym due)
      (fails-then MayCome _ fails))

  -- both are due
  pub team-is-due : {lexicon : Lexicon} {script : ScriptTold}
      (base : BaseIs told names (λ due. due ≡ Ok lexicon))
      (read : ScriptIs told names (λ due. due ≡ Ok script))
      → team_due (record { dictionary = base.0; script = read.0 })
      ≡ Ok (record { lexicon = lexicon; script = script })
  unfolding team_due
  team-is-due {lexicon} {script} base read =
      ap (λ due. due >>= and_script read.0) base.2
      ∙ ap (λ due. due >>= (λ script. Ok (record { lexicon = lexicon; script = script }))) read.2

  team-there : {lexicon : Lexicon} {script : ScriptTold}
      (base : BaseIs told names (λ due. due ≡ Ok lexicon))
      (read : ScriptIs told names (λ due. due ≡ Ok script))
      → AreTeamFiles told names (record { dictionary = base.0; script = read.0 })
  team-there base read = record { dictionary = base.1; script = read.1 }

  -- a pair of its script is not loaded
  pub team-no-pair : {lexicon : Lexicon} {script : ScriptTold} {failure : Failure}
      → BaseIs told names (λ due. due ≡ Ok lexicon)
      → ScriptIs told names (λ due. due ≡ Ok script)
      → AreNotLoaded told script.pairs failure → IsNotLoaded told names failure
  team-no-pair base read (PairsCome comes) = TeamComes comes
  team-no-pair base read (PairsEnd pairs are ends) =
      PairEndsIt (record { dictionary = base.0; script = read.0 }) _ pairs (team-there base read)
      (team-is-due base read) are ends

  -- all of it is
  pub team-loaded : {lexicon : Lexicon} {script : ScriptTold} {loaded : List (LoadedPair Lexicon)}
      → BaseIs told names (λ due. due ≡ Ok lexicon)
      → ScriptIs told names (λ due. due ≡ Ok script)
      → AreLoaded told script.pairs loaded
      → IsTeamLoaded told names (record { lexicon = lexicon; script = script }) loaded
  team-loaded base read pairs = record {
    files = record { dictionary = base.0; script = read.0 };
    are_there = team-there base read;
    is_due = team-is-due base read;
    pairs = pairs;
  }

-- ---- what is done

-- by these numbers, and by what these say
pub work-as : {files : List NamedFiles} {workers count : ℕ} {lexicon other : Lexicon}
    {scripts others : List Script} {history : Run} {texts : List (List ℕ)} → count ≡ workers
    → other ≡ lexicon → others ≡ scripts
    → IsTeamwork files count (opening_of other []) others history texts
    → IsTeamwork files workers (opening_of lexicon []) scripts history texts
work-as {files} {workers} {count} {lexicon} {other} {scripts} {others} {history} {texts} same_count
    same_lexicon same_scripts work =
    subst (λ workers. IsTeamwork files workers (opening_of lexicon []) scripts history texts)
    same_count
    (subst (λ lexicon. IsTeamwork files count (opening_of lexicon []) scripts history texts)
    same_lexicon
    (subst (λ scripts. IsTeamwork files count (opening_of other []) scripts history texts)
    same_scripts work))

-- ---- what the call answers

-- what there is of the pairs of a team that was loaded
abbrev pub files_of : {told : Option Folder} {names : TeamNamed} {team : TeamSeen}
    {loaded : List (LoadedPair Lexicon)} → IsTeamLoaded told names team loaded → List NamedFiles
files_of {team = team} is = named_files team.script.pairs is.pairs.there

-- what is printed of a team that was loaded
pub team-printed : {told : Option Folder} {names : TeamNamed} {team : TeamSeen}
    {loaded : List (LoadedPair Lexicon)} {workers : ℕ} {history : Run} {texts : List (List ℕ)}
    {total : List ℕ} (closed : Option Run) (is : IsTeamLoaded told names team loaded)
    → ((files : List NamedFiles) → All (IsLoaded (λ lexicon. lexicon) files) loaded
    → IsTeamwork files workers (opening_of team.lexicon []) (scripts_in team.script.lines)
    history texts)
    → total ≡ total_line (last_of history) → IfSome closed (λ run. run ≡ history)
    → IsTeamPrinted (files_of is) workers team closed (flat_map (λ one. one) texts ++ total)
team-printed {history = history} {texts = texts} closed is work total same = record {
  history = history;
  texts = texts;
  work = work (files_of is) is.pairs.each;
  text_is = ap (λ total. flat_map (λ one. one) texts ++ total) total;
  closed_is = same;
}

pub team-answered : {met : Met} {names : TeamNamed} {workers : ℕ} {team : TeamSeen}
    {loaded : List (LoadedPair Lexicon)} {text : List ℕ}
    (is : IsTeamLoaded met.folder names team loaded)
    → IsTeamPrinted (files_of is) workers team met.closed text
    → IsTeamAnswer met names workers text Quiet
team-answered {team = team} is printed =
    AllEnded is.files team is.pairs.there is.are_there is.is_due is.pairs.are_there is.pairs.go_on
    printed refl

pub team-not-answered : {met : Met} {names : TeamNamed} {workers : ℕ} {failure : Failure}
    → IsNotLoaded met.folder names failure
    → IsTeamAnswer met names workers [] (Failed failure)
team-not-answered {failure = failure} (TeamComes comes) =
    ⊎_elim (λ failed. FilesFailedThen (ap Failed failed) refl)
    (λ wanting. WantingThen (ap Failed wanting) refl) (comes-as failure comes)
team-not-answered {failure = failure} (TeamEnds files are ends) =
    TeamRefused files failure are ends refl refl
team-not-answered {failure = failure} (PairEndsIt files team pairs are due there ends) =
    PairRefused files team pairs failure are due there ends refl refl

-- ---- its causes

then-neither : {A B : Type 0} (due : Result A Failure) (next : A → Result B Failure)
    → IfErr due IsOfNeither → ((given : A) → IfErr (next given) IsOfNeither)
    → IfErr (due >>= next) IsOfNeither
then-neither (Ok given) next neither later = later given
then-neither (Err failure) next neither later = neither

script-neither : (due : Result ScriptTold ScriptFault)
    → IfErr (failing script_failure due) IsOfNeither
script-neither (Ok script) = tt
script-neither (Err (Bad line)) = tt
script-neither (Err LongLine) = tt
script-neither (Err ManyPairs) = tt
script-neither (Err ScriptWanting) = tt

read-neither : (file : Option (List ℕ)) → IfErr (read_due file) IsOfNeither
unfolding read_due
read-neither file =
    then-neither (bytes_due_of_file SIZE_LIMIT file) _
    (IfErr-weaker (bytes_due_of_file SIZE_LIMIT file) IsTold IsOfNeither told-neither
    (bytes-told SIZE_LIMIT file)) (λ bytes. script-neither (script_due bytes))

team-neither : (files : TeamFiles) → IfErr (team_due files) IsOfNeither
unfolding team_due
team-neither files =
    then-neither (base_due files.dictionary) _
    (IfErr-weaker (base_due files.dictionary) IsTold IsOfNeither told-neither
    (base-told files.dictionary)) (λ lexicon.
    then-neither (read_due files.script) _ (read-neither files.script) (λ script. tt))

pair-neither : (due : Result Lexicon LoadFault) → IfSome (pair_failure due) IsOfNeither
pair-neither (Ok lexicon) = tt
pair-neither (Err Missing) = tt
pair-neither (Err (TooLong limit)) = tt
pair-neither (Err _) = tt

or-neither : (one later : Option Failure) → IfSome one IsOfNeither → IfSome later IsOfNeither
    → IfSome (or_else one later) IsOfNeither
or-neither None later first other = other
or-neither (Some failure) later first other = first

pairs-neither : (pairs : List DictionaryFiles) → IfSome (pairs_failure pairs) IsOfNeither
pairs-neither [] = tt
pairs-neither (there ∷ more) =
    or-neither (pair_failure (lexicon_due there)) (pairs_failure more)
    (pair-neither (lexicon_due there)) (pairs-neither more)

not-loaded-neither : {told : Option Folder} {names : TeamNamed} {failure : Failure}
    → IsNotLoaded told names failure → IsOfNeither failure
not-loaded-neither {failure = failure} (TeamComes comes) = told-neither failure (inl comes)
not-loaded-neither (TeamEnds files are ends) = IfErr-at_err IsOfNeither ends (team-neither files)
not-loaded-neither (PairEndsIt files team pairs are due there ends) =
    let neither = pairs-neither pairs in subst (λ failed. IfSome failed IsOfNeither) ends neither

pub team-caused : {has_form : Bool} {met : Met} {told : Option Folder} {names : TeamNamed}
    {failure : Failure} → IsNotLoaded told names failure
    → (failure ≡ Load FailedLoad → met.files_before < met.files_after)
    → IsCaused has_form met [] (Failed failure)
team-caused is rose = neither-caused (not-loaded-neither is) rose

-- ---- where the folder has what is named

pairs-found : (folder : Folder) (pairs : List Pair) (there : List DictionaryFiles)
    → ArePairs (Some folder) pairs there → there ≡ pairs_found_in folder pairs
pairs-found folder [] [] are = refl
pairs-found folder [] (there ∷ others) are = absurd are
pairs-found folder (pair ∷ more) [] are = absurd are
pairs-found folder (pair ∷ more) (there ∷ others) are =
    λ i. are.0 i ∷ pairs-found folder more others are.1 i

files-found : (folder : Folder) (names : TeamNamed) (files : TeamFiles)
    → AreTeamFiles (Some folder) names files → files ≡ team_found_in folder names
files-found folder names files are =
    λ i. record { dictionary = are.dictionary i; script = are.script i }

module _ {met : Met} {names : TeamNamed} {team : TeamSeen} (fit : IsTeamFit met names team) where
  fit-due : (files : TeamFiles) → AreTeamFiles met.folder names files → team_due files ≡ Ok team
  fit-due files are =
      ap team_due (files-found fit.folder names files
      (subst (λ told. AreTeamFiles told names files) fit.folder_is are)) ∙ fit.is_due

  fit-same : {other : TeamSeen} (files : TeamFiles) → AreTeamFiles met.folder names files
      → team_due files ≡ Ok other → other ≡ team
  fit-same {other} files are due =
      let both : Ok other ≡ Ok team = sym due ∙ fit-due files are in cc

  fit-pairs : (pairs : List DictionaryFiles) → ArePairs met.folder team.script.pairs pairs
      → pairs_failure pairs ≡ None
  fit-pairs pairs are =
      ap pairs_failure (pairs-found fit.folder team.script.pairs pairs
      (subst (λ told. ArePairs told team.script.pairs pairs) fit.folder_is are)) ∙ fit.pairs

  -- what is printed is whole
  pub team-whole : {workers : ℕ} {other : TeamSeen} {loaded : List (LoadedPair Lexicon)}
      {text : List ℕ} (is : IsTeamLoaded met.folder names other loaded)
      → IsTeamPrinted (files_of is) workers other met.closed text
      → IsWholeTeam met workers team (pairs_of_fit fit) text Quiet
  team-whole {workers} {other} {text = text} is printed =
      let found = pairs-found fit.folder other.script.pairs is.pairs.there
      (subst (λ told. ArePairs told other.script.pairs is.pairs.there) fit.folder_is
      is.pairs.are_there) in
      AllOfThem refl
      (subst (λ (team : TeamSeen). IsTeamPrinted
      (named_files team.script.pairs (pairs_found_in fit.folder team.script.pairs)) workers team
      met.closed text) (fit-same is.files is.are_there is.is_due)
      (subst (λ there. IsTeamPrinted (named_files other.script.pairs there) workers other met.closed
      text) found printed))

  -- and it is loaded, unless the files fail or memory is wanting
  pub team-not-whole : {workers : ℕ} {failure : Failure} → IsNotLoaded met.folder names failure
      → (failure ≡ Load FailedLoad → met.files_before < met.files_after)
      → met.files_after ≡ met.files_before → IsWholeTeam met workers team (pairs_of_fit fit) [] (Failed failure)
  team-not-whole {failure = failure} (TeamComes comes) rose same =
      ⊎_elim (λ failed. let more = rose failed in absurd (omega (arith, more, same)))
      (λ wanting. NoneOfThem (ap Failed wanting) refl) (comes-as failure comes)
  team-not-whole {failure = failure} (TeamEnds files are ends) rose same =
      let never : Ok team ≡ Err failure = sym (fit-due files are) ∙ ends in absurd (cc)
  team-not-whole {failure = failure} (PairEndsIt files other pairs are due there ends) rose same =
      let one = fit-same files are due in
      let none = fit-pairs pairs
      (subst (λ (team : TeamSeen). ArePairs met.folder team.script.pairs pairs) one there) in
      let never : None ≡ Some failure = sym none ∙ ends in absurd (cc)
