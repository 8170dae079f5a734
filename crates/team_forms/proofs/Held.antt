-- The pair that a line loads is held.
use Rattle.std.proofs.Common.{◌≡◌, ◌∙◌, refl, sym, ap, subst, ℕ, Bool, true, false, ◌||◌, cond}
use Rattle.std.proofs.Common.{List, [], ◌∷◌, map, find, Option, Some, None, Result, Ok, Err, All}
use Rattle.std.proofs.Common.{Contains}
use Rattle.std.specs.List.{AllByRecursion, list_any}
use Rattle.std.specs.Str.{bytes_eq}
use Rattle.std.proofs.lemmas.Bool.{and_parts, true≢false}
use Rattle.std.proofs.lemmas.List.Elements.{recursion_from_All}
use Rattle.std.proofs.lemmas.Option.{same_Some}
use Rattle.std.proofs.lemmas.Slice.Eq.{bytes_eq-Decides}
use Rattle.mark_types.specs.spell_types.declared.Lexicon.{Lexicon}
use Rattle.team_script.specs.Pairs.{is_pair_among, is_same}
use Rattle.std.specs.Arc.{arc_value}
use Rattle.own_dictionary.specs.dictionary_swap.Loads.{lexicon_due}
use Rattle.own_dictionary.specs.dictionary_swap.declared.fault.LoadFault.{LoadFault}
use Rattle.board_share.specs.Eyes.{EyeSeen}
use Rattle.console_lang.specs.declared.reply.Reply.{Reply}
use Rattle.team_history.specs.Eyes.{IsLoadedTold, IsPairTold}
use Rattle.team_history.specs.ToldBy.{NamedFiles, Session}
use Rattle.console_board.specs.OwnConsoles.{fault_reply}
use Rattle.console_history.specs.Told.{IsLexiconTold}
use Rattle.team_forms.specs.Pairs.{Holds, IsLoaded, has_names, names_of}
use Rattle.team_forms.specs.declared.pairs.LoadedPair.{LoadedPair}

-- where one of some has a property, the first that has it is found
none-any : {X Y : Type 0} (f : X → Y) (test : Y → Bool) (xs : List X)
    → find (λ x. test (f x)) xs ≡ None → list_any test (map f xs) ≡ false
none-any f test [] none = refl
none-any f test (x ∷ xs) none =
    by (test (f x)) (none-any f test xs) none
  where
    by : (b : Bool) → (find (λ y. test (f y)) xs ≡ None → list_any test (map f xs) ≡ false)
        → cond b (Some x) (find (λ y. test (f y)) xs) ≡ None
        → (b || list_any test (map f xs)) ≡ false
    by true rest none = absurd (cc)
    by false rest none = rest none

-- what is found has it, and whatever all have
found-has : {X : Type 0} (P : X → Type 0) (test : X → Bool) (xs : List X) (x : X)
    → find test xs ≡ Some x → AllByRecursion P xs → (test x ≡ true) × P x
found-has P test [] x found all = absurd (cc)
found-has P test (first ∷ xs) x found all =
    by (test first) refl (λ found. found-has P test xs x found all.1) found
  where
    by : (b : Bool) → test first ≡ b → (find test xs ≡ Some x → (test x ≡ true) × P x)
        → cond b (Some first) (find test xs) ≡ Some x → (test x ≡ true) × P x
    by true is rest found =
        let same = same_Some first x found in
        (subst (λ y. test y ≡ true) same is, subst P same all.0)
    by false is rest found = rest found

pub is-held : {J : Type 0} (pairs : List (LoadedPair J)) (aff dic : List ℕ)
    → find (has_names aff dic) pairs ≡ None
    → is_pair_among (map names_of pairs) (record { aff = aff; dic = dic }) ≡ true → ⊥
is-held pairs aff dic none there =
    true≢false (sym there
    ∙ none-any names_of (λ other. is_same other (record { aff = aff; dic = dic })) pairs none)

-- the pair that is found was loaded, under these names
pub is-loaded : {J : Type 0} (lexicon_of : J → Lexicon) (files : List NamedFiles)
    (pairs : List (LoadedPair J)) (pair : LoadedPair J) (aff dic : List ℕ)
    → find (has_names aff dic) pairs ≡ Some pair → All (IsLoaded lexicon_of files) pairs
    → IsLoaded lexicon_of files pair × ((pair.aff ≡ aff) × (pair.dic ≡ dic))
is-loaded lexicon_of files pairs pair aff dic found all =
    let has = found-has (IsLoaded lexicon_of files) (has_names aff dic) pairs pair found
    (recursion_from_All (IsLoaded lexicon_of files) pairs all) in
    let names = and_parts (bytes_eq pair.aff aff) (bytes_eq pair.dic dic) has.0 in (
      has.1,
      ((bytes_eq-Decides pair.aff aff).0 names.0, (bytes_eq-Decides pair.dic dic).0 names.1),
    )

-- so its dictionary comes into force, or its fault is told
pub pair-brought : {J : Type 0} (lexicon_of : J → Lexicon) (session : Session)
    (pairs : List (LoadedPair J)) (pair : LoadedPair J) (aff dic : List ℕ)
    {old new : EyeSeen} {reply : Reply}
    → find (has_names aff dic) pairs ≡ Some pair → All (IsLoaded lexicon_of session.pairs) pairs
    → ((due : Result Lexicon LoadFault)
    → Holds (λ held. lexicon_of (arc_value held)) due pair.loaded → IsLoadedTold due old new reply)
    → IsPairTold session aff dic old new reply
pair-brought lexicon_of session pairs pair aff dic found all tells =
    let is = is-loaded lexicon_of session.pairs pairs pair aff dic found all in record {
      there = is.0.there;
      is_there = subst (λ (name : List ℕ). Contains session.pairs (record {
        aff = aff;
        dic = name;
        there = is.0.there;
      })) is.1.1 (subst (λ (name : List ℕ). Contains session.pairs (record {
        aff = name;
        dic = pair.dic;
        there = is.0.there;
      })) is.1.0 is.0.is_there);
      done = tells (lexicon_due is.0.there) is.0.holds;
    }

-- a dictionary that is held comes into force
pub lexicon-told : {A : Type 0} (lexicon_of : A → Lexicon) (due : Result Lexicon LoadFault)
    (loaded : Result A LoadFault) (held : A) {old new : EyeSeen} {reply : Reply}
    → loaded ≡ Ok held → Holds lexicon_of due loaded
    → IsLexiconTold (lexicon_of held) old new reply → IsLoadedTold due old new reply
lexicon-told lexicon_of (Ok lexicon) loaded held {old} {new} {reply} is holds told =
    subst (λ l. IsLexiconTold l old new reply)
    (subst (λ (r : Result _ LoadFault). Holds lexicon_of (Ok lexicon) r) is holds) told
lexicon-told lexicon_of (Err fault) loaded held is holds told =
    absurd (subst (λ (r : Result _ LoadFault). Holds lexicon_of (Err fault) r) is holds)

pub fault-held : {A : Type 0} (lexicon_of : A → Lexicon) (due : Result Lexicon LoadFault)
    (loaded : Result A LoadFault) (fault : LoadFault) (eye : EyeSeen) (reply : Reply)
    → loaded ≡ Err fault → Holds lexicon_of due loaded → reply ≡ fault_reply fault
    → IsLoadedTold due eye eye reply
fault-held lexicon_of (Ok lexicon) loaded fault eye reply is holds replied =
    absurd (subst (λ (r : Result _ LoadFault). Holds lexicon_of (Ok lexicon) r) is holds)
fault-held lexicon_of (Err due) loaded fault eye reply is holds replied = (
  refl,
  replied
      ∙ ap fault_reply
      (subst (λ (r : Result _ LoadFault). Holds lexicon_of (Err due) r) is holds),
)
