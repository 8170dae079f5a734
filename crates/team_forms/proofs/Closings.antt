-- Sessions whose desk is closed.
use Rattle.std.proofs.Common.{◌≡◌, ◌∙◌, refl, sym, ap, subst, ℕ, zero, suc, ◌+◌, ◌<◌, ◌≤◌, ◌⊎◌, inl}
use Rattle.std.proofs.Common.{inr, List, [], ◌∷◌, ◌++◌, ◌*◌, ◌^◌, length, map, Option, None, Some}
use Rattle.std.proofs.Common.{IfSome, Result, Ok, Err, IfOk, OnOk, zero-add, arith}
use Rattle.std.specs.List.{All, AllByRecursion, AllZip, range_with_len}
use Rattle.std.specs.List.Sorted.{IsPermutation}
use Rattle.std.specs.Option.{option_or}
use Rattle.std.proofs.lemmas.Option.{same_Some}
use Rattle.std.proofs.lemmas.List.{length-map, map-append}
use Rattle.std.proofs.lemmas.List.Elements.{All-from_recursion}
use Rattle.std.proofs.lemmas.List.FromFn.{length-range_with_len}
use Rattle.std.proofs.lemmas.List.Sorted.{IsPermutation-refl}
use Rattle.mark_types.specs.spell_types.declared.Lexicon.{Lexicon}
use Rattle.board_share.specs.edit_core.Runs.{Run}
use Rattle.board_share.specs.edit_core.Seen.{Seen}
use Rattle.board_share.specs.Endings.{HasEventsOf, IsTheirs}
use Rattle.board_share.specs.Eyes.{EyeSeen, events_in, fresh_eye}
use Rattle.console_lang.specs.declared.command.Command.{Command}
use Rattle.console_lang.specs.declared.reply.Reply.{Reply}
use Rattle.desk_console.specs.declared.stop.Stop.{Stop}
use Rattle.desk_console.specs.declared.stop.Stop.TheVariants as stop
use Rattle.team_history.specs.Eyes.{HasHeard, IsAtLastPoint}
use Rattle.team_history.specs.ToldBy.{AreOf, IsToldBy, NamedFiles, Session, session_asks}
use Rattle.team_forms.specs.Pairs.{IsLoaded}
use Rattle.team_forms.specs.Seats.{AreSeatsBehind, first_stop, fresh_eyes, seats}
use Rattle.team_forms.specs.Sessions.{HasPerformed, MayStop, SessionSeen}
use Rattle.team_forms.specs.Teamwork.{AreToldBy, IsTeamwork, Script}
use Rattle.team_forms.specs.declared.pairs.LoadedPair.{LoadedPair}
use Rattle.team_forms.proofs.Numbers.{fresh-numbers, none-asked, number_of, performed-numbers}
use Rattle.team_forms.proofs.Numbers.{performed-few, worked-numbers}
use Rattle.team_forms.proofs.Ranges.{both-hold, parts-hold, range-append}

-- ---- the laws of sessions
abbrev pub Starts : Type 0
Starts = (session : Session) (opening : Seen)
    → HasHeard session opening [] [] (fresh_eye opening session.by)

abbrev pub ClosedTold : Type 0
ClosedTold = (session : Session) (commands : List (Option Command)) (replies : List Reply)
    (eye : EyeSeen) (history : Run)
    → HasHeard session history.opening commands replies eye → HasEventsOf history eye
    → IsToldBy session commands replies history

-- an eye counts nothing that is asked, or has one of so many numbers
abbrev pub AsksAs : ℕ → ℕ → EyeSeen → Type 0
AsksAs first count eye =
    (events_in eye.counts ≡ 0) ⊎ ((first ≤ eye.number) × (eye.number < first + count))

abbrev pub OnlySessions : Type 0
OnlySessions = (first count : ℕ) (eyes : List EyeSeen) (history : Run) → IsTheirs eyes history
    → IsPermutation (range_with_len 0 (length eyes)) (map (λ eye. eye.number) eyes)
    → All (AsksAs first count) eyes → AreOf first count history.entries

-- ---- the sessions
pub told-all : Starts → ClosedTold → {J : Type 0} (lexicon_of : J → Lexicon)
    (pairs : List (LoadedPair J)) (files : List NamedFiles) → All (IsLoaded lexicon_of files) pairs
    → (history : Run) (first : ℕ) (scripts : List Script) (news : List (SessionSeen J))
    → AllZip (HasPerformed lexicon_of)
    (seats pairs scripts (fresh_eyes history.opening first (length scripts))) news
    → AllByRecursion (λ (session : SessionSeen J). session.stopped ≡ None) news
    → AllByRecursion (HasEventsOf history) (map (λ (session : SessionSeen J). session.eye) news)
    → AreToldBy files first history scripts (map (λ (session : SessionSeen J). session.text) news)
told-all starts closed lexicon_of pairs files loaded history first [] [] performed done has = refl
told-all starts closed lexicon_of pairs files loaded history first [] (new ∷ news) performed done
    has = absurd performed
told-all starts closed lexicon_of pairs files loaded history first (script ∷ scripts) [] performed
    done has = absurd performed
told-all starts closed lexicon_of pairs files loaded history first (script ∷ scripts) (new ∷ news)
    performed done has =
    let session : Session =
    record { by = first; number = script.session; pairs = files } in
    let answered =
    performed.0.answered done.0 session history.opening
    (record { number_is = refl; loaded = loaded }) (starts session history.opening) in (
      answered.replies,
      closed session (session_asks script.lines) answered.replies new.eye history answered.heard
          has.0,
      answered.text_is,
      told-all starts closed lexicon_of pairs files loaded history (first + 1) scripts news
          performed.1 done.1 has.1,
    )

-- numbers of a range are within it
in-range : (first from count bound : ℕ) (eyes : List EyeSeen) → first ≤ from
    → from + count ≤ bound → map number_of eyes ≡ range_with_len from count
    → AllByRecursion (λ eye. (first ≤ eye.number) × (eye.number < bound)) eyes
in-range first from zero bound [] least most are = tt
in-range first from (suc count) bound [] least most are = absurd (cc)
in-range first from zero bound (eye ∷ eyes) least most are = absurd (cc)
in-range first from (suc count) bound (eye ∷ eyes) least most are =
    let number : eye.number ≡ from = ap (head-or 0) are in (
      (omega (arith, number, least), omega (arith, number, most)),
      in-range first (from + 1) count bound eyes (omega (arith, least)) (omega (arith, most))
          (ap tail-of are),
    )
  where
    head-or : ℕ → List ℕ → ℕ
    head-or d [] = d
    head-or d (n ∷ ns) = n

    tail-of : List ℕ → List ℕ
    tail-of [] = []
    tail-of (n ∷ ns) = ns

map-all : {X : Type 0} {P Q : X → Type 0} (xs : List X) → ((x : X) → P x → Q x)
    → AllByRecursion P xs → AllByRecursion Q xs
map-all [] weaker all = tt
map-all (x ∷ xs) weaker all = (weaker x all.0, map-all xs weaker all.1)

-- ---- why sessions are stopped
abbrev pub NotAtLast : EyeSeen → Type 0
NotAtLast eye = IsAtLastPoint eye → ⊥

abbrev pub NotSpent : Type 0
NotSpent = (most : ℕ) (eyes : List EyeSeen) (history : Run) → IsTheirs eyes history
    → IsPermutation (range_with_len 0 (length eyes)) (map (λ eye. eye.number) eyes)
    → history.opening.paragraphs ≡ []
    → All (λ (eye : EyeSeen). events_in eye.counts ≤ most) eyes
    → length eyes * most ≤ 2 ^ 33 → AllByRecursion NotAtLast eyes

-- where the first that was stopped is none, none was
none-stopped : {J : Type 0} (sessions : List (SessionSeen J)) → first_stop sessions ≡ None
    → AllByRecursion (λ (session : SessionSeen J). session.stopped ≡ None) sessions
none-stopped [] none = tt
none-stopped {J} (session ∷ sessions) none =
    by session.stopped refl none (none-stopped sessions)
  where
    by : (stopped : Option Stop) → session.stopped ≡ stopped
        → option_or stopped (first_stop sessions) ≡ None
        → (first_stop sessions ≡ None
        → AllByRecursion (λ (one : SessionSeen J). one.stopped ≡ None) sessions)
        → AllByRecursion (λ (one : SessionSeen J). one.stopped ≡ None) (session ∷ sessions)
    by None is none rest = (is, rest none)
    by (Some why) is none rest = absurd (cc)

-- where no eye knows the last point, none was stopped by it
none-spent : {J : Type 0} (lexicon_of : J → Lexicon) (olds news : List (SessionSeen J))
    → AllZip (HasPerformed lexicon_of) olds news
    → AllByRecursion NotAtLast (map (λ (session : SessionSeen J). session.eye) news)
    → (point : ℕ) → first_stop news ≡ Some (stop.Spent point) → ⊥
none-spent lexicon_of [] [] performed none point is = absurd (cc)
none-spent lexicon_of [] (new ∷ news) performed none point is = absurd performed
none-spent lexicon_of (old ∷ olds) [] performed none point is = absurd performed
none-spent lexicon_of (old ∷ olds) (new ∷ news) performed none point is =
    by new.stopped performed.0.cut is (none-spent lexicon_of olds news performed.1 none.1 point)
  where
    by : (stopped : Option Stop) → IfSome stopped (MayStop new.eye)
        → option_or stopped (first_stop news) ≡ Some (stop.Spent point)
        → (first_stop news ≡ Some (stop.Spent point) → ⊥) → ⊥
    by None cut is rest = rest is
    by (Some why) cut is rest =
        none.0 (subst (MayStop new.eye) (same_Some why (stop.Spent point) is) cut)

-- ---- the desk
module _ {J : Type 0} (lexicon_of : J → Lexicon) (pairs : List (LoadedPair J)) (opening : Seen)
    (workers : ℕ) (scripts : List Script) (eyes : List EyeSeen) (texts : List (List ℕ))
    (stopped : Option Stop)
    (behind : AreSeatsBehind lexicon_of
    (seats pairs scripts (fresh_eyes opening workers (length scripts)))
    (fresh_eyes opening 0 workers) eyes texts stopped) where
  -- with the eye that asked for nothing behind the others
  abbrev pub all-eyes : List EyeSeen
  all-eyes = eyes ++ fresh_eye opening (workers + length scripts) ∷ []

  sessions-numbers : map number_of (map (λ (session : SessionSeen J). session.eye) behind.sessions)
      ≡ range_with_len workers (length scripts)
  sessions-numbers =
      performed-numbers lexicon_of pairs opening workers scripts behind.sessions behind.performed

  others-numbers : map number_of behind.others ≡ range_with_len 0 workers
  others-numbers =
      worked-numbers (fresh_eyes opening 0 workers) behind.others behind.worked
      ∙ fresh-numbers opening (range_with_len 0 workers)

  eyes-numbers : map number_of eyes ≡ range_with_len 0 (workers + length scripts)
  eyes-numbers =
      ap (map number_of) behind.eyes_are
      ∙ map-append number_of behind.others
      (map (λ (session : SessionSeen J). session.eye) behind.sessions)
      ∙ (λ i. others-numbers i ++ sessions-numbers i)
      ∙ sym (range-append 0 workers (length scripts)
      ∙ ap (λ n. range_with_len 0 workers ++ range_with_len n (length scripts)) (zero-add workers))

  pub all-numbers : map number_of all-eyes ≡ range_with_len 0 (workers + length scripts + 1)
  all-numbers =
      map-append number_of eyes (fresh_eye opening (workers + length scripts) ∷ [])
      ∙ ap (λ l. l ++ (workers + length scripts) ∷ []) eyes-numbers
      ∙ sym (range-append 0 (workers + length scripts) 1
      ∙ ap (λ n. range_with_len 0 (workers + length scripts) ++ n ∷ [])
      (zero-add (workers + length scripts)))

  pub all-count : length all-eyes ≡ workers + length scripts + 1
  all-count =
      sym (length-map all-eyes number_of) ∙ ap length all-numbers
      ∙ length-range_with_len 0 (workers + length scripts + 1)

  pub all-permuted : IsPermutation (range_with_len 0 (workers + length scripts + 1))
      (map (λ (eye : EyeSeen). eye.number) all-eyes)
  all-permuted =
      subst (IsPermutation (range_with_len 0 (workers + length scripts + 1))) (sym all-numbers)
      (IsPermutation-refl (range_with_len 0 (workers + length scripts + 1)))

  all-ask : All (AsksAs workers (length scripts)) all-eyes
  all-ask =
      All-from_recursion (AsksAs workers (length scripts)) all-eyes
      (both-hold (AsksAs workers (length scripts)) eyes
      (fresh_eye opening (workers + length scripts) ∷ [])
      (subst (AllByRecursion (AsksAs workers (length scripts))) (sym behind.eyes_are)
      (both-hold (AsksAs workers (length scripts)) behind.others
      (map (λ (session : SessionSeen J). session.eye) behind.sessions)
      (map-all behind.others (λ eye none. inl none)
      (none-asked opening (range_with_len 0 workers) behind.others behind.worked))
      (map-all (map (λ (session : SessionSeen J). session.eye) behind.sessions)
      (λ eye within. inr within)
      (in-range workers workers (length scripts) (workers + length scripts)
      (map (λ (session : SessionSeen J). session.eye) behind.sessions) (omega arith) (omega arith)
      sessions-numbers))))
      (inl refl, tt))

  -- no eye counts more than its session has lines
  all-few : (most : ℕ) → AllByRecursion (λ (script : Script). length script.lines ≤ most) scripts
      → All (λ (eye : EyeSeen). events_in eye.counts ≤ most) all-eyes
  all-few most short =
      All-from_recursion Few all-eyes
      (both-hold Few eyes (fresh_eye opening (workers + length scripts) ∷ [])
      (subst (AllByRecursion Few) (sym behind.eyes_are)
      (both-hold Few behind.others
      (map (λ (session : SessionSeen J). session.eye) behind.sessions)
      (map-all behind.others (λ eye none. none-few (events_in eye.counts) none)
      (none-asked opening (range_with_len 0 workers) behind.others behind.worked))
      (performed-few lexicon_of pairs opening workers most scripts behind.sessions short
      behind.performed)))
      (omega arith, tt))
    where
      Few : EyeSeen → Type 0
      Few eye = events_in eye.counts ≤ most

      none-few : (n : ℕ) → n ≡ 0 → n ≤ most
      none-few n none = omega (arith, none)

  -- no session meets the last point
  pub never-spent : NotSpent → {history : Run} → IsTheirs all-eyes history
      → opening.paragraphs ≡ [] → workers + length scripts ≤ 63
      → AllByRecursion (λ (script : Script). length script.lines ≤ 16777216) scripts
      → (point : ℕ) → stopped ≡ Some (stop.Spent point) → ⊥
  never-spent law {history} theirs empty few short point is =
      let spare = fresh_eye opening (workers + length scripts) in
      let opens : opening ≡ history.opening =
      (parts-hold (HasEventsOf history) eyes (spare ∷ []) theirs.each).1.0.opening in
      let none = law 16777216 all-eyes history theirs
      (subst (λ n. IsPermutation (range_with_len 0 n)
      (map (λ (eye : EyeSeen). eye.number) all-eyes)) (sym all-count) all-permuted)
      (ap (λ (board : Seen). board.paragraphs) (sym opens) ∙ empty)
      (all-few 16777216 short) (few-eyes (length all-eyes) (workers + length scripts) all-count few)
      in
      let own =
      parts-hold NotAtLast behind.others
      (map (λ (session : SessionSeen J). session.eye) behind.sessions)
      (subst (AllByRecursion NotAtLast) behind.eyes_are
      (parts-hold NotAtLast eyes (spare ∷ []) none).0) in
      none-spent lexicon_of
      (seats pairs scripts (fresh_eyes opening workers (length scripts))) behind.sessions
      behind.performed own.1 point (sym behind.stopped_is ∙ is)
    where
      few-eyes : (n others : ℕ) → n ≡ others + 1 → others ≤ 63 → n * 16777216 ≤ 2 ^ 33
      few-eyes n others is few = omega (arith, is, few)

  -- the history tells what is to be printed
  pub is-teamwork : Starts → ClosedTold → OnlySessions → {history : Run} → IsTheirs all-eyes history
      → stopped ≡ None → (files : List NamedFiles) → All (IsLoaded lexicon_of files) pairs
      → IsTeamwork files workers opening scripts history texts
  is-teamwork starts closed only {history} theirs going files loaded =
      let spare = fresh_eye opening (workers + length scripts) in
      let parts = parts-hold (HasEventsOf history) eyes (spare ∷ []) theirs.each in
      let own =
      parts-hold (HasEventsOf history) behind.others
      (map (λ (session : SessionSeen J). session.eye) behind.sessions)
      (subst (AllByRecursion (HasEventsOf history)) behind.eyes_are parts.0) in
      let opens : opening ≡ history.opening = parts.1.0.opening in record {
        run = theirs.run;
        opens = sym opens;
        told = subst (AreToldBy files workers history scripts) (sym behind.texts_are)
            (told-all starts closed lexicon_of pairs files loaded history workers scripts
            behind.sessions
            (subst (λ (board : Seen). AllZip (HasPerformed lexicon_of)
            (seats pairs scripts (fresh_eyes board workers (length scripts))) behind.sessions) opens
            behind.performed)
            (none-stopped behind.sessions (sym behind.stopped_is ∙ going)) own.1);
        no_others = only workers (length scripts) all-eyes history theirs
            (subst (λ n. IsPermutation (range_with_len 0 n)
            (map (λ (eye : EyeSeen). eye.number) all-eyes)) (sym all-count) all-permuted) all-ask;
      }

-- where no session was stopped, what is given back is what was done
pub ended-work : {R E : Type 0} (P : R → Type 0) {stopped : Option Stop} {done : R}
    (result : Result R E) → OnOk result (stopped ≡ None) → IfOk result (λ r. r ≡ done)
    → (stopped ≡ None → P done) → IfOk result P
ended-work P (Ok r) none is work = subst P (sym is) (work none)
ended-work P (Err why) none is work = tt
