-- Sessions that have done nothing, one behind another.
use Rattle.std.proofs.Common.{◌≡◌, ◌∙◌, refl, sym, ap, ℕ, ◌+◌, ◌<◌, ◌≤◌, List, [], ◌∷◌, ◌++◌, map}
use Rattle.std.proofs.Common.{take, drop, get_or, length, All, append_assoc, append-nil}
use Rattle.std.proofs.Common.{length-append, zero-add, subst, arith, Result, Ok, Err, IfOk, Option}
use Rattle.std.proofs.Common.{None, Some}
use Rattle.std.specs.Option.{option_or}
use Rattle.desk_console.specs.declared.stop.Stop.{Stop}
use Rattle.mark_types.specs.spell_types.declared.Lexicon.{Lexicon}
use Rattle.std.specs.List.{AllByRecursion, range_with_len}
use Rattle.std.proofs.lemmas.List.{length-map, map-append, nil_from_length, same_from_push}
use Rattle.std.proofs.lemmas.List.Elements.{All-from_recursion, recursion_from_All}
use Rattle.std.proofs.lemmas.List.FromFn.{length-range_with_len, map-range_with_len_more}
use Rattle.std.proofs.lemmas.List.FromFn.{take-map-range_with_len}
use Rattle.board_share.specs.edit_core.Seen.{Seen}
use Rattle.input_lines.specs.Answers.{HasNoBreak}
use Rattle.board_share.specs.Eyes.{EyeSeen, fresh_eye}
use Rattle.team_forms.specs.Pairs.{LoadsHeld}
use Rattle.team_forms.specs.Seats.{AreSeatsBehind, first_stop, fresh_eyes, seat, seats}
use Rattle.team_forms.specs.Sessions.{IsSessionReady, SessionSeen}
use Rattle.team_forms.proofs.Ranges.{map-drop, range-drop}
use Rattle.team_forms.specs.Teamwork.{Script}
use Rattle.team_forms.specs.declared.pairs.LoadedPair.{LoadedPair}

-- one eye more
pub seats-more : {J : Type 0} (pairs : List (LoadedPair J)) (scripts : List Script)
    (eyes : List EyeSeen) (eye : EyeSeen) (script : Script) → length eyes < length scripts
    → get_or scripts (length eyes) script ≡ script
    → seats pairs scripts (eyes ++ eye ∷ [])
    ≡ seats pairs scripts eyes ++ seat pairs script eye ∷ []
seats-more pairs [] [] eye script below is = absurd (omega (arith, below))
seats-more pairs [] (first ∷ eyes) eye script below is = absurd (omega (arith, below))
seats-more pairs (one ∷ scripts) [] eye script below is =
    ap (λ (s : Script). seat pairs s eye ∷ []) is
seats-more pairs (one ∷ scripts) (first ∷ eyes) eye script below is =
    ap (λ more. seat pairs one first ∷ more)
    (seats-more pairs scripts eyes eye script (omega (arith, below)) is)

-- what was taken of a list that goes on is shorter than the list
pub taken-below : {X : Type 0} (taken rest all more : List X) (x : X) → taken ++ rest ≡ all
    → rest ≡ x ∷ more → length taken < length all
taken-below taken rest all more x are is =
    omega (arith, sym (ap length are) ∙ length-append taken rest, ap length is)

-- what is taken of it, with the next
pub taken-more : {X : Type 0} (taken rest all more : List X) (x : X) → taken ++ rest ≡ all
    → rest ≡ x ∷ more → (taken ++ x ∷ []) ++ more ≡ all
taken-more taken rest all more x are is =
    append_assoc taken (x ∷ []) more ∙ ap (λ l. taken ++ l) (sym is) ∙ are

-- where an eye is left, so is a script
pub few-taken : {A : Type 0} (scripts : List Script) (taken rest more : List EyeSeen)
    (eye : EyeSeen) (eyes : List EyeSeen) (count : ℕ) → length eyes ≡ length scripts → taken ++ rest ≡ eyes
    → rest ≡ eye ∷ more → count ≡ length taken → length scripts ≤ count → A
few-taken scripts taken rest more eye eyes count as_many are is counted full =
    let below = taken-below taken rest eyes more eye are is in
    absurd (omega (arith, below, as_many, counted, full))

pub length-push : {X : Type 0} (xs : List X) (x : X) → length (xs ++ x ∷ []) ≡ length xs + 1
length-push xs x = length-append xs (x ∷ [])

-- where no eye is left, all were taken
pub ended-eyes : {J : Type 0} (pairs : List (LoadedPair J)) (scripts : List Script)
    (taken rest eyes : List EyeSeen) (sessions : List (SessionSeen J)) → taken ++ rest ≡ eyes
    → length rest ≡ 0 → sessions ≡ seats pairs scripts taken
    → sessions ≡ seats pairs scripts eyes
ended-eyes pairs scripts taken rest eyes sessions are none made =
    made ∙ ap (seats pairs scripts) (sym (append-nil taken)
    ∙ ap (λ l. taken ++ l) (sym (nil_from_length rest none)) ∙ are)

-- ---- the eyes of a desk

-- how many there are
pub so-many : (opening : Seen) (first count : ℕ) {eyes : List EyeSeen}
    → eyes ≡ fresh_eyes opening first count → length eyes ≡ count
so-many opening first count are =
    ap length are ∙ length-map (range_with_len first count) (fresh_eye opening)
    ∙ length-range_with_len first count

-- the last one taken off
pub taken-off : (opening : Seen) (count : ℕ) {eyes others : List EyeSeen} {eye : EyeSeen}
    → eyes ≡ fresh_eyes opening 0 (count + 1) → eyes ≡ others ++ eye ∷ []
    → (others ≡ fresh_eyes opening 0 count) × (eye ≡ fresh_eye opening count)
taken-off opening count {eyes} {others} {eye} are is =
    same_from_push others (fresh_eyes opening 0 count) eye (fresh_eye opening count)
    (sym is ∙ are ∙ map-range_with_len_more (fresh_eye opening) 0 count count (zero-add count))

-- those of the workers, and those behind them
pub first-eyes : (opening : Seen) (workers count : ℕ) {eyes first : List EyeSeen}
    → eyes ≡ fresh_eyes opening 0 (workers + count) → first ≡ take workers eyes
    → first ≡ fresh_eyes opening 0 workers
first-eyes opening workers count are is =
    is ∙ ap (take workers) are
    ∙ take-map-range_with_len (fresh_eye opening) 0 (workers + count) workers (omega arith)

pub later-eyes : (opening : Seen) (workers count : ℕ) {eyes later : List EyeSeen}
    → eyes ≡ fresh_eyes opening 0 (workers + count) → later ≡ drop workers eyes
    → later ≡ fresh_eyes opening workers count
later-eyes opening workers count are is =
    is ∙ ap (drop workers) are
    ∙ map-drop (fresh_eye opening) workers (range_with_len 0 (workers + count))
    ∙ ap (map (fresh_eye opening)) (range-drop 0 workers count
    ∙ ap (λ n. range_with_len n count) (zero-add workers))

-- sessions that have done nothing can answer their lines
pub are-ready : {J : Type 0} (pairs : List (LoadedPair J)) (scripts : List Script)
    (eyes : List EyeSeen) {sessions : List (SessionSeen J)} → sessions ≡ seats pairs scripts eyes
    → All (λ (script : Script). All HasNoBreak script.lines) scripts
    → All (λ (script : Script). All (LoadsHeld pairs) script.lines) scripts
    → All (IsSessionReady {J = J}) sessions
are-ready {J} pairs scripts eyes is whole held =
    subst (All (IsSessionReady {J = J})) (sym is)
    (All-from_recursion (IsSessionReady {J = J}) (seats pairs scripts eyes)
    (by scripts eyes
    (recursion_from_All (λ (script : Script). All HasNoBreak script.lines) scripts whole)
    (recursion_from_All (λ (script : Script). All (LoadsHeld pairs) script.lines) scripts held)))
  where
    by : (scripts : List Script) (eyes : List EyeSeen)
        → AllByRecursion (λ (script : Script). All HasNoBreak script.lines) scripts
        → AllByRecursion (λ (script : Script). All (LoadsHeld pairs) script.lines) scripts
        → AllByRecursion (IsSessionReady {J = J}) (seats pairs scripts eyes)
    by scripts [] whole held = tt
    by [] (eye ∷ eyes) whole held = tt
    by (script ∷ scripts) (eye ∷ eyes) whole held =
        (record { whole = whole.0; held = held.0 }, by scripts eyes whole.1 held.1)

-- there are as many as the workers
pub few-first : (workers count : ℕ) {long : ℕ} → long ≡ workers + count → workers ≤ long
few-first workers count is = omega (arith, is)

-- behind the sessions that had done nothing
pub behind-seats : {J R E : Type 0} (lexicon_of : J → Lexicon) (pairs : List (LoadedPair J))
    (scripts : List Script) (eyes_of : R → List EyeSeen) (texts_of : R → List (List ℕ))
    (stop_of : R → Option Stop) (result : Result R E)
    {sessions : List (SessionSeen J)} {taken later crew first : List EyeSeen}
    → sessions ≡ seats pairs scripts taken → taken ≡ later → crew ≡ first
    → IfOk result (λ r. AreSeatsBehind lexicon_of sessions crew (eyes_of r) (texts_of r) (stop_of r))
    → IfOk result (λ r. AreSeatsBehind lexicon_of (seats pairs scripts later) first (eyes_of r)
    (texts_of r) (stop_of r))
behind-seats lexicon_of pairs scripts eyes_of texts_of stop_of (Ok r) {later = later} {crew = crew}
    are is first_is behind =
    subst (λ workers. AreSeatsBehind lexicon_of (seats pairs scripts later) workers (eyes_of r)
    (texts_of r) (stop_of r)) first_is
    (subst (λ sessions. AreSeatsBehind lexicon_of sessions crew (eyes_of r) (texts_of r) (stop_of r))
    (are ∙ ap (seats pairs scripts) is) behind)
behind-seats lexicon_of pairs scripts eyes_of texts_of stop_of (Err fault) are is first_is behind =
    tt

-- one more of what is gathered
pub gathered-more : {X Y : Type 0} (f : X → Y) (front items now : List Y) (taken : List X) (x : X)
    (y : Y) → items ≡ front ++ map f taken → now ≡ items ++ y ∷ [] → y ≡ f x
    → now ≡ front ++ map f (taken ++ x ∷ [])
gathered-more f front items now taken x y are is same =
    is ∙ (λ i. are i ++ same i ∷ []) ∙ append_assoc front (map f taken) (f x ∷ [])
    ∙ ap (λ l. front ++ l) (sym (map-append f taken (x ∷ [])))

pub mapped-more : {A X Y : Type 0} (g : A → Y) (f : X → Y) (items now : List A) (taken : List X)
    (x : X) (a : A) → map g items ≡ map f taken → now ≡ items ++ a ∷ [] → g a ≡ f x
    → map g now ≡ map f (taken ++ x ∷ [])
mapped-more g f items now taken x a are is same =
    ap (map g) is ∙ map-append g items (a ∷ []) ∙ (λ i. are i ++ same i ∷ [])
    ∙ sym (map-append f taken (x ∷ []))

-- why the first was stopped, with one session more
pub stop-more : {J : Type 0} (sessions : List (SessionSeen J)) (session : SessionSeen J)
    → first_stop (sessions ++ session ∷ [])
    ≡ option_or (first_stop sessions) session.stopped
stop-more [] session = by session.stopped
  where
    by : (stopped : Option Stop) → option_or stopped None ≡ stopped
    by None = refl
    by (Some why) = refl
stop-more (first ∷ sessions) session = by first.stopped (stop-more sessions session)
  where
    by : (stopped : Option Stop)
        → first_stop (sessions ++ session ∷ []) ≡ option_or (first_stop sessions) session.stopped
        → option_or stopped (first_stop (sessions ++ session ∷ []))
        ≡ option_or (option_or stopped (first_stop sessions)) session.stopped
    by None rest = rest
    by (Some why) rest = refl

-- one is left to take off
pub some-left : {A : Type 0} (opening : Seen) (count : ℕ) {eyes : List EyeSeen}
    → eyes ≡ fresh_eyes opening 0 (count + 1) → length eyes ≡ 0 → A
some-left opening count are none =
    let long = so-many opening 0 (count + 1) are in absurd (omega (arith, long, none))
