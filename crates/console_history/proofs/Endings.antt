-- A console whose desk is closed.
use Rattle.std.proofs.Common.{◌≡◌, ◌∙◌, refl, sym, ap, subst, ℕ, ◌+◌, ◌<◌, ◌≤◌, ◌==◌}
use Rattle.std.proofs.Common.{Bool, true, false, not, ◌&&◌, cond, ◌⊎◌, inl, inr, List, [], ◌∷◌}
use Rattle.std.proofs.Common.{◌++◌, ◌*◌, ◌^◌, length, map, Option, zero-add, length-append, arith}
use Rattle.std.specs.List.{All, AllByRecursion, Contains, range_with_len, sum_by}
use Rattle.std.specs.List.Sorted.{IsPermutation}
use Rattle.std.proofs.lemmas.Bool.{false≢true}
use Rattle.std.proofs.lemmas.List.Elements.{All-contains, All-from_recursion, All-get_or, All-map}
use Rattle.std.proofs.lemmas.List.FromFn.{get_or-range_with_len, length-range_with_len}
use Rattle.std.proofs.lemmas.List.Sorted.{All-permutation, IsPermutation-sym}
use Rattle.std.proofs.lemmas.List.Sums.{sum_by-cons}
use Rattle.spell_types.specs.JointLaws.{nat-own}
use Rattle.personal_words.specs.Dictionaries.{OwnSeen, in_force}
use Rattle.board_share.specs.edit_core.Runs.{AreSteps, Entry, Run, events_asked_by, asked_of}
use Rattle.board_share.specs.edit_core.Runs.{entries_through}
use Rattle.board_share.specs.edit_core.Runs.{IsRun, is_quiet, last_board}
use Rattle.board_share.specs.edit_core.declared.limits.TheConstants.{MOST_MOVED}
use Rattle.board_share.specs.edit_core.Seen.{IsValidBoard, Seen, opening_of}
use Rattle.board_share.specs.Endings.{HasEventsOf, IsTheirs}
use Rattle.board_share.specs.Eyes.{EyeSeen, IsLater, entries_in, events_in, fresh_eye}
use Rattle.board_share.specs.Eyes.{last_of}
use Rattle.console_lang.specs.declared.command.Command.{Command}
use Rattle.console_lang.specs.declared.reply.Reply.{Reply}
use Rattle.console_board.specs.Boards.{own_console_of}
use Rattle.console_board.specs.OwnConsoles.{OwnConsole}
use Rattle.console_board.specs.Transcripts.{Answers}
use Rattle.console_history.specs.Followed.{Follows, Given, IsConsoleHistory}
use Rattle.console_history.specs.Told.{Looks, Seat, Told}
use Rattle.console_history.proofs.Stretches.{CoreLaws, all-through, idle-between}
use Rattle.console_history.proofs.Counting.{GoesOn, HasCounted, HasNoMore, TakesIn, counted-on}
use Rattle.console_history.proofs.Counting.{goes-apart, goes-looks, goes-trans, looks-in}
use Rattle.console_history.proofs.Counting.{no-more-before}
use Rattle.console_history.proofs.Following.{follows-behind, follows-on, goes-told}

-- ---- numbers
right-none : (m n s : ℕ) → s ≡ m + n → s ≡ 0 → n ≡ 0
right-none m n s is none = omega (arith, is, none)

left-none : (m n s : ℕ) → s ≡ m + n → s ≡ 0 → m ≡ 0
left-none m n s is none = omega (arith, is, none)

both-same : (a b m n s t : ℕ) → s ≡ a + m → t ≡ b + n → a ≡ b → m ≡ n → s ≡ t
both-same a b m n s t first second here there = omega (arith, first, second, here, there)

other-number : {A : Type 0} (m n : ℕ) → (m == n) ≡ false → m ≡ n → A
other-number m n other same =
    absurd (false≢true (sym other ∙ ap (λ k. k == n) same ∙ nat-own n))

equal-most : (m n : ℕ) → m ≡ n → m ≤ n
equal-most m n is = omega (arith, is)

-- ---- who asks
-- an entry is asked through a number, or the count through its own is not none
head-same : (quiet same self : Bool) → self ≡ true
    → (same ≡ false → cond {A = ℕ} (not quiet && self) 1 0 ≡ 0)
    → cond {A = ℕ} (not quiet) 1 0 ≡ cond {A = ℕ} (not quiet && same) 1 0
head-same true same self is none = refl
head-same false true self is none = refl
head-same false false true is none = absurd (omega (arith, none refl))
head-same false false false is none = absurd (false≢true is)

-- where no number below a bound asks but one, all that is asked comes through that one
asked-through : (bound by : ℕ) (entries : List Entry)
    → AllByRecursion (λ entry. entry.by < bound) entries
    → ((k : ℕ) → k < bound → (k == by) ≡ false → events_asked_by k entries ≡ 0)
    → asked_of entries ≡ events_asked_by by entries
asked-through bound by [] below none = refl
asked-through bound by (entry ∷ entries) below none =
    let test : ℕ → Entry → ℕ = λ k (e : Entry).
    cond {A = ℕ} (not (is_quiet e.event) && (e.by == k)) 1 0 in
    let here : (k : ℕ) → events_asked_by k (entry ∷ entries) ≡ test k entry + events_asked_by k entries =
    λ k. sum_by-cons (test k) entry entries in
    both-same (cond {A = ℕ} (not (is_quiet entry.event)) 1 0) (test by entry) (asked_of entries)
    (events_asked_by by entries) (asked_of (entry ∷ entries)) (events_asked_by by (entry ∷ entries))
    (sum_by-cons (λ (e : Entry). cond {A = ℕ} (not (is_quiet e.event)) 1 0) entry entries)
    (here by)
    (head-same (is_quiet entry.event) (entry.by == by) (entry.by == entry.by)
    (nat-own entry.by)
    (λ other. left-none (test entry.by entry) (events_asked_by entry.by entries)
    (events_asked_by entry.by (entry ∷ entries)) (here entry.by) (none entry.by below.0 other)))
    (asked-through bound by entries below.1 (λ k less other.
    right-none (test k entry) (events_asked_by k entries) (events_asked_by k (entry ∷ entries)) (here k)
    (none k less other)))

-- what holds of the number of each eye holds of all numbers
each-number : (P : ℕ → Type 0) (count : ℕ) (eyes : List EyeSeen)
    → IsPermutation (range_with_len 0 count) (map (λ eye. eye.number) eyes)
    → All (λ (eye : EyeSeen). P eye.number) eyes → (k : ℕ) → k < count → P k
each-number P count eyes numbers all k less =
    let range = range_with_len 0 count in
    let named = map (λ (eye : EyeSeen). eye.number) eyes in
    let each : All P range =
    All-permutation P named range (IsPermutation-sym range named numbers)
    (All-map P (λ (eye : EyeSeen). eye.number) eyes all) in
    let long : length range ≡ count = length-range_with_len 0 count in
    subst P (get_or-range_with_len 0 count k 0 less ∙ zero-add k)
    (All-get_or P range k 0 (subst (λ n. k < n) (sym long) less) each)

-- a lone eye has the first number
lone-number : (eyes : List EyeSeen) (eye : EyeSeen) → length eyes ≡ 1
    → IsPermutation (range_with_len 0 (length eyes)) (map (λ eye. eye.number) eyes)
    → Contains eyes eye → eye.number ≡ 0
lone-number [] eye long numbers has = absurd (omega (arith, long))
lone-number (only ∷ []) eye long numbers has =
    let all : All (λ (other : EyeSeen). other.number ≡ only.number) (only ∷ []) =
    All-from_recursion (λ (other : EyeSeen). other.number ≡ only.number) (only ∷ [])
    (refl, tt) in
    All-contains (λ (other : EyeSeen). other.number ≡ only.number) (only ∷ []) eye all has
    ∙ sym (each-number (λ k. k ≡ only.number) 1 (only ∷ []) numbers all 0 (omega arith))
lone-number (one ∷ other ∷ eyes) eye long numbers has = absurd (omega (arith, long))

-- an eye asks for nothing, or it is the console's
asks-nothing : (by : ℕ) (history : Run) (eye : EyeSeen) → HasEventsOf history eye
    → (eye.number ≡ by) ⊎ (events_in eye.counts ≡ 0)
    → (events_asked_by eye.number history.entries ≡ 0) ⊎ (eye.number ≡ by)
asks-nothing by history eye has (inl own) = inr own
asks-nothing by history eye has (inr none) = inl (has.events ∙ none)

none-through : (by k : ℕ) (history : Run) → (events_asked_by k history.entries ≡ 0) ⊎ (k ≡ by)
    → (k == by) ≡ false → events_asked_by k history.entries ≡ 0
none-through by k history (inl none) other = none
none-through by k history (inr same) other = other-number k by other same

-- ---- the whole history
abbrev pub ThroughAll : Type 0
ThroughAll = (bound : ℕ) (entries : List Entry)
    → AllByRecursion (λ entry. entry.by < bound) entries
    → sum_by (λ by. entries_through by entries) (range_with_len 0 bound) ≡ length entries

-- an eye that knows the whole of a history
abbrev whole : Run → EyeSeen → EyeSeen
whole history eye = record { number = eye.number; run = history; counts = eye.counts }

one-worker : (workers count : ℕ) → count ≡ workers + 1 → workers ≡ 0 → count ≡ 1
one-worker workers count is none = omega (arith, is, none)

-- the console's eye, and the eyes of the desk that is closed
pub record IsClosedOver (given : Given) (eyes : List EyeSeen) (eye : EyeSeen) (history : Run) : Type
    0 where
  pub theirs : IsTheirs eyes history
  pub numbers : IsPermutation (range_with_len 0 (length eyes)) (map (λ other. other.number) eyes)
  pub count : length eyes ≡ given.workers + 1
  pub among : Contains eyes eye
  pub number : eye.number ≡ given.by
  pub alone : All (λ (other : EyeSeen).
      (other.number ≡ given.by) ⊎ (events_in other.counts ≡ 0)) eyes

module _ {given : Given} {eyes : List EyeSeen} {eye : EyeSeen} {history : Run}
    (closed : IsClosedOver given eyes eye history) where
  its-events : HasEventsOf history eye
  its-events =
      All-contains (HasEventsOf history) eyes eye
      (All-from_recursion (HasEventsOf history) eyes closed.theirs.each) closed.among

  asked-all : asked_of history.entries ≡ events_in eye.counts
  asked-all =
      let by = given.by in
      let has : All (HasEventsOf history) eyes =
      All-from_recursion (HasEventsOf history) eyes closed.theirs.each in
      let asks : All (λ (other : EyeSeen). (events_asked_by other.number history.entries ≡ 0)
      ⊎ (other.number ≡ by)) eyes =
      λ k d less. asks-nothing by history _ (has k d less) (closed.alone k d less) in
      asked-through (length eyes) by history.entries closed.theirs.others
      (λ k less other. none-through by k history
      (each-number (λ n. (events_asked_by n history.entries ≡ 0) ⊎ (n ≡ by)) (length eyes) eyes
      closed.numbers asks k less) other)
      ∙ ap (λ n. events_asked_by n history.entries) (sym closed.number) ∙ its-events.events

  length-all : ThroughAll → given.workers ≡ 0 → length history.entries ≡ entries_in eye.counts
  length-all through none =
      let lone : length eyes ≡ 1 =
      one-worker given.workers (length eyes) closed.count none in
      let first : eye.number ≡ 0 = lone-number eyes eye lone closed.numbers closed.among in
      let sum : 0 + entries_through 0 history.entries ≡ length history.entries =
      through 1 history.entries
      (subst (λ n. AllByRecursion (λ (entry : Entry). entry.by < n) history.entries) lone
      closed.theirs.others) in
      sym sum ∙ zero-add (entries_through 0 history.entries)
      ∙ ap (λ n. entries_through n history.entries) (sym first) ∙ its-events.entries

  whole-most : ThroughAll → HasNoMore given.workers (whole history eye)
  whole-most through = record {
    asked = equal-most (asked_of history.entries) (events_in eye.counts) asked-all;
    all = λ none. equal-most (length history.entries) (entries_in eye.counts)
        (length-all through none);
    own = λ none. all-through eye.number history.entries
        (equal-most (length history.entries) (entries_through eye.number history.entries)
        (length-all through none ∙ sym its-events.entries));
    steps = closed.theirs.run.steps;
  }

  whole-looks : Looks eye (whole history eye)
  whole-looks = record {
    later = record {
      number = refl;
      opening = sym its-events.opening;
      begins = its-events.begins;
      longer = longer-front eye.run.entries its-events.begins.0 history.entries
          (entries_in eye.counts) its-events.begins.1;
    };
    counts = refl;
  }
    where
      longer-front : (front back all : List Entry) (n : ℕ) → front ++ back ≡ all
          → length front + n ≤ length all + n
      longer-front front back all n is =
          omega (arith, sym (ap length is) ∙ length-append front back)

-- ---- the last point
abbrev pub FrontsAreRuns : Type 0
FrontsAreRuns = (opening : Seen) (front back : List Entry)
    → IsRun (record { opening = opening; entries = front ++ back })
    → IsRun (record { opening = opening; entries = front })

abbrev pub RunsAreShort : Type 0
RunsAreShort = (run : Run) → IsRun run
    → (last_board run.opening run.entries).point ≤ 2 * length run.opening.paragraphs
    + MOST_MOVED * asked_of run.entries

-- what the console's eye knows is a history with no more events that are not of workers than it
-- counts
pub not-spent : FrontsAreRuns → RunsAreShort
    → ((front back : List Entry) → asked_of front ≤ asked_of (front ++ back))
    → {given : Given} {eyes : List EyeSeen} {eye : EyeSeen} {history : Run}
    → IsClosedOver given eyes eye history → history.opening.paragraphs ≡ []
    → events_in eye.counts ≤ 2 ^ 33 → (last_of eye.run).point < 2 ^ 62
not-spent fronts short grows {given} {eyes} {eye} {history} closed empty few =
    let its = its-events closed in
    let back : List Entry = its.begins.0 in
    let whole_is : eye.run.entries ++ back ≡ history.entries = its.begins.1 in
    let known : IsRun eye.run =
    subst (λ (opening : Seen). IsRun (record { opening = opening; entries = eye.run.entries }))
    (sym its.opening)
    (fronts history.opening eye.run.entries back
    (subst (λ (list : List Entry). IsRun (record { opening = history.opening; entries = list }))
    (sym whole_is) closed.theirs.run)) in
    let none : length eye.run.opening.paragraphs ≡ 0 =
    ap (λ (opening : Seen). length opening.paragraphs) its.opening ∙ ap length empty in
    let asked : asked_of eye.run.entries ≤ events_in eye.counts =
    subst (λ n. asked_of eye.run.entries ≤ n) (ap asked_of whole_is ∙ asked-all closed)
    (grows eye.run.entries back) in
    far (last_of eye.run).point (length eye.run.opening.paragraphs) (asked_of eye.run.entries)
    (events_in eye.counts) (short eye.run known) none asked few
  where
    far : (point long asked counted : ℕ) → point ≤ 2 * long + 40001 * asked → long ≡ 0
        → asked ≤ counted → counted ≤ 2 ^ 33 → point < 2 ^ 62
    far point long asked counted short none less few = omega (arith, short, none, less, few)

-- ---- the console
-- the board that a console opens with
abbrev pub first_board : OwnSeen → Seen
first_board dictionary = opening_of (in_force dictionary) []

-- a console that has not begun
abbrev pub opened : Given → OwnSeen → Seat
opened given dictionary = record {
  eye = fresh_eye (first_board dictionary) given.by;
  dictionary = dictionary;
}

fresh-counted : (opening : Seen) (by : ℕ) → HasCounted (fresh_eye opening by)
fresh-counted opening by = record { asked = omega arith; all = omega arith }

-- told from a fresh eye on, a console is followed in all that it knows
pub follows-all : CoreLaws → (given : Given) (opening : Seen) (dictionary : OwnSeen) (after : Seat)
    (commands : List (Option Command)) (replies : List Reply)
    → Told given.folder given.session
    (record { eye = fresh_eye opening given.by; dictionary = dictionary }) commands replies after
    → HasNoMore given.workers after.eye
    → Follows given dictionary opening after.eye.run.entries commands replies after.dictionary
follows-all laws given opening dictionary after commands replies tells most =
    let first : Seat =
    record { eye = fresh_eye opening given.by; dictionary = dictionary } in
    let stretch = follows-on laws given first commands replies after tells
    (fresh-counted opening given.by) most refl in
    subst (λ (entries : List Entry). Follows given dictionary opening entries commands replies
    after.dictionary) (sym stretch.entries) stretch.followed

-- the law that a console that is followed replies as one
abbrev pub FollowedReply : Type 0
FollowedReply = (given : Given) (before after : OwnSeen) (board : Seen) (entries : List Entry)
    (commands : List (Option Command)) (replies : List Reply) → IsValidBoard board
    → AreSteps board entries → Follows given before board entries commands replies after
    → (last : OwnConsole)
    × Answers given.workers given.folder (own_console_of before board) commands replies last

module _ (laws : CoreLaws) (through : ThroughAll) {given : Given} {eyes : List EyeSeen}
    {eye : EyeSeen} {history : Run} (closed : IsClosedOver given eyes eye history)
    (dictionary : OwnSeen) (seen : Seat) (commands : List (Option Command)) (replies : List Reply)
    (tells : Told given.folder given.session (opened given dictionary) commands replies seen)
    (later : IsLater seen.eye eye)
    (apart : events_in eye.counts + asked_of seen.eye.run.entries
    ≤ asked_of eye.run.entries + events_in seen.eye.counts) where
  goes-first : GoesOn (opened given dictionary).eye seen.eye
  goes-first =
      goes-told laws given.folder given.session (opened given dictionary) commands replies seen
      tells

  seen-most : HasNoMore given.workers seen.eye
  seen-most =
      no-more-before laws seen.eye (whole history eye)
      (goes-trans laws seen.eye eye (whole history eye) (goes-apart laws seen.eye eye later apart)
      (goes-looks laws eye (whole history eye) (whole-looks closed)))
      (whole-most closed through)

  seen-counted : HasCounted seen.eye
  seen-counted =
      counted-on laws (opened given dictionary).eye seen.eye goes-first
      (fresh-counted (first_board dictionary) given.by)

  seen-follows : Follows given dictionary (first_board dictionary)
      seen.eye.run.entries commands replies seen.dictionary
  seen-follows =
      follows-all laws given (first_board dictionary) dictionary seen commands
      replies tells seen-most

  history-opens : history.opening ≡ first_board dictionary
  history-opens =
      sym (its-events closed).opening ∙ later.opening ∙ goes-first.opening

  pub replies-as-one : FollowedReply → (last : OwnConsole)
      × Answers given.workers given.folder
      (own_console_of dictionary (first_board dictionary)) commands replies last
  replies-as-one law =
      law given dictionary seen.dictionary (first_board dictionary)
      seen.eye.run.entries commands replies
      (subst IsValidBoard history-opens closed.theirs.run.valid)
      (subst (λ (board : Seen). AreSteps board seen.eye.run.entries) goes-first.opening
      seen-most.steps)
      seen-follows

  pub is-history : seen.eye ≡ eye
      → IsConsoleHistory given dictionary commands replies history
  is-history same =
      let past : TakesIn given.workers eye (whole history eye) =
      looks-in laws given.workers eye (whole history eye) (whole-looks closed)
      (subst HasCounted same seen-counted) (whole-most closed through) in
      let entries : seen.eye.run.entries ++ past.part ≡ history.entries =
      ap (λ (e : EyeSeen). e.run.entries ++ past.part) same ∙ sym past.entries in
      record {
        run = closed.theirs.run;
        opens = history-opens;
        after = seen.dictionary;
        follows = subst (λ (board : Seen). Follows given dictionary board history.entries
            commands replies seen.dictionary) (sym history-opens)
            (subst (λ (list : List Entry). Follows given dictionary
            (first_board dictionary) list commands replies seen.dictionary) entries
            (follows-behind given dictionary seen.dictionary
            (first_board dictionary) seen.eye.run.entries past.part commands
            replies seen-follows
            (idle-between laws given.workers past.part past.idle)));
      }
