-- How far sessions get that ask for little.
use Rattle.std.proofs.Common.{◌≡◌, ◌∙◌, refl, sym, ap, subst, ℕ, zero, suc, ◌+◌, ◌*◌, ◌^◌, ◌<◌, ◌≤◌}
use Rattle.std.proofs.Common.{◌==◌, Bool, true, false, not, ◌&&◌, cond, nat_lt, List, [], ◌∷◌, ◌++◌}
use Rattle.std.proofs.Common.{Some, length, map, arith}
use Rattle.std.proofs.Math.Nat.{suc-mul}
use Rattle.std.specs.List.{All, AllByRecursion, count_by, range_with_len}
use Rattle.std.specs.List.Sorted.{IsPermutation}
use Rattle.std.proofs.lemmas.Bool.Decides.{nat_tests}
use Rattle.std.proofs.lemmas.List.Elements.{All-from_recursion}
use Rattle.std.proofs.lemmas.List.Sums.{sum_by-cons}
use Rattle.spell_types.specs.declared.Lexicon.{Lexicon}
use Rattle.board_share.specs.edit_core.Events.{ALoad}
use Rattle.board_share.specs.edit_core.Runs.{Entry, IsRun, Run, events_asked_by, asked_of, is_quiet}
use Rattle.board_share.specs.edit_core.Runs.{last_board}
use Rattle.board_share.specs.edit_core.Seen.{Seen}
use Rattle.board_share.specs.edit_core.declared.limits.TheConstants.{MOST_MOVED}
use Rattle.board_share.specs.Endings.{HasEventsOf, IsTheirs}
use Rattle.board_share.specs.Eyes.{EyeSeen, events_in, last_of}
use Rattle.console_lang.specs.declared.command.Command.{Command}
use Rattle.console_lang.specs.declared.command.Command.TheVariants.{Ins, Put, Sub, Del, Load, Stop}
use Rattle.console_lang.specs.declared.command.Command.TheVariants.{Ask, Own, Show, Settle, Quit}
use Rattle.console_lang.specs.declared.reply.Reply.{Reply}
use Rattle.console_board.specs.Transcripts.{HasWholeText}
use Rattle.console_history.specs.Told.{IsLexiconTold, IsPlainTold}
use Rattle.team_history.specs.Eyes.{AsksAtMost, IsAtLastPoint}
use Rattle.team_history.specs.ToldBy.{Session, is_taken}
use Rattle.team_history.proofs.Askers.{each-number}
use Rattle.team_history.proofs.Cuts.{LastGoesOn}
use Rattle.team_history.proofs.Steps.{EventsAsked, Step, events-counted, said-step}

-- ---- one command
once : (new old : ℕ) (taken : Bool) → new ≡ old + cond taken 1 0 → new ≤ old + 1
once new old true is = omega (arith, is)
once new old false is = omega (arith, is)

step-asks : (session : Session) (old new : EyeSeen) (command : Command) (reply : Reply)
    → Step session old new (Some command) reply → AsksAtMost 1 old new
step-asks session old new command reply step = record {
  number = step.number;
  asked = once (events_in new.counts) (events_in old.counts) (is_taken (Some command) reply)
      step.counts;
}

-- a session whose number is that of the eye
abbrev of-eye : ℕ → EyeSeen → Session
of-eye number eye = record { by = eye.number; number = number; pairs = [] }

pub plain-asks : LastGoesOn → EventsAsked → (number : ℕ) (command : Command) (old new : EyeSeen)
    (reply : Reply) → HasWholeText command → IsPlainTold number command old new reply
    → AsksAtMost 1 old new
unfolding IsPlainTold
plain-asks last asks number (Load aff dic) old new reply whole told = absurd told
plain-asks last asks number (Own text) old new reply whole told = absurd told
plain-asks last asks number Quit old new reply whole told = absurd told
plain-asks last asks number Show old new reply whole told =
    step-asks (of-eye number old) old new Show reply
    (said-step last asks (of-eye number old) old new (Some Show) reply refl (whole, told))
plain-asks last asks number Settle old new reply whole told =
    step-asks (of-eye number old) old new Settle reply
    (said-step last asks (of-eye number old) old new (Some Settle) reply refl (whole, told))
plain-asks last asks number (Ins place text) old new reply whole told =
    step-asks (of-eye number old) old new (Ins place text) reply
    (said-step last asks (of-eye number old) old new (Some (Ins place text)) reply refl
    (whole, told))
plain-asks last asks number (Put place text) old new reply whole told =
    step-asks (of-eye number old) old new (Put place text) reply
    (said-step last asks (of-eye number old) old new (Some (Put place text)) reply refl
    (whole, told))
plain-asks last asks number (Sub place from to text) old new reply whole told =
    step-asks (of-eye number old) old new (Sub place from to text) reply
    (said-step last asks (of-eye number old) old new (Some (Sub place from to text)) reply refl
    (whole, told))
plain-asks last asks number (Del place) old new reply whole told =
    step-asks (of-eye number old) old new (Del place) reply
    (said-step last asks (of-eye number old) old new (Some (Del place)) reply refl (whole, told))
plain-asks last asks number (Stop place) old new reply whole told =
    step-asks (of-eye number old) old new (Stop place) reply
    (said-step last asks (of-eye number old) old new (Some (Stop place)) reply refl (whole, told))
plain-asks last asks number (Ask place) old new reply whole told =
    step-asks (of-eye number old) old new (Ask place) reply
    (said-step last asks (of-eye number old) old new (Some (Ask place)) reply refl (whole, told))

pub brought-asks : (lexicon : Lexicon) (old new : EyeSeen) (reply : Reply)
    → IsLexiconTold lexicon old new reply → AsksAtMost 1 old new
brought-asks lexicon old new reply told = record {
  number = told.publishes.later.number;
  asked = equal-most (events_in new.counts) (events_in old.counts + 1)
      (ap events_in told.publishes.counts ∙ events-counted (ALoad lexicon) old.counts refl);
}
  where
    equal-most : (m n : ℕ) → m ≡ n → m ≤ n
    equal-most m n is = omega (arith, is)

-- ---- all that is asked through numbers below a bound
abbrev below : ℕ → Entry → Bool
below bound entry = not (is_quiet entry.event) && nat_lt entry.by bound

abbrev through : ℕ → Entry → Bool
through by entry = not (is_quiet entry.event) && (entry.by == by)

none-below : (entries : List Entry) → count_by (below 0) entries ≡ 0
none-below [] = refl
none-below (entry ∷ entries) =
    sum_by-cons (λ (e : Entry). cond {A = ℕ} (below 0 e) 1 0) entry entries
    ∙ here (is_quiet entry.event) entry.by (count_by (below 0) entries) (none-below entries)
  where
    here : (quiet : Bool) (by rest : ℕ) → rest ≡ 0
        → cond {A = ℕ} (not quiet && nat_lt by 0) 1 0 + rest ≡ 0
    here true by rest none = omega (arith, none)
    here false by rest none = grind (arith, nat_tests)

one-below : (quiet : Bool) (by bound : ℕ)
    → cond {A = ℕ} (not quiet && nat_lt by (suc bound)) 1 0
    ≡ cond {A = ℕ} (not quiet && nat_lt by bound) 1 0
    + cond {A = ℕ} (not quiet && (by == bound)) 1 0
one-below true by bound = refl
one-below false by bound = grind (arith, nat_tests)

more-below : (bound : ℕ) (entries : List Entry) → count_by (below (suc bound)) entries
    ≡ count_by (below bound) entries + events_asked_by bound entries
more-below bound [] = refl
more-below bound (entry ∷ entries) =
    together (count_by (below (suc bound)) (entry ∷ entries))
    (count_by (below bound) (entry ∷ entries)) (events_asked_by bound (entry ∷ entries))
    (cond {A = ℕ} (below (suc bound) entry) 1 0) (cond {A = ℕ} (below bound entry) 1 0)
    (cond {A = ℕ} (through bound entry) 1 0)
    (count_by (below (suc bound)) entries) (count_by (below bound) entries)
    (events_asked_by bound entries)
    (sum_by-cons (λ (e : Entry). cond {A = ℕ} (below (suc bound) e) 1 0) entry entries)
    (sum_by-cons (λ (e : Entry). cond {A = ℕ} (below bound e) 1 0) entry entries)
    (sum_by-cons (λ (e : Entry). cond {A = ℕ} (through bound e) 1 0) entry entries)
    (one-below (is_quiet entry.event) entry.by bound) (more-below bound entries)
  where
    together : (a b c x y z r s t : ℕ) → a ≡ x + r → b ≡ y + s → c ≡ z + t → x ≡ y + z
        → r ≡ s + t → a ≡ b + c
    together a b c x y z r s t one two three here rest =
        omega (arith, one, two, three, here, rest)

pub few-below : (most bound : ℕ) (entries : List Entry)
    → ((k : ℕ) → k < bound → events_asked_by k entries ≤ most)
    → count_by (below bound) entries ≤ bound * most
few-below most zero entries each = zero-most (none-below entries)
  where
    zero-most : {n : ℕ} → n ≡ 0 → n ≤ zero * most
    zero-most {n} none = omega (arith, none)
few-below most (suc bound) entries each =
    together (count_by (below (suc bound)) entries) (count_by (below bound) entries)
    (events_asked_by bound entries) (suc bound * most) (bound * most) (more-below bound entries)
    (few-below most bound entries (λ k less. each k (omega (arith, less))))
    (each bound (omega arith)) (suc-mul bound most)
  where
    together : (a b c m n : ℕ) → a ≡ b + c → b ≤ n → c ≤ most → m ≡ n + most → a ≤ m
    together a b c m n is one two product = omega (arith, is, one, two, product)

all-below : (bound : ℕ) (entries : List Entry) → AllByRecursion (λ entry. entry.by < bound) entries
    → asked_of entries ≡ count_by (below bound) entries
all-below bound [] less = refl
all-below bound (entry ∷ entries) less =
    sum_by-cons (λ (e : Entry). cond {A = ℕ} (not (is_quiet e.event)) 1 0) entry entries
    ∙ together (one (is_quiet entry.event) entry.by less.0) (all-below bound entries less.1)
    ∙ sym (sum_by-cons (λ (e : Entry). cond {A = ℕ} (below bound e) 1 0) entry entries)
  where
    one : (quiet : Bool) (by : ℕ) → by < bound
        → cond {A = ℕ} (not quiet) 1 0 ≡ cond {A = ℕ} (not quiet && nat_lt by bound) 1 0
    one true by less = refl
    one false by less = grind (arith, nat_tests)

    together : {a b m n : ℕ} → a ≡ b → m ≡ n → a + m ≡ b + n
    together {a} {b} {m} {n} one more = omega (arith, one, more)

-- ---- the last point
abbrev pub FrontsAreRuns : Type 0
FrontsAreRuns = (opening : Seen) (front back : List Entry)
    → IsRun (record { opening = opening; entries = front ++ back })
    → IsRun (record { opening = opening; entries = front })

abbrev pub RunsAreShort : Type 0
RunsAreShort = (run : Run) → IsRun run
    → (last_board run.opening run.entries).point ≤ 2 * length run.opening.paragraphs
    + MOST_MOVED * asked_of run.entries

abbrev pub FrontsAskLess : Type 0
FrontsAskLess = (front back : List Entry) → asked_of front ≤ asked_of (front ++ back)

-- what an eye knows of a history that asks for little has not come to the last point
eye-short : FrontsAreRuns → RunsAreShort → FrontsAskLess → (history : Run) (eye : EyeSeen)
    → IsRun history → HasEventsOf history eye → history.opening.paragraphs ≡ []
    → asked_of history.entries ≤ 2 ^ 33 → IsAtLastPoint eye → ⊥
eye-short fronts short less history eye run its empty few spent =
    let back : List Entry = its.begins.0 in
    let whole_is : eye.run.entries ++ back ≡ history.entries = its.begins.1 in
    let known : IsRun eye.run =
    subst (λ (opening : Seen). IsRun (record { opening = opening; entries = eye.run.entries }))
    (sym its.opening)
    (fronts history.opening eye.run.entries back
    (subst (λ (list : List Entry). IsRun (record { opening = history.opening; entries = list }))
    (sym whole_is) run)) in
    let none : length eye.run.opening.paragraphs ≡ 0 =
    ap (λ (opening : Seen). length opening.paragraphs) its.opening ∙ ap length empty in
    let asked : asked_of eye.run.entries ≤ asked_of history.entries =
    subst (λ (list : List Entry). asked_of eye.run.entries ≤ asked_of list) whole_is
    (less eye.run.entries back) in
    far (last_of eye.run).point (length eye.run.opening.paragraphs) (asked_of eye.run.entries)
    (asked_of history.entries) (short eye.run known) none asked few spent
  where
    far : (point long asked all : ℕ) → point ≤ 2 * long + 40001 * asked → long ≡ 0
        → asked ≤ all → all ≤ 2 ^ 33 → 2 ^ 62 ≤ point → ⊥
    far point long asked all short none less few spent =
        absurd (omega (arith, short, none, less, few, spent))

each-short : {P Q : EyeSeen → Type 0} (eyes : List EyeSeen) → ((eye : EyeSeen) → P eye → Q eye)
    → AllByRecursion P eyes → AllByRecursion Q eyes
each-short [] weaker all = tt
each-short (eye ∷ eyes) weaker all = (weaker eye all.0, each-short eyes weaker all.1)

pub not-spent : FrontsAreRuns → RunsAreShort → FrontsAskLess → (most : ℕ) (eyes : List EyeSeen)
    (history : Run) → IsTheirs eyes history
    → IsPermutation (range_with_len 0 (length eyes)) (map (λ eye. eye.number) eyes)
    → history.opening.paragraphs ≡ []
    → All (λ (eye : EyeSeen). events_in eye.counts ≤ most) eyes
    → length eyes * most ≤ 2 ^ 33
    → AllByRecursion (λ (eye : EyeSeen). IsAtLastPoint eye → ⊥) eyes
not-spent fronts short less most eyes history theirs numbers empty each few =
    each-short eyes
    (λ eye its. eye-short fronts short less history eye theirs.run its empty all-few)
    theirs.each
  where
    has : All (HasEventsOf history) eyes
    has = All-from_recursion (HasEventsOf history) eyes theirs.each

    through-each : (k : ℕ) → k < length eyes → events_asked_by k history.entries ≤ most
    through-each =
        each-number (λ k. events_asked_by k history.entries ≤ most) (length eyes) eyes numbers
        (λ k d within. subst (λ n. n ≤ most) (sym (has k d within).events) (each k d within))

    all-few : asked_of history.entries ≤ 2 ^ 33
    all-few =
        within (asked_of history.entries) (count_by (below (length eyes)) history.entries)
        (length eyes * most) (all-below (length eyes) history.entries theirs.others)
        (few-below most (length eyes) history.entries through-each) few
      where
        within : (a b c : ℕ) → a ≡ b → b ≤ c → c ≤ 2 ^ 33 → a ≤ 2 ^ 33
        within a b c is less most = omega (arith, is, less, most)
