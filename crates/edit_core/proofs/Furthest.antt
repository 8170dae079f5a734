-- How far a history gets.
use Rattle.std.proofs.Common.{◌≡◌, ◌∙◌, refl, sym, ap, subst, ℕ, zero, suc, ◌+◌, ◌*◌, ◌≤◌, Bool}
use Rattle.std.proofs.Common.{true, false, cond, not, List, [], ◌∷◌, length, map, set, slice_get}
use Rattle.std.proofs.Common.{Option, None, Some, zero-add, arith}
use Rattle.std.specs.List.{count_by, insert, remove}
use Rattle.std.specs.Option.{option_map_or}
use Rattle.std.proofs.lemmas.Bool.{false≢true}
use Rattle.std.proofs.lemmas.Option.{none-some, same_Some}
use Rattle.std.proofs.lemmas.List.Sums.{count_by-le-length, sum_by-cons, sum_by-insert}
use Rattle.mark_types.specs.lists.Changes.{Change, SetAt, InsertAt, RemoveAt, changed}
use Rattle.paragraph_text.specs.Edits.{change_of, kept_after}
use Rattle.paragraph_text.specs.Paragraphs.{Paragraph}
use Rattle.paragraph_text.specs.declared.edits.Edit.{Edit}
use Rattle.edit_core.specs.Events.{SeenEvent, AnEdit, ALoad, AClaim, AFinish, APark, AnAsk}
use Rattle.edit_core.specs.Runs.{AreSteps, Entry, IsRun, Run, asked_of, furthest_point, is_held}
use Rattle.edit_core.specs.Runs.{is_quiet, is_waiting, last_board}
use Rattle.edit_core.specs.Seen.{Seen, IsOpening, IsValidBoard}
use Rattle.edit_core.specs.Steps.{Makes, MayClaim, MayFinish, Moves, Step, is_open, reloaded}
use Rattle.edit_core.specs.declared.state.Standing.{Standing}
use Rattle.edit_core.specs.declared.state.Standing.TheVariants as standing
use Rattle.edit_core.proofs.Kept.{map-long}
use Rattle.edit_core.proofs.Steps.{EditsKeepValidity, valid-after}
use Rattle.edit_core.specs.declared.limits.TheConstants.{MOST_MOVED}
use Rattle.paragraph_text.specs.declared.limits.TheConstants.{MOST_PARAGRAPHS}

-- ---- counts behind a change at one place
abbrev bit : Bool → ℕ
bit b = cond b 1 0

count-cons : {X : Type 0} (p : X → Bool) (x : X) (xs : List X)
    → count_by p (x ∷ xs) ≡ bit (p x) + count_by p xs
count-cons p x xs = sum_by-cons (λ x. cond (p x) 1 0) x xs

none-most : (n : ℕ) → 0 ≤ 0 + n
none-most n = omega arith

first-most : (a' a b c n : ℕ) → a' ≡ b + n → a ≡ c + n → a' ≤ a + b
first-most a' a b c n new old = omega (arith, new, old)

later-most : (a' a b c n' n : ℕ) → a' ≡ c + n' → a ≡ c + n → n' ≤ n + b → a' ≤ a + b
later-most a' a b c n' n new old most = omega (arith, new, old, most)

count-set-most : {X : Type 0} (p : X → Bool) (xs : List X) (k : ℕ) (y : X)
    → count_by p (set xs k y) ≤ count_by p xs + bit (p y)
count-set-most p [] k y = none-most (bit (p y))
count-set-most p (x ∷ xs) zero y =
    first-most (count_by p (y ∷ xs)) (count_by p (x ∷ xs)) (bit (p y)) (bit (p x)) (count_by p xs)
    (count-cons p y xs) (count-cons p x xs)
count-set-most p (x ∷ xs) (suc k) y =
    later-most (count_by p (x ∷ set xs k y)) (count_by p (x ∷ xs)) (bit (p y)) (bit (p x))
    (count_by p (set xs k y)) (count_by p xs)
    (count-cons p x (set xs k y)) (count-cons p x xs) (count-set-most p xs k y)

first-exact : (a' a b c d n : ℕ) → a' ≡ b + n → a ≡ c + n → c ≡ d → a' + d ≡ a + b
first-exact a' a b c d n new old same = omega (arith, new, old, same)

later-exact : (a' a b c d n' n : ℕ) → a' ≡ c + n' → a ≡ c + n → n' + d ≡ n + b → a' + d ≡ a + b
later-exact a' a b c d n' n new old more = omega (arith, new, old, more)

count-set : {X : Type 0} (p : X → Bool) (xs : List X) (k : ℕ) (x y : X) → slice_get xs k ≡ Some x
    → count_by p (set xs k y) + bit (p x) ≡ count_by p xs + bit (p y)
count-set p [] k x y at = absurd (none-some x at)
count-set p (z ∷ xs) zero x y at =
    first-exact (count_by p (y ∷ xs)) (count_by p (z ∷ xs)) (bit (p y)) (bit (p z)) (bit (p x))
    (count_by p xs) (count-cons p y xs) (count-cons p z xs)
    (ap (λ v. bit (p v)) (same_Some z x at))
count-set p (z ∷ xs) (suc k) x y at =
    later-exact (count_by p (z ∷ set xs k y)) (count_by p (z ∷ xs)) (bit (p y)) (bit (p z))
    (bit (p x)) (count_by p (set xs k y)) (count_by p xs)
    (count-cons p z (set xs k y)) (count-cons p z xs) (count-set p xs k x y at)

equal-most : (a b : ℕ) → a ≡ b → a ≤ b
equal-most a b is = omega (arith, is)

more-most : (n m : ℕ) → n ≤ n + m
more-most n m = omega arith

chain : (a b c : ℕ) → a ≤ b → b ≤ c → a ≤ c
chain a b c first second = omega (arith, first, second)

without-first : (a c n : ℕ) → a ≡ c + n → n ≤ a
without-first a c n is = omega (arith, is)

without-later : (a' a c n' n : ℕ) → a' ≡ c + n' → a ≡ c + n → n' ≤ n → a' ≤ a
without-later a' a c n' n new old most = omega (arith, new, old, most)

count-remove-most : {X : Type 0} (p : X → Bool) (xs : List X) (k : ℕ)
    → count_by p (remove xs k) ≤ count_by p xs
count-remove-most p [] zero = equal-most 0 0 refl
count-remove-most p [] (suc k) = equal-most 0 0 refl
count-remove-most p (x ∷ xs) zero =
    without-first (count_by p (x ∷ xs)) (bit (p x)) (count_by p xs) (count-cons p x xs)
count-remove-most p (x ∷ xs) (suc k) =
    without-later (count_by p (x ∷ remove xs k)) (count_by p (x ∷ xs)) (bit (p x))
    (count_by p (remove xs k)) (count_by p xs)
    (count-cons p x (remove xs k)) (count-cons p x xs) (count-remove-most p xs k)

-- behind an edit no more is counted than before it, and what is new
count-edit : {X : Type 0} (p : X → Bool) (new : X) (paragraphs : List Paragraph) (kept : List X)
    (edit : Edit) → count_by p (kept_after new paragraphs kept edit) ≤ count_by p kept + bit (p new)
count-edit p new paragraphs kept edit = by (change_of paragraphs edit)
  where
    by : (change : Option Change) → count_by p (option_map_or (λ c. changed c new kept) change kept)
        ≤ count_by p kept + bit (p new)
    by None = more-most (count_by p kept) (bit (p new))
    by (Some (SetAt k)) = count-set-most p kept k new
    by (Some (InsertAt k)) =
        equal-most (count_by p (insert kept k new)) (count_by p kept + bit (p new))
        (sum_by-insert (λ x. cond (p x) 1 0) kept k new)
    by (Some (RemoveAt k)) =
        chain (count_by p (remove kept k)) (count_by p kept) (count_by p kept + bit (p new))
        (count-remove-most p kept k)
        (more-most (count_by p kept) (bit (p new)))

-- no item passes
count-none : {X Y : Type 0} (p : Y → Bool) (f : X → Y) (xs : List X) → ((x : X) → p (f x) ≡ false)
    → count_by p (map f xs) ≡ 0
count-none p f [] none = refl
count-none p f (x ∷ xs) none =
    count-cons p (f x) (map f xs) ∙ ap (λ b. bit b + count_by p (map f xs)) (none x)
    ∙ zero-add (count_by p (map f xs)) ∙ count-none p f xs none

-- nobody holds a paragraph when a dictionary comes into force
none-held : (stands : Standing) → is_held (reloaded stands) ≡ false
none-held standing.Waiting = refl
none-held (standing.Held worker) = refl
none-held standing.Parked = refl
none-held standing.Finished = refl

-- ---- one step
-- how much further events of workers lead for one paragraph
abbrev further : Standing → ℕ
further stands = 2 * bit (is_waiting stands) + bit (is_held stands)

moved-numbers : (point waiting waiting' held held' was-waiting was-held is-waiting is-held
    extra : ℕ)
    → waiting' + was-waiting ≡ waiting + is-waiting → held' + was-held ≡ held + is-held
    → 1 + (2 * is-waiting + is-held) ≤ (2 * was-waiting + was-held) + extra
    → (point + 1) + (2 * waiting' + held') ≤ (point + (2 * waiting + held)) + extra
moved-numbers point waiting waiting' held held' was-waiting was-held is-waiting is-held extra first
    second most = omega (arith, first, second, most)

moved-further : (before after : Seen) (id : ℕ) (may : Paragraph → Standing → Type 0)
    (becomes : Standing) (extra : ℕ) → (made : Moves before id may becomes after)
    → 1 + further becomes ≤ further made.stands + extra
    → furthest_point after ≤ furthest_point before + extra
moved-further before after id may becomes extra made most =
    let standings = before.standings in
    let stands = made.stands in
    let at = made.here.standing_is in
    subst (λ b. furthest_point b ≤ furthest_point before + extra) (sym made.after_is)
    (moved-numbers before.point (count_by is_waiting standings)
    (count_by is_waiting (set standings made.place becomes))
    (count_by is_held standings) (count_by is_held (set standings made.place becomes))
    (bit (is_waiting stands)) (bit (is_held stands)) (bit (is_waiting becomes))
    (bit (is_held becomes)) extra
    (count-set is_waiting standings made.place stands becomes at)
    (count-set is_held standings made.place stands becomes at) most)

claimed-further : (stands : Standing) (worker : ℕ) → stands ≡ standing.Waiting
    → 1 + further (standing.Held worker) ≤ further stands + 0
claimed-further stands worker is =
    subst (λ s. 1 + further (standing.Held worker) ≤ further s + 0) (sym is) (omega arith)

settled-further : (stands becomes : Standing) → further becomes ≡ 0 → is_open stands ≡ true
    → 1 + further becomes ≤ further stands + 0
settled-further standing.Waiting becomes none free = omega (arith, none)
settled-further (standing.Held worker) becomes none free = omega (arith, none)
settled-further standing.Parked becomes none free = absurd (false≢true free)
settled-further standing.Finished becomes none free = absurd (false≢true free)

asked-further : (stands : Standing) → 1 + further standing.Waiting ≤ further stands + 3
asked-further stands = omega arith

no-further : (m n : ℕ) → m ≤ n + 0 → m ≤ n
no-further m n most = omega (arith, most)

pub quiet-further : (before after : Seen) (event : SeenEvent) → Step before event after
    → is_quiet event ≡ true → furthest_point after ≤ furthest_point before
quiet-further before after event step quiet =
    no-further (furthest_point after) (furthest_point before) (by event step.makes quiet)
  where
    by : (event : SeenEvent) → Makes before event after → is_quiet event ≡ true
        → furthest_point after ≤ furthest_point before + 0
    by (AnEdit session edit) made quiet = absurd (false≢true quiet)
    by (ALoad lexicon) made quiet = absurd (false≢true quiet)
    by (AClaim worker id rev) made quiet =
        moved-further before after id (MayClaim rev) (standing.Held worker) 0 made
        (claimed-further made.stands worker made.allowed.1)
    by (AFinish worker id rev dict text lexicon) made quiet =
        moved-further before after id (MayFinish before rev dict text lexicon) standing.Finished 0
        made (settled-further made.stands standing.Finished refl made.allowed.free)
    by (APark session id) made quiet = absurd (false≢true quiet)
    by (AnAsk session id) made quiet = absurd (false≢true quiet)

edited-numbers : (point waiting waiting' held held' : ℕ) → waiting' ≤ waiting + 1 → held' ≤ held + 0
    → (point + 1) + (2 * waiting' + held') ≤ (point + (2 * waiting + held)) + MOST_MOVED
edited-numbers point waiting waiting' held held' first second = omega (arith, first, second)

loaded-numbers : (point waiting waiting' held held' : ℕ) → waiting' ≤ MOST_PARAGRAPHS → held' ≡ 0
    → (point + 1) + (2 * waiting' + held') ≤ (point + (2 * waiting + held)) + MOST_MOVED
loaded-numbers point waiting waiting' held held' few none = omega (arith, few, none)

not-far : (m n extra : ℕ) → extra ≤ MOST_MOVED → m ≤ n + extra → m ≤ n + MOST_MOVED
not-far m n extra few most = omega (arith, few, most)

few-waiting : (count many all : ℕ) → count ≤ many → many ≡ all → all ≤ MOST_PARAGRAPHS
    → count ≤ MOST_PARAGRAPHS
few-waiting count many all most same few = omega (arith, most, same, few)

pub step-further : (before after : Seen) (event : SeenEvent) → IsValidBoard before
    → Step before event after → furthest_point after ≤ furthest_point before + MOST_MOVED
step-further before after event valid step = by event step.makes
  where
    near : (extra : ℕ) → extra ≤ MOST_MOVED → furthest_point after ≤ furthest_point before + extra
        → furthest_point after ≤ furthest_point before + MOST_MOVED
    near extra few most = not-far (furthest_point after) (furthest_point before) extra few most

    by : (event : SeenEvent) → Makes before event after
        → furthest_point after ≤ furthest_point before + MOST_MOVED
    by (AnEdit session edit) made =
        let standings = kept_after standing.Waiting before.paragraphs before.standings edit in
        subst (λ b. furthest_point b ≤ furthest_point before + MOST_MOVED) (sym made.after_is)
        (edited-numbers before.point (count_by is_waiting before.standings)
        (count_by is_waiting standings) (count_by is_held before.standings)
        (count_by is_held standings)
        (count-edit is_waiting standing.Waiting before.paragraphs before.standings edit)
        (count-edit is_held standing.Waiting before.paragraphs before.standings edit))
    by (ALoad lexicon) made =
        let standings = map reloaded before.standings in
        subst (λ b. furthest_point b ≤ furthest_point before + MOST_MOVED) (sym made)
        (loaded-numbers before.point (count_by is_waiting before.standings)
        (count_by is_waiting standings) (count_by is_held before.standings)
        (count_by is_held standings)
        (few-waiting (count_by is_waiting standings) (length standings) (length before.paragraphs)
        (count_by-le-length is_waiting standings)
        (map-long reloaded before.standings ∙ valid.standings) valid.paragraphs.few)
        (count-none is_held reloaded before.standings none-held))
    by (AClaim worker id rev) made =
        near 0 (omega arith)
        (moved-further before after id (MayClaim rev) (standing.Held worker) 0 made
        (claimed-further made.stands worker made.allowed.1))
    by (AFinish worker id rev dict text lexicon) made =
        near 0 (omega arith)
        (moved-further before after id (MayFinish before rev dict text lexicon)
        standing.Finished 0 made
        (settled-further made.stands standing.Finished refl made.allowed.free))
    by (APark session id) made =
        near 0 (omega arith)
        (moved-further before after id (λ _ stands. is_open stands ≡ true) standing.Parked 0
        made (settled-further made.stands standing.Parked refl made.allowed))
    by (AnAsk session id) made =
        near 3 (omega arith)
        (moved-further before after id (λ _ stands. stands ≡ standing.Parked) standing.Waiting 3
        made (asked-further made.stands))

-- ---- more steps
not-at-all : (n : ℕ) → n ≤ n + MOST_MOVED * 0
not-at-all n = omega arith

quiet-numbers : (first next last asked asked' : ℕ) → next ≤ first → last ≤ next + MOST_MOVED * asked
    → asked' ≡ 0 + asked → last ≤ first + MOST_MOVED * asked'
quiet-numbers first next last asked asked' one more is = omega (arith, one, more, is)

asked-numbers : (first next last asked asked' : ℕ) → next ≤ first + MOST_MOVED
    → last ≤ next + MOST_MOVED * asked → asked' ≡ 1 + asked → last ≤ first + MOST_MOVED * asked'
asked-numbers first next last asked asked' one more is = omega (arith, one, more, is)

run-further : EditsKeepValidity → (board : Seen) (entries : List Entry) → IsValidBoard board
    → AreSteps board entries → furthest_point (last_board board entries) ≤ furthest_point board
    + MOST_MOVED * asked_of entries
run-further law board [] valid steps = not-at-all (furthest_point board)
run-further law board (entry ∷ entries) valid steps =
    by (run-further law entry.board entries
    (valid-after law board entry.board entry.event valid steps.0) steps.1)
    (is_quiet entry.event) refl
  where
    counted : (b : Bool) → is_quiet entry.event ≡ b
        → asked_of (entry ∷ entries) ≡ bit (not b) + asked_of entries
    counted b is = count-cons (λ (e : Entry). not (is_quiet e.event)) entry entries
        ∙ ap (λ b. bit (not b) + asked_of entries) is

    by : furthest_point (last_board entry.board entries) ≤ furthest_point entry.board + MOST_MOVED
        * asked_of entries → (b : Bool) → is_quiet entry.event ≡ b
        → furthest_point (last_board entry.board entries) ≤ furthest_point board + MOST_MOVED
        * asked_of (entry ∷ entries)
    by more true is =
        quiet-numbers (furthest_point board) (furthest_point entry.board)
        (furthest_point (last_board entry.board entries)) (asked_of entries)
        (asked_of (entry ∷ entries))
        (quiet-further board entry.board entry.event steps.0 is) more (counted true is)
    by more false is =
        asked-numbers (furthest_point board) (furthest_point entry.board)
        (furthest_point (last_board entry.board entries)) (asked_of entries)
        (asked_of (entry ∷ entries))
        (step-further board entry.board entry.event valid steps.0) more (counted false is)

-- ---- from the opening board on
opened-numbers : (point waiting held many all : ℕ) → point ≡ 0 → held ≡ 0 → waiting ≤ many
    → many ≡ all → point + (2 * waiting + held) ≤ 2 * all
opened-numbers point waiting held many all none free most same =
    omega (arith, none, free, most, same)

opening-further : (board : Seen) → IsOpening board → IsValidBoard board
    → furthest_point board ≤ 2 * length board.paragraphs
opening-further board opens valid =
    opened-numbers board.point (count_by is_waiting board.standings)
    (count_by is_held board.standings) (length board.standings) (length board.paragraphs)
    (ap (λ b. b.point) opens.board_is)
    (ap (λ b. count_by is_held b.standings) opens.board_is
    ∙ count-none is_held (λ _. standing.Waiting) opens.texts (λ _. refl))
    (count_by-le-length is_waiting board.standings) valid.standings

run-numbers : (point waiting held first all asked : ℕ)
    → point + (2 * waiting + held) ≤ first + MOST_MOVED * asked → first ≤ 2 * all
    → point ≤ 2 * all + MOST_MOVED * asked
run-numbers point waiting held first all asked more opened = omega (arith, more, opened)

pub run-short : EditsKeepValidity → (run : Run) → IsRun run
    → (last_board run.opening run.entries).point ≤ 2 * length run.opening.paragraphs + MOST_MOVED
    * asked_of run.entries
run-short law run is =
    let last = last_board run.opening run.entries in
    run-numbers last.point (count_by is_waiting last.standings) (count_by is_held last.standings)
    (furthest_point run.opening) (length run.opening.paragraphs) (asked_of run.entries)
    (run-further law run.opening run.entries is.valid is.steps)
    (opening-further run.opening is.opens is.valid)
