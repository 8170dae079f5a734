-- Longer histories, and how many entries they have.
use Rattle.std.proofs.Common.{◌≡◌, ◌∙◌, refl, sym, ap, ℕ, zero, suc, ◌+◌, ◌<◌, ◌≤◌, ◌==◌, Bool}
use Rattle.std.proofs.Common.{true, false, cond, not, ◌&&◌, ltb, List, [], ◌∷◌, ◌++◌, length}
use Rattle.std.proofs.Common.{slice_get, Some, zero-add, arith}
use Rattle.std.specs.List.{AllByRecursion, count_by, range_with_len, sum_by}
use Rattle.std.specs.Str.{chars}
use Rattle.mark_types.specs.spell_types.declared.Lexicon.{Lexicon}
use Rattle.paragraph_marks.specs.Paragraphs.{marks_in}
use Rattle.paragraph_text.specs.Paragraphs.{Paragraph}
use Rattle.std.specs.Option.{option_map}
use Rattle.std.proofs.lemmas.Bool.{lt-ltb}
use Rattle.std.proofs.lemmas.Bool.Decides.{nat_tests}
use Rattle.std.proofs.lemmas.List.Sums.{sum_by-append, sum_by-cons, sum_by_push}
use Rattle.std.proofs.lemmas.Option.{slice_get-map}
use Rattle.mark_types.specs.lists.Laws.{range_more}
use Rattle.edit_core.specs.Events.{kind_of}
use Rattle.edit_core.specs.Runs.{AreQuiet, AreSteps, Entry, IsRun, Run, all_kinds, events_asked_by}
use Rattle.edit_core.specs.Runs.{asked_kinds, asked_of, entries_by, entries_of, entries_through}
use Rattle.edit_core.specs.Runs.{is_entry, is_kind, is_quiet, is_workers, last_board}
use Rattle.edit_core.specs.Seen.{Seen, IsValidBoard}
use Rattle.edit_core.specs.Views.{Marked, marks_numbered, view_of, texts_of_board}
use Rattle.edit_core.specs.declared.event.EventKind.{EventKind}
use Rattle.edit_core.specs.declared.event.EventKind.TheVariants as kind
use Rattle.edit_core.specs.declared.state.Standing.TheVariants.{Finished}
use Rattle.edit_core.proofs.Locality.{shown-at}
use Rattle.edit_core.proofs.Steps.{EditsKeepValidity, point-after, valid-after}

pub steps-apart : (board : Seen) (front back : List Entry) → AreSteps board (front ++ back)
    → AreSteps board front × AreSteps (last_board board front) back
steps-apart board [] back steps = (tt, steps)
steps-apart board (entry ∷ front) back steps =
    let later = steps-apart entry.board front back steps.1 in
    ((steps.0, later.0), later.1)

pub steps-together : (board : Seen) (front back : List Entry) → AreSteps board front
    × AreSteps (last_board board front) back → AreSteps board (front ++ back)
steps-together board [] back steps = steps.1
steps-together board (entry ∷ front) back steps =
    (steps.0.0, steps-together entry.board front back (steps.0.1, steps.1))

pub last-append : (board : Seen) (front back : List Entry)
    → last_board board (front ++ back) ≡ last_board (last_board board front) back
last-append board [] back = refl
last-append board (entry ∷ front) back = last-append entry.board front back

pub last-one : (board : Seen) (entries : List Entry) (entry : Entry)
    → last_board board (entries ++ entry ∷ []) ≡ entry.board
last-one board entries entry = last-append board entries (entry ∷ [])

pub valid-run : EditsKeepValidity → (board : Seen) (entries : List Entry) → IsValidBoard board
    → AreSteps board entries → IsValidBoard (last_board board entries)
valid-run law board [] valid steps = valid
valid-run law board (entry ∷ entries) valid steps =
    valid-run law entry.board entries (valid-after law board entry.board entry.event valid steps.0)
    steps.1

none-more : (n : ℕ) → n ≡ n + 0
none-more n = omega arith

one-more : (m n p : ℕ) → m ≡ n + 1 → m + p ≡ n + suc p
one-more m n p is = omega (arith, is)

pub point-run : (board : Seen) (entries : List Entry) → AreSteps board entries
    → (last_board board entries).point ≡ board.point + length entries
point-run board [] steps = none-more board.point
point-run board (entry ∷ entries) steps =
    point-run entry.board entries steps.1
    ∙ one-more entry.board.point board.point (length entries)
    (point-after board entry.board entry.event steps.0)

-- ---- counts
pub count-append : {X : Type 0} (p : X → Bool) (front back : List X)
    → count_by p (front ++ back) ≡ count_by p front + count_by p back
count-append p front back = sum_by-append (λ x. cond (p x) 1 0) front back

part-most : (m n p : ℕ) → m ≡ n + p → n ≤ m
part-most m n p is = omega (arith, is)

pub count-front : {X : Type 0} (p : X → Bool) (front back : List X)
    → count_by p front ≤ count_by p (front ++ back)
count-front p front back =
    part-most (count_by p (front ++ back)) (count_by p front) (count_by p back)
    (count-append p front back)

pub count-one : {X : Type 0} (p : X → Bool) (x : X) → count_by p (x ∷ []) ≡ cond (p x) 1 0
count-one p x = zero-add (cond (p x) 1 0)

-- ---- sums
-- what each item weighs in two parts, and what none weighs
sum-parts : {X : Type 0} (w u v : X → ℕ) → ((x : X) → w x ≡ u x + v x) → (xs : List X)
    → sum_by w xs ≡ sum_by u xs + sum_by v xs
sum-parts w u v parts [] = refl
sum-parts w u v parts (x ∷ xs) =
    omega (
      arith,
      sum_by-cons w x xs,
      sum_by-cons u x xs,
      sum_by-cons v x xs,
      parts x,
      sum-parts w u v parts xs,
    )

sum-none : {X : Type 0} (w : X → ℕ) → ((x : X) → w x ≡ 0) → (xs : List X) → sum_by w xs ≡ 0
sum-none w none [] = refl
sum-none w none (x ∷ xs) = omega (arith, sum_by-cons w x xs, none x, sum-none w none xs)

-- a sum over what is parted is the sum over the parts
sum-over : {X Y : Type 0} (of : Y → X → ℕ) (ys : List Y) (w : X → ℕ) (xs : List X)
    → ((x : X) → w x ≡ sum_by (λ y. of y x) ys) → sum_by w xs ≡ sum_by (λ y. sum_by (of y) xs) ys
sum-over of [] w xs parts = sum-none w parts xs
sum-over {X} of (y ∷ ys) w xs parts =
    let later : X → ℕ = λ x. sum_by (λ z. of z x) ys in
    sum-parts w (of y) later (λ x. parts x ∙ sum_by-cons (λ z. of z x) y ys) xs
    ∙ ap (λ n. sum_by (of y) xs + n) (sum-over of ys later xs (λ _. refl))
    ∙ sym (sum_by-cons (λ z. sum_by (of z) xs) y ys)

-- ---- kinds
-- each entry is of one kind, and what is asked is of one of the kinds that are asked
one-kind : (f : Bool → ℕ) → f false ≡ 0 → (k : EventKind)
    → f true ≡ sum_by (λ asked. f (is_kind asked k)) all_kinds
one-kind f none kind.Edit = omega (arith, none)
one-kind f none kind.Load = omega (arith, none)
one-kind f none kind.Claim = omega (arith, none)
one-kind f none kind.Finish = omega (arith, none)
one-kind f none kind.Park = omega (arith, none)
one-kind f none kind.Ask = omega (arith, none)

one-asked : (f : Bool → ℕ) → f false ≡ 0 → (k : EventKind)
    → f (not (is_workers k)) ≡ sum_by (λ asked. f (is_kind asked k)) asked_kinds
one-asked f none kind.Edit = omega (arith, none)
one-asked f none kind.Load = omega (arith, none)
one-asked f none kind.Claim = omega (arith, none)
one-asked f none kind.Finish = omega (arith, none)
one-asked f none kind.Park = omega (arith, none)
one-asked f none kind.Ask = omega (arith, none)

ones : {X : Type 0} (xs : List X) → sum_by (λ _. 1) xs ≡ length xs
ones [] = refl
ones (x ∷ xs) = omega (arith, sum_by-cons (λ _. 1) x xs, ones xs)

pub kinds-of : (entries : List Entry) → length entries ≡ sum_by (λ asked. entries_of asked entries)
    all_kinds
kinds-of entries =
    sym (ones entries)
    ∙ sum-over (λ asked (e : Entry). cond (is_kind asked (kind_of e.event)) 1 0) all_kinds
    (λ _. 1) entries
    (λ e. one-kind (λ b. cond b 1 0) refl (kind_of e.event))

pub kinds-by : (by : ℕ) (entries : List Entry)
    → entries_through by entries ≡ sum_by (λ asked. entries_by asked by entries) all_kinds
kinds-by by entries =
    sum-over (λ asked e. cond (is_entry asked by e) 1 0) all_kinds (λ e. cond (e.by == by) 1 0)
    entries
    (λ e. one-kind (λ b. cond (b && (e.by == by)) 1 0) refl (kind_of e.event))

pub kinds-asked_of : (entries : List Entry)
    → asked_of entries ≡ sum_by (λ asked. entries_of asked entries) asked_kinds
kinds-asked_of entries =
    sum-over (λ asked (e : Entry). cond (is_kind asked (kind_of e.event)) 1 0) asked_kinds
    (λ e. cond (not (is_quiet e.event)) 1 0) entries
    (λ e. one-asked (λ b. cond b 1 0) refl (kind_of e.event))

pub kinds-asked_by : (by : ℕ) (entries : List Entry)
    → events_asked_by by entries ≡ sum_by (λ asked. entries_by asked by entries) asked_kinds
kinds-asked_by by entries =
    sum-over (λ asked e. cond (is_entry asked by e) 1 0) asked_kinds
    (λ e. cond (not (is_quiet e.event) && (e.by == by)) 1 0) entries
    (λ e. one-asked (λ b. cond (b && (e.by == by)) 1 0) refl (kind_of e.event))

-- where nothing is asked all events are of workers
pub none-asked : (entries : List Entry) → asked_of entries ≡ 0 → AreQuiet entries
none-asked [] none = tt
none-asked (e ∷ entries) none =
    let counted = sum_by-cons (λ (e : Entry). cond (not (is_quiet e.event)) 1 0) e entries in (
      quiet (is_quiet e.event) (omega (arith, counted, none)),
      none-asked entries (omega (arith, counted, none)),
    )
  where
    quiet : (b : Bool) → cond {A = ℕ} (not b) 1 0 ≡ 0 → b ≡ true
    quiet true is = refl
    quiet false is = absurd (omega (arith, is))

-- ---- numbers
one-number : (bound n : ℕ) → cond (ltb n bound) 1 0 ≡ sum_by (λ by. cond (n == by) 1 0)
    (range_with_len 0 bound)
one-number zero n = grind (arith, nat_tests)
one-number (suc bound) n =
    let more : suc bound ≡ bound + 1 = omega arith in
    let step : cond (ltb n (suc bound)) 1 0 ≡ cond (ltb n bound) 1 0 + cond (n == bound) 1 0 =
    grind (arith, nat_tests) in
    step ∙ ap (λ m. m + cond (n == bound) 1 0) (one-number bound n)
    ∙ sym (ap (sum_by (λ by. cond (n == by) 1 0)) (ap (range_with_len 0) more ∙ range_more bound)
    ∙ sum_by_push (λ by. cond (n == by) 1 0) (range_with_len 0 bound) bound)

all-below : (bound : ℕ) (entries : List Entry) → AllByRecursion (λ entry. entry.by < bound) entries
    → count_by (λ entry. ltb entry.by bound) entries ≡ length entries
all-below bound [] below = refl
all-below bound (e ∷ entries) below =
    omega (
      arith,
      sum_by-cons (λ (e : Entry). cond (ltb e.by bound) 1 0) e entries,
      ap (λ b. cond {A = ℕ} b 1 0) (lt-ltb e.by bound below.0),
      all-below bound entries below.1,
    )

pub numbers-all : (bound : ℕ) (entries : List Entry)
    → AllByRecursion (λ entry. entry.by < bound) entries
    → sum_by (λ by. entries_through by entries) (range_with_len 0 bound) ≡ length entries
numbers-all bound entries below =
    sym (sum-over (λ by (e : Entry). cond (e.by == by) 1 0) (range_with_len 0 bound)
    (λ e. cond (ltb e.by bound) 1 0) entries (λ e. one-number bound e.by))
    ∙ all-below bound entries below

-- ---- fronts of histories
abbrev run : Seen → List Entry → Run
run opening entries = record { opening = opening; entries = entries }

pub run-front : (opening : Seen) (front back : List Entry) → IsRun (run opening (front ++ back))
    → IsRun (run opening front)
run-front opening front back is =
    record {
      opens = is.opens;
      valid = is.valid;
      steps = (steps-apart opening front back is.steps).0;
    }

pub run-longer : (opening : Seen) (front back : List Entry) → IsRun (run opening front)
    → AreSteps (last_board opening front) back
    → IsRun (run opening (front ++ back))
run-longer opening front back is more =
    record {
      opens = is.opens;
      valid = is.valid;
      steps = steps-together opening front back (is.steps, more);
    }

pub run-point : (r : Run) → IsRun r → (last_board r.opening r.entries).point ≡ length r.entries
run-point r is =
    point-run r.opening r.entries is.steps
    ∙ ap (λ (b : Seen). b.point + length r.entries) is.opens.board_is ∙ zero-add (length r.entries)

-- ---- what is shown of a finished paragraph
one-on : (place : ℕ) → 1 + place ≡ place + 1
one-on place = omega arith

pub finished-local : ((lexicon : Lexicon) (texts : List (List ℕ)) (place : ℕ) (text : List ℕ)
    → slice_get texts place ≡ Some text
    → marks_numbered lexicon texts (place + 1) ≡ marks_in lexicon text)
    → (board : Seen) (place : ℕ) (paragraph : Paragraph)
    → slice_get board.paragraphs place ≡ Some paragraph
    → slice_get board.standings place ≡ Some Finished
    → slice_get (view_of board).shown place
    ≡ Some (Marked (marks_in board.lexicon (chars paragraph.text)))
finished-local local board place paragraph at stands =
    let texts = texts_of_board board in
    shown-at board 1 board.standings place Finished stands
    ∙ ap (λ n. Some (Marked (marks_numbered board.lexicon texts n))) (one-on place)
    ∙ ap (λ ms. Some (Marked ms)) (local board.lexicon texts place (chars paragraph.text)
    (slice_get-map (λ (p : Paragraph). chars p.text) board.paragraphs place
    ∙ ap (option_map (λ (p : Paragraph). chars p.text)) at))
