-- No more rules are said than the headers announce.
use Rattle.std.proofs.Common.{◌≡◌, ℕ, ◌+◌, ◌-◌, ◌≤◌, ◌==◌, nat_le, ◌⊎◌, ⊎_elim, inl, inr, Bool}
use Rattle.std.proofs.Common.{true, false, cond, is_some, unwrap_or, List, [], ◌∷◌, ◌++◌, length}
use Rattle.std.proofs.Common.{Option, Some, None, refl, sym, ap, ◌∙◌, subst, append_assoc, arith}
use Rattle.std.specs.List.{sum}
use Rattle.std.specs.Option.{option_map, option_to_list}
use Rattle.std.specs.Result.{result_ok}
use Rattle.std.proofs.lemmas.Bool.{leb-true}
use Rattle.std.proofs.lemmas.Bool.Decides.{nat_tests}
use Rattle.std.proofs.lemmas.List.{length-append, append-nil}
use Rattle.std.proofs.lemmas.List.Sums.{sum_by-cons}
use Rattle.spell_types.specs.declared.flags.Flag.{Flag}
use Rattle.spell_types.specs.declared.flags.FlagKind.{FlagKind}
use Rattle.spell_types.specs.declared.rules.Rule.{Rule}
use Rattle.aff_lines.specs.declared.faults.AffWhy.TheVariants.{TooMany}
use Rattle.aff_lines.specs.declared.rows.DirectiveLine.{DirectiveLine}
use Rattle.aff_lines.specs.Causes.{unless}
use Rattle.aff_lines.specs.Faults.{Fault, least_of, FindsLeast, LeastIs}
use Rattle.aff_lines.specs.Grammar.{faults_at}
use Rattle.aff_reader.specs.declared.class_lines.Class.{Class}
use Rattle.aff_reader.specs.declared.class_lines.Crossing.{Crossing}
use Rattle.aff_reader.specs.declared.class_lines.Placed.{Placed}
use Rattle.aff_reader.specs.declared.class_lines.Role.TheVariants.{Member, Past}
use Rattle.aff_reader.specs.declared.class_lines.ClassSoFar.{ClassSoFar}
use Rattle.aff_reader.specs.ClassLines.{class_of, is_same_class, is_that_class, lines_in}
use Rattle.aff_reader.specs.ClassLines.{announced_count}
use Rattle.aff_reader.specs.ClassLines.{wanted_behind, class_so_far, role_wanted, role_after}
use Rattle.aff_reader.specs.ClassLines.{placed_in, placed_after, each_after}
use Rattle.aff_reader.specs.ClassRules.{rule_of}
use Rattle.aff_reader.specs.Classes.{announced_by, announced, heads, role_rules, placed_rules}
use Rattle.aff_reader.specs.Classes.{rules_said, line_faults, limit_faults, too_many_rules_faults}
use Rattle.aff_reader.specs.Classes.{rule_limit}
use Rattle.aff_reader.specs.Classes.{class_faults}
use Rattle.aff_reader.proofs.TurnLemmas.{announced-more}
use Rattle.aff_reader.proofs.ClassLemmas.{same-class, same-self, lines-other, lines-own}
use Rattle.aff_reader.proofs.ClassLemmas.{placed-none}

-- sums over some classes

abbrev total : (Class → ℕ) → List Class → ℕ
total f [] = 0
total f (class ∷ more) = f class + total f more

abbrev Among : List Class → Class → Type 0
Among [] class = ⊥
Among (first ∷ more) class = (first ≡ class) ⊎ Among more class

abbrev AllLe : (Class → ℕ) → (Class → ℕ) → List Class → Type 0
AllLe new old [] = Unit {0}
AllLe new old (class ∷ more) = (new class ≤ old class) × AllLe new old more

total-le : (new old : Class → ℕ) (classes : List Class) → AllLe new old classes
    → total new classes ≤ total old classes
total-le new old [] all = omega arith
total-le new old (class ∷ more) all =
    let first = all.0 in
    let rest = total-le new old more all.1 in
    omega arith

total-drop : (new old : Class → ℕ) (classes : List Class) (class : Class) (k : ℕ)
    → Among classes class → AllLe new old classes
    → k + new class ≤ old class → k + total new classes ≤ total old classes
total-drop new old [] class k among all drop = absurd among
total-drop new old (first ∷ more) class k among all drop =
    ⊎_elim
    (λ (same : first ≡ class).
    let here : k + new first ≤ old first =
    subst (λ (c : Class). k + new c ≤ old c) (sym same) drop in
    let rest = total-le new old more all.1 in
    omega arith)
    (λ (later : Among more class).
    let here = all.0 in
    let rest = total-drop new old more class k later all.1 drop in
    omega arith)
    among

-- the rules that are still wanted

abbrev still : Option ClassSoFar → ℕ
still None = 0
still (Some standing) = unwrap_or standing.wanted 0

abbrev still_in : FlagKind → List DirectiveLine → Class → ℕ
still_in kind rows class = still (class_so_far (lines_in kind class rows))

wanted-less : (count : Option ℕ) (behind : ℕ) → unwrap_or (wanted_behind (behind + 1) count) 0
    ≡ unwrap_or (wanted_behind behind count) 0 - 1
wanted-less None behind = omega arith
wanted-less (Some n) behind = omega arith

still-less : (header : DirectiveLine) (behind : List DirectiveLine) (line : DirectiveLine)
    → still (class_so_far ((header ∷ behind) ++ line ∷ [])) ≡ still (class_so_far (header ∷ behind))
    - 1
still-less header behind line =
    let longer : length (behind ++ line ∷ []) ≡ length behind + 1 =
    length-append behind (line ∷ []) in
    ap (λ n. unwrap_or (wanted_behind n (announced_count header)) 0) longer
    ∙ wanted-less (announced_count header) (length behind)

-- the rule of a line takes one of them

one-at-most : {A : Type 0} (found : Option A) → length (option_to_list found) ≤ 1
one-at-most None = omega arith
one-at-most (Some x) = omega arith

some-wanted : (wanted : ℕ) → (wanted == 0) ≡ false → 1 ≤ wanted
some-wanted wanted h = grind (arith, nat_tests)

rules-drop : (kind : FlagKind) (aliases : Option (List (List Flag))) (line : DirectiveLine)
    (class : Class) (crossing : Crossing) (wanted : Option ℕ)
    → length (role_rules kind aliases line class (role_wanted crossing wanted))
    + (unwrap_or wanted 0 - 1) ≤ unwrap_or wanted 0
rules-drop kind aliases line class crossing None = omega arith
rules-drop kind aliases line class crossing (Some wanted) = by-test (wanted == 0) refl
  where
    by-test : (none : Bool) → (wanted == 0) ≡ none
        → length (role_rules kind aliases line class (cond none Past (Member crossing)))
        + (wanted - 1) ≤ wanted
    by-test true h = omega arith
    by-test false h =
        let most = one-at-most (result_ok (rule_of kind aliases class crossing line)) in
        let some = some-wanted wanted h in
        omega arith

-- the classes that have lines

abbrev has_lines : FlagKind → List DirectiveLine → Class → Bool
has_lines kind rows class = is_some (class_so_far (lines_in kind class rows))

abbrev AllHave : FlagKind → List DirectiveLine → List Class → Type 0
AllHave kind rows [] = Unit {0}
AllHave kind rows (class ∷ more) = (has_lines kind rows class ≡ true) × AllHave kind rows more

-- the classes with lines among these rows
record Covers (kind : FlagKind) (rows : List DirectiveLine) (classes : List Class) : Type 0 where
  all : AllHave kind rows classes
  each : (class : Class) → has_lines kind rows class ≡ true → Among classes class

some-standing : (own : List DirectiveLine) (line : DirectiveLine)
    → is_some (class_so_far (own ++ line ∷ [])) ≡ true
some-standing [] line = refl
some-standing (header ∷ behind) line = refl

have-more : (kind : FlagKind) (rows : List DirectiveLine) (line : DirectiveLine) (class : Class)
    → has_lines kind rows class ≡ true → has_lines kind (rows ++ line ∷ []) class ≡ true
have-more kind rows line class has = by-test (is_that_class class (class_of kind line)) refl
  where
    by-test : (own : Bool) → is_that_class class (class_of kind line) ≡ own
        → has_lines kind (rows ++ line ∷ []) class ≡ true
    by-test true own = ap (λ o. is_some (class_so_far o)) (lines-own kind class rows line own)
        ∙ some-standing (lines_in kind class rows) line
    by-test false other =
        ap (λ o. is_some (class_so_far o)) (lines-other kind class rows line other) ∙ has

all-more : (kind : FlagKind) (rows : List DirectiveLine) (line : DirectiveLine)
    (classes : List Class) → AllHave kind rows classes → AllHave kind (rows ++ line ∷ []) classes
all-more kind rows line [] all = tt
all-more kind rows line (class ∷ more) all =
    (have-more kind rows line class all.0, all-more kind rows line more all.1)

-- a class that has lines already, or none of this line

still-other : (kind : FlagKind) (rows : List DirectiveLine) (line : DirectiveLine) (class : Class)
    → is_that_class class (class_of kind line) ≡ false
    → still_in kind (rows ++ line ∷ []) class ≡ still_in kind rows class
still-other kind rows line class other =
    ap (λ own. still (class_so_far own)) (lines-other kind class rows line other)

less-still : (own : List DirectiveLine) (line : DirectiveLine) → is_some (class_so_far own) ≡ true
    → still (class_so_far (own ++ line ∷ [])) ≡ still (class_so_far own) - 1
less-still [] line has = absurd cc
less-still (header ∷ behind) line has = still-less header behind line

still-own : (kind : FlagKind) (rows : List DirectiveLine) (line : DirectiveLine) (class : Class)
    → is_that_class class (class_of kind line) ≡ true → has_lines kind rows class ≡ true
    → still_in kind (rows ++ line ∷ []) class ≡ still_in kind rows class - 1
still-own kind rows line class own has =
    ap (λ lines. still (class_so_far lines)) (lines-own kind class rows line own)
    ∙ less-still (lines_in kind class rows) line has

still-le : (kind : FlagKind) (rows : List DirectiveLine) (line : DirectiveLine) (class : Class)
    → has_lines kind rows class ≡ true
    → still_in kind (rows ++ line ∷ []) class ≤ still_in kind rows class
still-le kind rows line class has = by-test (is_that_class class (class_of kind line)) refl
  where
    by-test : (own : Bool) → is_that_class class (class_of kind line) ≡ own
        → still_in kind (rows ++ line ∷ []) class ≤ still_in kind rows class
    by-test true own = let less = still-own kind rows line class own has in omega arith
    by-test false other = let same = still-other kind rows line class other in omega arith

all-le : (kind : FlagKind) (rows : List DirectiveLine) (line : DirectiveLine) (classes : List Class)
    → AllHave kind rows classes
    → AllLe (still_in kind (rows ++ line ∷ [])) (still_in kind rows) classes
all-le kind rows line [] all = tt
all-le kind rows line (class ∷ more) all =
    (still-le kind rows line class all.0, all-le kind rows line more all.1)

-- One line more: what it adds to the rules, with what is still wanted behind it, is no more than
-- what it announces, with what was wanted before.
record Step (kind : FlagKind) (aliases : Option (List (List Flag))) (rows : List DirectiveLine)
    (line : DirectiveLine) (classes : List Class) : Type 0 where
  next : List Class
  covers : Covers kind (rows ++ line ∷ []) next
  small : length (placed_rules kind aliases line (placed_after kind rows line))
      + total (still_in kind (rows ++ line ∷ [])) next
      ≤ announced_by line (placed_after kind rows line) + total (still_in kind rows) classes

step-none : (kind : FlagKind) (aliases : Option (List (List Flag))) (rows : List DirectiveLine)
    (line : DirectiveLine) (classes : List Class)
    → Covers kind rows classes → class_of kind line ≡ None → Step kind aliases rows line classes
step-none kind aliases rows line classes covers none =
    let other : (class : Class) → is_that_class class (class_of kind line) ≡ false =
    λ class. ap (is_that_class class) none in
    let placed : placed_after kind rows line ≡ None = sym (placed-none kind rows line none) in
    record {
      next = classes;
      covers = record {
        all = all-more kind rows line classes covers.all;
        each = λ class has.
            covers.each class
            (sym (ap (λ own. is_some (class_so_far own))
            (lines-other kind class rows line (other class))) ∙ has);
      };
      small =
          let le = total-le (still_in kind (rows ++ line ∷ [])) (still_in kind rows) classes
          (all-le kind rows line classes covers.all) in
          subst (λ (p : Option Placed). length (placed_rules kind aliases line p)
          + total (still_in kind (rows ++ line ∷ [])) classes ≤ announced_by line p
          + total (still_in kind rows) classes)
          (sym placed) (omega (arith, le));
    }

placed-is : (kind : FlagKind) (rows : List DirectiveLine) (line : DirectiveLine) (class : Class)
    (standing : Option ClassSoFar) → class_of kind line ≡ Some class
    → class_so_far (lines_in kind class rows) ≡ standing
    → placed_after kind rows line ≡ Some (record { class = class; role = role_after standing })
unfolding placed_after
placed-is kind rows line class standing is comes_to =
    ap (option_map (placed_in kind rows)) is
    ∙ ap (λ s. Some (record { class = class; role = role_after s })) comes_to

no-lines : (own : List DirectiveLine) → class_so_far own ≡ None → own ≡ []
no-lines [] h = refl
no-lines (header ∷ behind) h = absurd cc

wanted-first : (count : Option ℕ) → unwrap_or (wanted_behind 0 count) 0 ≡ unwrap_or count 0
wanted-first None = refl
wanted-first (Some n) = omega arith

own-class : (kind : FlagKind) (line : DirectiveLine) (class : Class)
    → class_of kind line ≡ Some class → is_that_class class (class_of kind line) ≡ true
own-class kind line class is = ap (is_that_class class) is ∙ same-self class

step-header : (kind : FlagKind) (aliases : Option (List (List Flag))) (rows : List DirectiveLine)
    (line : DirectiveLine) (classes : List Class) (class : Class)
    → Covers kind rows classes → class_of kind line ≡ Some class
    → class_so_far (lines_in kind class rows) ≡ None
    → Step kind aliases rows line classes
step-header kind aliases rows line classes class covers is none =
    let own = own-class kind line class is in
    let lines : lines_in kind class (rows ++ line ∷ []) ≡ line ∷ [] =
    lines-own kind class rows line own
    ∙ ap (λ l. l ++ line ∷ []) (no-lines (lines_in kind class rows) none) in
    let new = still_in kind (rows ++ line ∷ []) in
    let first : new class ≡ unwrap_or (announced_count line) 0 =
    ap (λ l. still (class_so_far l)) lines ∙ wanted-first (announced_count line) in
    let le = total-le new (still_in kind rows) classes (all-le kind rows line classes covers.all) in
    record {
      next = class ∷ classes;
      covers = record {
        all = (ap (λ l. is_some (class_so_far l)) lines, all-more kind rows line classes covers.all);
        each = λ other has. by-test other has (is_same_class other class) refl;
      };
      small = subst
          (λ (p : Option Placed). length (placed_rules kind aliases line p)
          + (new class + total new classes) ≤ announced_by line p + total (still_in kind rows)
          classes)
          (sym (placed-is kind rows line class None is none)) (omega (arith, le, first));
    }
  where
    by-test : (other : Class) → has_lines kind (rows ++ line ∷ []) other ≡ true → (b : Bool)
        → is_same_class other class ≡ b → Among (class ∷ classes) other
    by-test other has true same = inl (sym (same-class other class same))
    by-test other has false apart =
        inr (covers.each other
        (sym (ap (λ l. is_some (class_so_far l))
        (lines-other kind other rows line (ap (is_that_class other) is ∙ apart))) ∙ has))

step-later : (kind : FlagKind) (aliases : Option (List (List Flag))) (rows : List DirectiveLine)
    (line : DirectiveLine) (classes : List Class) (class : Class) (standing : ClassSoFar)
    → Covers kind rows classes → class_of kind line ≡ Some class
    → class_so_far (lines_in kind class rows) ≡ Some standing
    → Step kind aliases rows line classes
step-later kind aliases rows line classes class standing covers is comes_to =
    let has : has_lines kind rows class ≡ true = ap is_some comes_to in
    let old : still_in kind rows class ≡ unwrap_or standing.wanted 0 = ap still comes_to in
    let less = still-own kind rows line class (own-class kind line class is) has in
    let drop = rules-drop kind aliases line class standing.crossing standing.wanted in
    let small = total-drop (still_in kind (rows ++ line ∷ [])) (still_in kind rows) classes class
    (length (role_rules kind aliases line class (role_after (Some standing))))
    (covers.each class has)
    (all-le kind rows line classes covers.all) (omega (arith, drop, less, old)) in
    record {
      next = classes;
      covers = record {
        all = all-more kind rows line classes covers.all;
        each = λ other is_there. by-test other is_there (is_same_class other class) refl;
      };
      small = subst
          (λ (p : Option Placed). length (placed_rules kind aliases line p)
          + total (still_in kind (rows ++ line ∷ [])) classes ≤ announced_by line p
          + total (still_in kind rows) classes)
          (sym (placed-is kind rows line class (Some standing) is comes_to)) (omega (arith, small));
    }
  where
    by-test : (other : Class) → has_lines kind (rows ++ line ∷ []) other ≡ true → (b : Bool)
        → is_same_class other class ≡ b → Among classes other
    by-test other is_there true same =
        subst (λ (c : Class). Among classes c) (sym (same-class other class same))
        (covers.each class (ap is_some comes_to))
    by-test other is_there false apart =
        covers.each other
        (sym (ap (λ l. is_some (class_so_far l))
        (lines-other kind other rows line (ap (is_that_class other) is ∙ apart))) ∙ is_there)

step : (kind : FlagKind) (aliases : Option (List (List Flag))) (rows : List DirectiveLine)
    (line : DirectiveLine) (classes : List Class)
    → Covers kind rows classes → Step kind aliases rows line classes
step kind aliases rows line classes covers = of-class (class_of kind line) refl
  where
    of-standing : (class : Class) → class_of kind line ≡ Some class → (standing : Option ClassSoFar)
        → class_so_far (lines_in kind class rows) ≡ standing
        → Step kind aliases rows line classes
    of-standing class is None comes_to =
        step-header kind aliases rows line classes class covers is comes_to
    of-standing class is (Some standing) comes_to =
        step-later kind aliases rows line classes class standing covers is comes_to

    of-class : (class : Option Class) → class_of kind line ≡ class
        → Step kind aliases rows line classes
    of-class None is = step-none kind aliases rows line classes covers is
    of-class (Some class) is = of-standing class is (class_so_far (lines_in kind class rows)) refl

-- all lines

abbrev pub rules_each : FlagKind → Option (List (List Flag)) → List DirectiveLine → DirectiveLine
    → List Rule
rules_each kind aliases before line = placed_rules kind aliases line (placed_after kind before line)

abbrev counts_each : FlagKind → List DirectiveLine → DirectiveLine → List ℕ
counts_each kind before line = announced_by line (placed_after kind before line) ∷ []

bound : (kind : FlagKind) (aliases : Option (List (List Flag))) (before rows : List DirectiveLine)
    (classes : List Class) → Covers kind before classes
    → length (each_after (rules_each kind aliases) before rows)
    ≤ sum (each_after (counts_each kind) before rows) + total (still_in kind before) classes
bound kind aliases before [] classes covers = omega arith
bound kind aliases before (line ∷ more) classes covers =
    let here = step kind aliases before line classes covers in
    let small = here.small in
    let later = bound kind aliases (before ++ line ∷ []) more here.next here.covers in
    let long = length-append (rules_each kind aliases before line)
    (each_after (rules_each kind aliases) (before ++ line ∷ []) more) in
    let whole =
    sum_by-cons (λ (n : ℕ). n) (announced_by line (placed_after kind before line))
    (each_after (counts_each kind) (before ++ line ∷ []) more) in
    omega (arith, small, later, long, whole)

covers-none : (kind : FlagKind) → Covers kind [] []
unfolding lines_in
covers-none kind = record { all = tt; each = λ class has. absurd (cc has) }

pub rules-announced : (kind : FlagKind) (aliases : Option (List (List Flag)))
    (rows : List DirectiveLine) → length (rules_said kind aliases rows) ≤ announced kind rows
unfolding rules_said announced
rules-announced kind aliases rows = omega (arith, bound kind aliases [] rows [] (covers-none kind))

-- the limit

pub first-none : {A : Type 0} (xs ys : List A) → xs ++ ys ≡ [] → xs ≡ []
first-none [] ys h = refl
first-none (x ∷ xs) ys h = absurd cc

pub second-none : {A : Type 0} (xs ys : List A) → xs ++ ys ≡ [] → ys ≡ []
second-none [] ys h = h
second-none (x ∷ xs) ys h = absurd cc

here-within : (kind : FlagKind) (limit : ℕ) (before : List DirectiveLine) (line : DirectiveLine)
    → announced kind before ≤ limit → limit_faults kind limit before line ≡ []
    → announced kind (before ++ line ∷ []) ≤ limit
unfolding limit_faults
here-within kind limit before line so_far none =
    by-test (heads (placed_after kind before line)) refl
  where
    by-total : (b : Bool) → nat_le (announced kind (before ++ line ∷ [])) limit ≡ b
        → faults_at (unless b TooMany) line ≡ [] → announced kind (before ++ line ∷ []) ≤ limit
    by-total true h no_fault = leb-true (announced kind (before ++ line ∷ [])) limit h
    by-total false h no_fault = absurd cc

    by-test : (b : Bool) → heads (placed_after kind before line) ≡ b
        → announced kind (before ++ line ∷ []) ≤ limit
    by-test true h =
        by-total (nat_le (announced kind (before ++ line ∷ [])) limit) refl
        (sym (ap (λ t.
        cond t (faults_at (unless (nat_le (announced kind (before ++ line ∷ [])) limit) TooMany)
        line) []) h) ∙ none)
    by-test false h =
        let more = announced-more kind before line in
        let own : announced_by line (placed_after kind before line) ≡ 0 =
        ap (λ t. cond t (unwrap_or (announced_count line) 0) 0) h in
        omega (arith, more, own)

all-within : (kind : FlagKind) (limit : ℕ) (before rows : List DirectiveLine)
    → announced kind before ≤ limit → each_after (limit_faults kind limit) before rows ≡ []
    → announced kind (before ++ rows) ≤ limit
all-within kind limit before [] so_far none =
    subst (λ (lines : List DirectiveLine). announced kind lines ≤ limit) (sym (append-nil before))
    so_far
all-within kind limit before (line ∷ more) so_far none =
    let faults = limit_faults kind limit before line in
    let rest = each_after (limit_faults kind limit) (before ++ line ∷ []) more in
    subst (λ (lines : List DirectiveLine). announced kind lines ≤ limit)
    (append_assoc before (line ∷ []) more)
    (all-within kind limit (before ++ line ∷ []) more
    (here-within kind limit before line so_far (first-none faults rest none))
    (second-none faults rest none))

nothing-announced : (kind : FlagKind) (limit : ℕ) → announced kind [] ≤ limit
unfolding announced
nothing-announced kind limit = omega arith

within-limit : (kind : FlagKind) (limit : ℕ) (rows : List DirectiveLine)
    → too_many_rules_faults kind limit rows ≡ [] → announced kind rows ≤ limit
unfolding too_many_rules_faults
within-limit kind limit rows none =
    all-within kind limit [] rows (nothing-announced kind limit) none

none-least : FindsLeast → (faults : List Fault) → least_of faults ≡ None → faults ≡ []
none-least least faults none = subst (λ (o : Option Fault). LeastIs faults o) none (least faults)

pub rules-few : FindsLeast
    → (kind : FlagKind) (aliases : Option (List (List Flag))) (rows : List DirectiveLine)
    → least_of (class_faults kind aliases rows) ≡ None
    → length (rules_said kind aliases rows) ≤ rule_limit
rules-few least kind aliases rows none =
    let no_faults = none-least least (class_faults kind aliases rows) none in
    let few = within-limit kind rule_limit rows
    (second-none (each_after (line_faults kind aliases rows) [] rows)
    (too_many_rules_faults kind rule_limit rows) no_faults) in
    let said = rules-announced kind aliases rows in
    omega (arith, few, said)
