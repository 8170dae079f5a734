-- Where no line has a fault a class has exactly the rules that its header announces.
use Rattle.std.proofs.Common.{◌≡◌, ℕ, ◌+◌, ◌-◌, ◌≤◌, ◌==◌, Bool, true, false, cond, filter}
use Rattle.std.proofs.Common.{filter_map, is_some, unwrap_or, List, [], ◌∷◌, ◌++◌, length, take}
use Rattle.std.proofs.Common.{Option, Some, None, Result, Ok, Err, refl, sym, ap, subst, ◌∙◌, arith}
use Rattle.std.specs.List.{cons_option}
use Rattle.std.specs.Option.{option_map, option_and_then}
use Rattle.std.specs.Result.{result_ok, result_err}
use Rattle.std.proofs.Math.Seq.{take-nil}
use Rattle.std.proofs.lemmas.Bool.Decides.{nat_tests}
use Rattle.std.proofs.lemmas.List.{length-append}
use Rattle.spell_types.specs.declared.flags.Flag.{Flag}
use Rattle.spell_types.specs.declared.flags.FlagKind.{FlagKind}
use Rattle.spell_types.specs.declared.rules.Rule.{Rule}
use Rattle.spell_types.specs.declared.rules.Side.{Side}
use Rattle.aff_lines.specs.declared.faults.AffWhy.{AffWhy}
use Rattle.aff_lines.specs.declared.faults.AffWhy.TheVariants.{MissingField, BadNumber, TableShort}
use Rattle.aff_lines.specs.declared.faults.AffWhy.TheVariants.{BadCross}
use Rattle.aff_lines.specs.declared.rows.DirectiveLine.{DirectiveLine}
use Rattle.aff_lines.specs.Faults.{Fault}
use Rattle.aff_lines.specs.Causes.{unless}
use Rattle.aff_lines.specs.Grammar.{at, faults_at}
use Rattle.aff_reader.specs.declared.class_lines.Class.{Class}
use Rattle.aff_reader.specs.declared.class_lines.Role.TheVariants.{Member, Past}
use Rattle.aff_reader.specs.declared.class_lines.ClassSoFar.{ClassSoFar}
use Rattle.aff_reader.specs.ClassLines.{field_of, side_of, flag_at, class_with, class_from}
use Rattle.aff_reader.specs.ClassLines.{class_of, is_that_class, lines_in, crossing_of}
use Rattle.aff_reader.specs.ClassLines.{announced_count}
use Rattle.aff_reader.specs.ClassLines.{wanted_behind, class_so_far, role_wanted, role_after}
use Rattle.aff_reader.specs.ClassLines.{placed_in, placed_after, each_after}
use Rattle.aff_reader.specs.ClassRules.{rule_of}
use Rattle.aff_reader.specs.Classes.{says_cross, has_rules, wants_none, role_faults, side_faults}
use Rattle.aff_reader.specs.Classes.{line_faults, too_many_rules_faults, class_faults, rules_said}
use Rattle.aff_reader.specs.ClassMembers.{is_rule_of, rules_in}
use Rattle.aff_reader.proofs.BoundLemmas.{first-none, second-none}
use Rattle.aff_reader.proofs.ClassLemmas.{same-class, lines-other, lines-own}
use Rattle.aff_reader.proofs.MemberLemmas.{said_by, role_in, none-left, one-left, lines-first}
use Rattle.aff_reader.proofs.MemberLemmas.{lines-later, lines-none, class-rules}

-- a line of a class without a fault has none by its place in the class

in-class : (kind : FlagKind) (aliases : Option (List (List Flag))) (rows : List DirectiveLine)
    (class : Class) (before : List DirectiveLine) (line : DirectiveLine) (side : Option Side)
    (flag : Option Flag)
    → is_that_class class (option_and_then (class_from flag) side) ≡ true
    → side_faults kind aliases rows line
    (option_map (placed_in kind before) (option_and_then (class_from flag) side)) side ≡ []
    → role_faults kind aliases (class_so_far (lines_in kind class rows)) line class
    (role_in kind class before) ≡ []
in-class kind aliases rows class before line None flag own none = absurd cc
in-class kind aliases rows class before line (Some side) None own none = absurd cc
in-class kind aliases rows class before line (Some side) (Some flag) own none =
    by-field (is_some (field_of line 3)) refl
  where
    at-place : Class → List Fault
    at-place c =
        role_faults kind aliases (class_so_far (lines_in kind c rows)) line c (role_in kind c before)

    by-field : (b : Bool) → is_some (field_of line 3) ≡ b → at-place class ≡ []
    by-field true there =
        ap at-place (same-class class (class_with side flag) own)
        ∙ sym (ap (λ b. cond b (at-place (class_with side flag)) (at MissingField line ∷ [])) there)
        ∙ none
    by-field false missing =
        absurd (cc (sym
        (ap (λ b. cond b (at-place (class_with side flag)) (at MissingField line ∷ [])) missing)
        ∙ none))

line-fine : (kind : FlagKind) (aliases : Option (List (List Flag))) (rows : List DirectiveLine)
    (class : Class) (before : List DirectiveLine) (line : DirectiveLine)
    → is_that_class class (class_of kind line) ≡ true → line_faults kind aliases rows before line
    ≡ []
    → role_faults kind aliases (class_so_far (lines_in kind class rows)) line class
    (role_in kind class before) ≡ []
unfolding line_faults class_of placed_after
line-fine kind aliases rows class before line own none =
    in-class kind aliases rows class before line (side_of line.directive) (flag_at kind line) own
    none

-- lines of a class none of which has a fault, behind these of it

abbrev AreFine : FlagKind → Option (List (List Flag)) → Class → Option ClassSoFar
    → List DirectiveLine → List DirectiveLine → Type 0
AreFine kind aliases class standing own [] = Unit {0}
AreFine kind aliases class standing own (line ∷ more) =
    (role_faults kind aliases standing line class (role_after (class_so_far own)) ≡ [])
    × AreFine kind aliases class standing (own ++ line ∷ []) more

lines-fine : (kind : FlagKind) (aliases : Option (List (List Flag))) (rows : List DirectiveLine)
    (class : Class) (before lines : List DirectiveLine)
    → each_after (line_faults kind aliases rows) before lines ≡ []
    → AreFine kind aliases class (class_so_far (lines_in kind class rows))
    (lines_in kind class before) (lines_in kind class lines)
lines-fine kind aliases rows class before [] none =
    subst (λ (own : List DirectiveLine). AreFine kind aliases class
    (class_so_far (lines_in kind class rows)) (lines_in kind class before) own)
    (sym (lines-none kind class)) tt
lines-fine kind aliases rows class before (line ∷ more) none =
    by-test
    (lines-fine kind aliases rows class (before ++ line ∷ []) more
    (second-none (line_faults kind aliases rows before line)
    (each_after (line_faults kind aliases rows) (before ++ line ∷ []) more) none))
    (is_that_class class (class_of kind line)) refl
  where
    standing : Option ClassSoFar
    standing = class_so_far (lines_in kind class rows)

    here : line_faults kind aliases rows before line ≡ []
    here = first-none (line_faults kind aliases rows before line)
        (each_after (line_faults kind aliases rows) (before ++ line ∷ []) more) none

    by-test : AreFine kind aliases class standing (lines_in kind class (before ++ line ∷ []))
        (lines_in kind class more)
        → (b : Bool) → is_that_class class (class_of kind line) ≡ b
        → AreFine kind aliases class standing (lines_in kind class before)
        (lines_in kind class (line ∷ more))
    by-test later true own =
        subst (λ (lines : List DirectiveLine). AreFine kind aliases class standing
        (lines_in kind class before) lines) (sym (lines-first kind class line more own)) (
          line-fine kind aliases rows class before line own here,
          subst (λ (lines : List DirectiveLine). AreFine kind aliases class standing lines
              (lines_in kind class more)) (lines-own kind class before line own) later,
        )
    by-test later false apart =
        subst (λ (lines : List DirectiveLine). AreFine kind aliases class standing
        (lines_in kind class before) lines) (sym (lines-later kind class line more apart))
        (subst (λ (lines : List DirectiveLine). AreFine kind aliases class standing lines
        (lines_in kind class more)) (lines-other kind class before line apart) later)

-- each of the rules that are wanted is said

holds : (b : Bool) (why : AffWhy) (line : DirectiveLine) → faults_at (unless b why) line ≡ []
    → b ≡ true
holds true why line none = refl
holds false why line none = absurd cc

one-said : (read : Result Rule AffWhy) (line : DirectiveLine) (rules : List Rule)
    → faults_at (result_err read) line ≡ [] → length (cons_option (result_ok read) rules)
    ≡ length rules + 1
one-said (Ok rule) line rules none = omega arith
one-said (Err why) line rules none = absurd cc

all-said : (kind : FlagKind) (aliases : Option (List (List Flag))) (class : Class)
    (standing : Option ClassSoFar) (header : DirectiveLine) (count : ℕ)
    (passed more : List DirectiveLine)
    → announced_count header ≡ Some count
    → AreFine kind aliases class standing (header ∷ passed) more
    → count - length passed ≤ length more
    → length (filter_map (said_by kind aliases class (crossing_of header))
    (take (count - length passed) more)) ≡ count - length passed
all-said kind aliases class standing header count passed [] is fine short =
    ap (λ lines. length (filter_map (said_by kind aliases class (crossing_of header)) lines))
    (take-nil (count - length passed)) ∙ omega (arith, short)
all-said kind aliases class standing header count passed (line ∷ more) is fine short =
    by-test (all-said kind aliases class standing header count (passed ++ line ∷ []) more is fine.1)
    (count - length passed == 0) refl
  where
    f : DirectiveLine → Option Rule
    f = said_by kind aliases class (crossing_of header)

    place : role_faults kind aliases standing line class
        (role_wanted (crossing_of header) (wanted_behind (length passed) (Some count))) ≡ []
    place = subst
        (λ (n : Option ℕ). role_faults kind aliases standing line class
        (role_wanted (crossing_of header) (wanted_behind (length passed) n)) ≡ []) is fine.0

    longer : length (passed ++ line ∷ []) ≡ length passed + 1
    longer = length-append passed (line ∷ [])

    -- what the lines behind this one say, if there are enough of them
    Later : ℕ → Type 0
    Later passed = count - passed ≤ length more → length (filter_map f (take (count - passed) more))
        ≡ count - passed

    by-test : Later (length (passed ++ line ∷ [])) → (b : Bool) → (count - length passed == 0) ≡ b
        → length (filter_map f (take (count - length passed) (line ∷ more))) ≡ count - length passed
    by-test later true h =
        let nothing = none-left count (length passed) h in
        ap (λ n. length (filter_map f (take n (line ∷ more)))) nothing ∙ sym nothing
    by-test later false h =
        let some = one-left count (length passed) h in
        let here : faults_at (result_err (rule_of kind aliases class (crossing_of header) line))
        line ≡ [] =
        sym (ap (λ b. role_faults kind aliases standing line class
        (cond b Past (Member (crossing_of header)))) h) ∙ place in
        let rest : length (filter_map f (take (count - (length passed + 1)) more))
        ≡ count - (length passed + 1) =
        subst Later longer later (omega (arith, short, some)) in
        ap (λ n. length (filter_map f (take n (line ∷ more)))) some
        ∙ one-said (rule_of kind aliases class (crossing_of header) line) line
        (filter_map f (take (count - (length passed + 1)) more)) here
        ∙ omega (arith, rest, some)

enough : (count behind : ℕ) → wants_none (Some (count - behind)) ≡ true → count ≤ behind
enough count behind h = grind (arith, nat_tests)

all-of : (kind : FlagKind) (aliases : Option (List (List Flag))) (class : Class)
    (header : DirectiveLine) (behind : List DirectiveLine)
    → AreFine kind aliases class (class_so_far (header ∷ behind)) [] (header ∷ behind)
    → announced_count header ≡ Some (length (rules_in kind aliases class (header ∷ behind)))
all-of kind aliases class header behind fine = by-count (announced_count header) refl
  where
    number : List Fault
    number = faults_at (unless (is_some (announced_count header)) BadNumber) header

    short : List Fault
    short = faults_at (unless (has_rules (class_so_far (header ∷ behind))) TableShort) header

    cross : List Fault
    cross = faults_at (unless (says_cross header) BadCross) header

    by-count : (count : Option ℕ) → announced_count header ≡ count
        → announced_count header ≡ Some (length (rules_in kind aliases class (header ∷ behind)))
    by-count None is =
        absurd (cc (sym (ap is_some is)
        ∙ holds (is_some (announced_count header)) BadNumber header
        (first-none number (short ++ cross) fine.0)))
    by-count (Some count) is =
        let all = holds (has_rules (class_so_far (header ∷ behind))) TableShort header
        (first-none short cross (second-none number (short ++ cross) fine.0)) in
        let within : count ≤ length behind =
        enough count (length behind)
        (sym (ap (λ n. wants_none (wanted_behind (length behind) n)) is) ∙ all) in
        let none : length {A = DirectiveLine} [] ≡ 0 = refl in
        let said : length
        (filter_map (said_by kind aliases class (crossing_of header))
        (take (count - 0) behind)) ≡ count - 0 =
        all-said kind aliases class (class_so_far (header ∷ behind)) header count [] behind is fine.1
        (omega (arith, within)) in
        let left : count - 0 ≡ count = omega arith in
        is
        ∙ ap (λ n. Some n)
        (sym (subst
        (λ (n : ℕ).
        length (filter_map (said_by kind aliases class (crossing_of header)) (take n behind))
        ≡ n) left said)
        ∙ ap (λ n. length
        (filter_map (said_by kind aliases class (crossing_of header))
        (take (unwrap_or n 0) behind))) (sym is))

pub class-counted : (kind : FlagKind) (aliases : Option (List (List Flag))) (class : Class)
    (rows : List DirectiveLine) (header : DirectiveLine) (behind : List DirectiveLine)
    → class_faults kind aliases rows ≡ [] → lines_in kind class rows ≡ header ∷ behind
    → announced_count header ≡ Some (length (filter (is_rule_of class) (rules_said kind aliases rows)))
class-counted kind aliases class rows header behind none is =
    let each = each_after (line_faults kind aliases rows) [] rows in
    let fine : AreFine kind aliases class (class_so_far (lines_in kind class rows))
    (lines_in kind class []) (lines_in kind class rows) =
    lines-fine kind aliases rows class [] rows (first-none each (too_many_rules_faults kind _ rows) none) in
    let own : AreFine kind aliases class (class_so_far (header ∷ behind)) [] (header ∷ behind) =
    subst (λ (lines : List DirectiveLine). AreFine kind aliases class (class_so_far lines) [] lines)
    is
    (subst (λ (before : List DirectiveLine). AreFine kind aliases class
    (class_so_far (lines_in kind class rows)) before (lines_in kind class rows))
    (lines-none kind class) fine) in
    all-of kind aliases class header behind own
    ∙ ap (λ rules. Some (length rules))
    (sym (class-rules kind aliases class rows ∙ ap (rules_in kind aliases class) is))
