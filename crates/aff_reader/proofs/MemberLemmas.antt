-- The rules of a class are the next lines of the class behind its header.
use Rattle.std.proofs.Common.{◌≡◌, ℕ, suc, ◌+◌, ◌-◌, ◌==◌, Bool, true, false, cond, filter}
use Rattle.std.proofs.Common.{filter_map, unwrap_or, List, [], ◌∷◌, ◌++◌, length, take, Option}
use Rattle.std.proofs.Common.{Some, None, Result, Ok, Err, refl, sym, ap, ◌∙◌, arith}
use Rattle.std.specs.List.{cons_option}
use Rattle.std.specs.Option.{option_map, option_to_list}
use Rattle.std.specs.Result.{result_ok}
use Rattle.std.proofs.Math.Seq.{take-nil}
use Rattle.std.proofs.lemmas.Bool.Decides.{nat_tests}
use Rattle.std.proofs.lemmas.List.{length-append}
use Rattle.std.proofs.lemmas.List.Elements.{filter-append}
use Rattle.spell_types.specs.declared.flags.Flag.{Flag}
use Rattle.spell_types.specs.declared.flags.FlagKind.{FlagKind}
use Rattle.spell_types.specs.declared.rules.Piece.{Piece}
use Rattle.spell_types.specs.declared.rules.Rule.{Rule}
use Rattle.aff_lines.specs.declared.faults.AffWhy.{AffWhy}
use Rattle.aff_lines.specs.declared.rows.DirectiveLine.{DirectiveLine}
use Rattle.aff_reader.specs.declared.class_lines.Class.{Class}
use Rattle.aff_reader.specs.declared.class_lines.Crossing.{Crossing}
use Rattle.aff_reader.specs.declared.class_lines.Role.{Role}
use Rattle.aff_reader.specs.declared.class_lines.Role.TheVariants.{Header, Member, Past, Unplaced}
use Rattle.aff_reader.specs.ClassLines.{class_of, is_same_class, is_that_class, lines_in}
use Rattle.aff_reader.specs.ClassLines.{crossing_of, announced_count, wanted_behind, class_so_far}
use Rattle.aff_reader.specs.ClassLines.{role_wanted, role_after, placed_in, placed_after}
use Rattle.aff_reader.specs.ClassLines.{each_after}
use Rattle.aff_reader.specs.ClassRules.{rule_with, rule_from, rule_of}
use Rattle.aff_reader.specs.Classes.{role_rules, placed_rules, rules_said}
use Rattle.aff_reader.specs.ClassMembers.{is_rule_of, rules_in}
use Rattle.aff_reader.proofs.BoundLemmas.{rules_each}
use Rattle.aff_reader.proofs.ClassLemmas.{same-class, lines-other, lines-own}

-- a rule is of the class whose line says it, and of no other

own-with : (of class : Class) (crossing : Crossing) (strip add : List ℕ)
    (carried : Result (List Flag) AffWhy) (condition : Option (List Piece))
    → is_same_class of class ≡ true
    → filter (is_rule_of of)
    (option_to_list (result_ok (rule_with class crossing strip add carried condition)))
    ≡ option_to_list (result_ok (rule_with class crossing strip add carried condition))
own-with of class crossing strip add (Err why) condition same = refl
own-with of class crossing strip add (Ok carried) None same = refl
own-with of class crossing strip add (Ok carried) (Some condition) same =
    let rules =
    option_to_list
    (result_ok (rule_with class crossing strip add (Ok carried) (Some condition))) in
    ap (λ b. cond b rules []) same

other-with : (of class : Class) (crossing : Crossing) (strip add : List ℕ)
    (carried : Result (List Flag) AffWhy) (condition : Option (List Piece))
    → is_same_class of class ≡ false
    → filter (is_rule_of of)
    (option_to_list (result_ok (rule_with class crossing strip add carried condition))) ≡ []
other-with of class crossing strip add (Err why) condition apart = refl
other-with of class crossing strip add (Ok carried) None apart = refl
other-with of class crossing strip add (Ok carried) (Some condition) apart =
    let rules =
    option_to_list
    (result_ok (rule_with class crossing strip add (Ok carried) (Some condition))) in
    ap (λ b. cond b rules []) apart

own-rule : (kind : FlagKind) (aliases : Option (List (List Flag))) (of class : Class)
    (crossing : Crossing) (strip affix : List ℕ) (condition : Option (List ℕ))
    → is_same_class of class ≡ true
    → filter (is_rule_of of)
    (option_to_list (result_ok (rule_from kind aliases class crossing strip affix condition)))
    ≡ option_to_list (result_ok (rule_from kind aliases class crossing strip affix condition))
unfolding rule_from
own-rule kind aliases of class crossing strip affix condition same =
    own-with of class crossing _ _ _ _ same

other-rule : (kind : FlagKind) (aliases : Option (List (List Flag))) (of class : Class)
    (crossing : Crossing) (strip affix : List ℕ) (condition : Option (List ℕ))
    → is_same_class of class ≡ false
    → filter (is_rule_of of)
    (option_to_list (result_ok (rule_from kind aliases class crossing strip affix condition)))
    ≡ []
unfolding rule_from
other-rule kind aliases of class crossing strip affix condition apart =
    other-with of class crossing _ _ _ _ apart

own-role : (kind : FlagKind) (aliases : Option (List (List Flag))) (of class : Class)
    (line : DirectiveLine) (role : Role) → is_same_class of class ≡ true
    → filter (is_rule_of of) (role_rules kind aliases line class role) ≡ role_rules kind aliases
    line class role
own-role kind aliases of class line Header same = refl
own-role kind aliases of class line (Member crossing) same =
    own-rule kind aliases of class crossing _ _ _ same
own-role kind aliases of class line Past same = refl
own-role kind aliases of class line Unplaced same = refl

other-role : (kind : FlagKind) (aliases : Option (List (List Flag))) (of class : Class)
    (line : DirectiveLine) (role : Role) → is_same_class of class ≡ false
    → filter (is_rule_of of) (role_rules kind aliases line class role) ≡ []
other-role kind aliases of class line Header apart = refl
other-role kind aliases of class line (Member crossing) apart =
    other-rule kind aliases of class crossing _ _ _ apart
other-role kind aliases of class line Past apart = refl
other-role kind aliases of class line Unplaced apart = refl

-- the rule of a line, behind these

abbrev pub role_in : FlagKind → Class → List DirectiveLine → Role
role_in kind class before = role_after (class_so_far (lines_in kind class before))

own-found : (kind : FlagKind) (aliases : Option (List (List Flag))) (class : Class)
    (before : List DirectiveLine) (line : DirectiveLine) (found : Option Class)
    → is_that_class class found ≡ true
    → filter (is_rule_of class)
    (placed_rules kind aliases line (option_map (placed_in kind before) found))
    ≡ role_rules kind aliases line class (role_in kind class before)
own-found kind aliases class before line None own = absurd cc
own-found kind aliases class before line (Some other) own =
    own-role kind aliases class other line (role_in kind other before) own
    ∙ ap (λ c. role_rules kind aliases line c (role_in kind c before))
    (sym (same-class class other own))

other-found : (kind : FlagKind) (aliases : Option (List (List Flag))) (class : Class)
    (before : List DirectiveLine) (line : DirectiveLine) (found : Option Class)
    → is_that_class class found ≡ false
    → filter (is_rule_of class)
    (placed_rules kind aliases line (option_map (placed_in kind before) found)) ≡ []
other-found kind aliases class before line None apart = refl
other-found kind aliases class before line (Some other) apart =
    other-role kind aliases class other line (role_in kind other before) apart

own-line : (kind : FlagKind) (aliases : Option (List (List Flag))) (class : Class)
    (before : List DirectiveLine) (line : DirectiveLine)
    → is_that_class class (class_of kind line) ≡ true
    → filter (is_rule_of class) (rules_each kind aliases before line) ≡ role_rules kind aliases line
    class (role_in kind class before)
unfolding placed_after
own-line kind aliases class before line own =
    own-found kind aliases class before line (class_of kind line) own

other-line : (kind : FlagKind) (aliases : Option (List (List Flag))) (class : Class)
    (before : List DirectiveLine) (line : DirectiveLine)
    → is_that_class class (class_of kind line) ≡ false
    → filter (is_rule_of class) (rules_each kind aliases before line) ≡ []
unfolding placed_after
other-line kind aliases class before line apart =
    other-found kind aliases class before line (class_of kind line) apart

-- the rules of lines of a class, behind these of it

abbrev rules_behind : FlagKind → Option (List (List Flag)) → Class → List DirectiveLine
    → List DirectiveLine → List Rule
rules_behind kind aliases class own [] = []
rules_behind kind aliases class own (line ∷ more) =
    role_rules kind aliases line class (role_after (class_so_far own))
    ++ rules_behind kind aliases class (own ++ line ∷ []) more

pub lines-first : (kind : FlagKind) (class : Class) (line : DirectiveLine)
    (more : List DirectiveLine) → is_that_class class (class_of kind line) ≡ true
    → lines_in kind class (line ∷ more) ≡ line ∷ lines_in kind class more
unfolding lines_in
lines-first kind class line more own =
    ap (λ b. cond b (line ∷ lines_in kind class more) (lines_in kind class more)) own

pub lines-later : (kind : FlagKind) (class : Class) (line : DirectiveLine)
    (more : List DirectiveLine) → is_that_class class (class_of kind line) ≡ false
    → lines_in kind class (line ∷ more) ≡ lines_in kind class more
unfolding lines_in
lines-later kind class line more apart =
    ap (λ b. cond b (line ∷ lines_in kind class more) (lines_in kind class more)) apart

pub lines-none : (kind : FlagKind) (class : Class) → lines_in kind class [] ≡ []
unfolding lines_in
lines-none kind class = refl

members : (kind : FlagKind) (aliases : Option (List (List Flag))) (class : Class)
    (before rows : List DirectiveLine)
    → filter (is_rule_of class) (each_after (rules_each kind aliases) before rows)
    ≡ rules_behind kind aliases class (lines_in kind class before) (lines_in kind class rows)
members kind aliases class before [] =
    sym (ap (rules_behind kind aliases class (lines_in kind class before)) (lines-none kind class))
members kind aliases class before (line ∷ more) =
    let rest = each_after (rules_each kind aliases) (before ++ line ∷ []) more in
    filter-append (is_rule_of class) (rules_each kind aliases before line) rest
    ∙ ap (λ rules. filter (is_rule_of class) (rules_each kind aliases before line) ++ rules)
    (members kind aliases class (before ++ line ∷ []) more)
    ∙ by-test (is_that_class class (class_of kind line)) refl
  where
    by-test : (b : Bool) → is_that_class class (class_of kind line) ≡ b
        → filter (is_rule_of class) (rules_each kind aliases before line)
        ++ rules_behind kind aliases class (lines_in kind class (before ++ line ∷ []))
        (lines_in kind class more)
        ≡ rules_behind kind aliases class (lines_in kind class before)
        (lines_in kind class (line ∷ more))
    by-test true own =
        ap (λ rules. rules
        ++ rules_behind kind aliases class (lines_in kind class (before ++ line ∷ []))
        (lines_in kind class more)) (own-line kind aliases class before line own)
        ∙ ap (λ lines. role_rules kind aliases line class (role_in kind class before)
        ++ rules_behind kind aliases class lines (lines_in kind class more))
        (lines-own kind class before line own)
        ∙ sym (ap (rules_behind kind aliases class (lines_in kind class before))
        (lines-first kind class line more own))
    by-test false apart =
        ap (λ rules. rules
        ++ rules_behind kind aliases class (lines_in kind class (before ++ line ∷ []))
        (lines_in kind class more)) (other-line kind aliases class before line apart)
        ∙ ap (λ lines. rules_behind kind aliases class lines (lines_in kind class more))
        (lines-other kind class before line apart)
        ∙ sym (ap (rules_behind kind aliases class (lines_in kind class before))
        (lines-later kind class line more apart))

-- so many of the lines behind the header as it announces are its rules

abbrev pub said_by : FlagKind → Option (List (List Flag)) → Class → Crossing → DirectiveLine
    → Option Rule
said_by kind aliases class crossing line = result_ok (rule_of kind aliases class crossing line)

one-more : {A : Type 0} (found : Option A) (xs : List A)
    → option_to_list found ++ xs ≡ cons_option found xs
one-more None xs = refl
one-more (Some x) xs = refl

pub none-left : (count behind : ℕ) → (count - behind == 0) ≡ true → count - behind ≡ 0
none-left count behind h = grind (arith, nat_tests)

none-later : (count behind : ℕ) → (count - behind == 0) ≡ true → count - (behind + 1) ≡ 0
none-later count behind h = grind (arith, nat_tests)

pub one-left : (count behind : ℕ) → (count - behind == 0) ≡ false
    → count - behind ≡ suc (count - (behind + 1))
one-left count behind h = grind (arith, nat_tests)

nothing-left : (behind : ℕ) → 0 - behind ≡ 0
nothing-left behind = omega arith

counted : (kind : FlagKind) (aliases : Option (List (List Flag))) (class : Class)
    (crossing : Crossing) (count : Option ℕ) (behind : ℕ) (line : DirectiveLine)
    (more : List DirectiveLine)
    → role_rules kind aliases line class (role_wanted crossing (wanted_behind behind count))
    ++ filter_map (said_by kind aliases class crossing)
    (take (unwrap_or count 0 - (behind + 1)) more)
    ≡ filter_map (said_by kind aliases class crossing)
    (take (unwrap_or count 0 - behind) (line ∷ more))
counted kind aliases class crossing None behind line more =
    ap (λ n. filter_map (said_by kind aliases class crossing) (take n more))
    (nothing-left (behind + 1))
    ∙ sym (ap (λ n. filter_map (said_by kind aliases class crossing) (take n (line ∷ more)))
    (nothing-left behind))
counted kind aliases class crossing (Some count) behind line more =
    by-test (count - behind == 0) refl
  where
    by-test : (b : Bool) → (count - behind == 0) ≡ b
        → role_rules kind aliases line class (cond b Past (Member crossing))
        ++ filter_map (said_by kind aliases class crossing) (take (count - (behind + 1)) more)
        ≡ filter_map (said_by kind aliases class crossing) (take (count - behind) (line ∷ more))
    by-test true h =
        ap (λ n. filter_map (said_by kind aliases class crossing) (take n more))
        (none-later count behind h)
        ∙ sym (ap (λ n. filter_map (said_by kind aliases class crossing) (take n (line ∷ more)))
        (none-left count behind h))
    by-test false h =
        one-more (said_by kind aliases class crossing line)
        (filter_map (said_by kind aliases class crossing) (take (count - (behind + 1)) more))
        ∙ sym (ap (λ n. filter_map (said_by kind aliases class crossing) (take n (line ∷ more)))
        (one-left count behind h))

behind-header : (kind : FlagKind) (aliases : Option (List (List Flag))) (class : Class)
    (header : DirectiveLine) (passed more : List DirectiveLine)
    → rules_behind kind aliases class (header ∷ passed) more
    ≡ filter_map (said_by kind aliases class (crossing_of header))
    (take (unwrap_or (announced_count header) 0 - length passed) more)
behind-header kind aliases class header passed [] =
    sym (nothing (unwrap_or (announced_count header) 0 - length passed))
  where
    nothing : (n : ℕ) → filter_map (said_by kind aliases class (crossing_of header)) (take n [])
        ≡ []
    nothing n = ap (filter_map (said_by kind aliases class (crossing_of header))) (take-nil n)
behind-header kind aliases class header passed (line ∷ more) =
    let f = said_by kind aliases class (crossing_of header) in
    let here = role_rules kind aliases line class
    (role_wanted (crossing_of header) (wanted_behind (length passed) (announced_count header))) in
    ap (λ rules. here ++ rules) (behind-header kind aliases class header (passed ++ line ∷ []) more)
    ∙ ap (λ n. here ++ filter_map f (take (unwrap_or (announced_count header) 0 - n) more))
    (length-append passed (line ∷ []))
    ∙ counted kind aliases class (crossing_of header) (announced_count header) (length passed) line more

all-left : (count : ℕ) → count - 0 ≡ count
all-left count = omega arith

from-header : (kind : FlagKind) (aliases : Option (List (List Flag))) (class : Class)
    (lines : List DirectiveLine)
    → rules_behind kind aliases class [] lines ≡ rules_in kind aliases class lines
from-header kind aliases class [] = refl
from-header kind aliases class (header ∷ behind) =
    behind-header kind aliases class header [] behind
    ∙ ap (λ n. filter_map (said_by kind aliases class (crossing_of header)) (take n behind))
    (all-left (unwrap_or (announced_count header) 0))

pub class-rules : (kind : FlagKind) (aliases : Option (List (List Flag))) (class : Class)
    (rows : List DirectiveLine)
    → filter (is_rule_of class) (rules_said kind aliases rows) ≡ rules_in kind aliases class
    (lines_in kind class rows)
unfolding rules_said
class-rules kind aliases class rows =
    members kind aliases class [] rows
    ∙ ap (λ own. rules_behind kind aliases class own (lines_in kind class rows))
    (lines-none kind class)
    ∙ from-header kind aliases class (lines_in kind class rows)
