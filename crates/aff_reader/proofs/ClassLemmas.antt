-- What is known of the classes, one line after another.
use Rattle.std.proofs.Common.{◌≡◌, ℕ, ◌==◌, Bool, true, false, cond, List, [], ◌∷◌, ◌++◌, Option}
use Rattle.std.proofs.Common.{Some, None, refl, sym, ap, ◌∙◌, arith}
use Rattle.std.specs.Option.{option_map}
use Rattle.std.specs.BTreeMap.{BTreeMap}
use Rattle.std.proofs.lemmas.Bool.{and_parts, and_from, eqb-true, eq-eqb}
use Rattle.std.proofs.lemmas.List.{append-nil}
use Rattle.std.proofs.lemmas.List.Elements.{filter-append}
use Rattle.spell_types.specs.declared.flags.FlagKind.{FlagKind}
use Rattle.spell_types.specs.declared.rules.Side.{Side}
use Rattle.spell_types.specs.declared.rules.Side.TheVariants.{Prefix, Suffix}
use Rattle.spell_types.specs.Derivations.{is_same_side}
use Rattle.aff_lines.specs.declared.rows.DirectiveLine.{DirectiveLine}
use Rattle.aff_reader.specs.declared.class_lines.Class.{Class}
use Rattle.aff_reader.specs.declared.class_lines.Classes.{Classes}
use Rattle.aff_reader.specs.declared.class_lines.Placed.{Placed}
use Rattle.aff_reader.specs.declared.class_lines.Role.{Role}
use Rattle.aff_reader.specs.declared.class_lines.ClassSoFar.{ClassSoFar}
use Rattle.aff_reader.specs.ClassLines.{class_of, class_with, is_same_class, is_that_class}
use Rattle.aff_reader.specs.ClassLines.{lines_in, placed_after, placed_in, class_so_far, role_after}
use Rattle.aff_reader.specs.ClassLines.{standing_on, standing_in, Knows}

-- the same class

same-side : (side other : Side) → is_same_side side other ≡ true → side ≡ other
same-side Prefix Prefix h = refl
same-side Prefix Suffix h = absurd cc
same-side Suffix Prefix h = absurd cc
same-side Suffix Suffix h = refl

pub same-class : (class other : Class) → is_same_class class other ≡ true → class ≡ other
same-class class other h =
    let parts = and_parts (is_same_side class.side other.side) (class.flag.0 == other.flag.0) h in
    ap (λ s. class_with s class.flag) (same-side class.side other.side parts.0)
    ∙ ap (λ n. class_with other.side (record { 0 = n }))
    (eqb-true class.flag.0 other.flag.0 parts.1)

pub same-self : (class : Class) → is_same_class class class ≡ true
same-self class =
    and_from (is_same_side class.side class.side) (class.flag.0 == class.flag.0)
    (same_side class.side)
    (eq-eqb class.flag.0 class.flag.0 refl)
  where
    same_side : (side : Side) → is_same_side side side ≡ true
    same_side Prefix = refl
    same_side Suffix = refl

-- the lines of a class, with one more

pub lines-more : (kind : FlagKind) (class : Class) (before : List DirectiveLine)
    (line : DirectiveLine)
    → lines_in kind class (before ++ line ∷ []) ≡ lines_in kind class before
    ++ cond (is_that_class class (class_of kind line)) (line ∷ []) []
unfolding lines_in
lines-more kind class before line =
    filter-append (λ row. is_that_class class (class_of kind row)) before (line ∷ [])

pub lines-other : (kind : FlagKind) (class : Class) (before : List DirectiveLine)
    (line : DirectiveLine) → is_that_class class (class_of kind line) ≡ false
    → lines_in kind class (before ++ line ∷ []) ≡ lines_in kind class before
lines-other kind class before line other =
    lines-more kind class before line
    ∙ ap (λ b. lines_in kind class before ++ cond b (line ∷ []) []) other
    ∙ append-nil (lines_in kind class before)

pub lines-own : (kind : FlagKind) (class : Class) (before : List DirectiveLine)
    (line : DirectiveLine) → is_that_class class (class_of kind line) ≡ true
    → lines_in kind class (before ++ line ∷ []) ≡ lines_in kind class before ++ line ∷ []
lines-own kind class before line own =
    lines-more kind class before line
    ∙ ap (λ b. lines_in kind class before ++ cond b (line ∷ []) []) own

-- no lines

none-on : (side : Side) (prefixes suffixes : BTreeMap ℕ ClassSoFar) (flag : ℕ)
    → prefixes.entries ≡ [] → suffixes.entries ≡ []
    → standing_on side prefixes suffixes flag ≡ None
none-on Prefix prefixes suffixes flag p s = grind (arith, p)
none-on Suffix prefixes suffixes flag p s = grind (arith, s)

pub knows-nothing : (kind : FlagKind) (prefixes suffixes : BTreeMap ℕ ClassSoFar)
    → prefixes.entries ≡ [] → suffixes.entries ≡ []
    → Knows kind [] (record { prefixes = prefixes; suffixes = suffixes })
unfolding lines_in
knows-nothing kind prefixes suffixes p s =
    record { each = λ class. none-on class.side prefixes suffixes class.flag.0 p s }

-- a line of no class

pub knows-other : (kind : FlagKind) (before : List DirectiveLine) (line : DirectiveLine)
    (classes : Classes) → class_of kind line ≡ None
    → Knows kind before classes → Knows kind (before ++ line ∷ []) classes
knows-other kind before line classes none known = record {
  each = λ class. known.each class
      ∙ ap class_so_far (sym (lines-other kind class before line (ap (is_that_class class) none)));
}

pub placed-none : (kind : FlagKind) (before : List DirectiveLine) (line : DirectiveLine)
    → class_of kind line ≡ None → None ≡ placed_after kind before line
unfolding placed_after
placed-none kind before line none = sym (ap (option_map (placed_in kind before)) none)

-- a line of a class

pub knows-more : (kind : FlagKind) (before : List DirectiveLine) (line : DirectiveLine)
    (class : Class) (old new : Classes) (standing : Option ClassSoFar) (longer : ClassSoFar)
    → class_of kind line ≡ Some class
    → standing ≡ standing_in old class
    → ((own : List DirectiveLine) → standing ≡ class_so_far own
    → Some longer ≡ class_so_far (own ++ line ∷ []))
    → ((other : Class) → standing_in new other ≡ cond (is_same_class other class) (Some longer)
    (standing_in old other))
    → Knows kind before old → Knows kind (before ++ line ∷ []) new
knows-more kind before line class old new standing longer is found grown set known =
    record { each = λ other. at other (is_same_class other class) refl }
  where
    at : (other : Class) (b : Bool) → is_same_class other class ≡ b
        → standing_in new other ≡ class_so_far (lines_in kind other (before ++ line ∷ []))
    at other true same =
        set other
        ∙ ap (λ b. cond b (Some longer) (standing_in old other)) same
        ∙ grown (lines_in kind other before)
        (found ∙ ap (standing_in old) (sym (same-class other class same)) ∙ known.each other)
        ∙ ap class_so_far
        (sym (lines-own kind other before line (ap (is_that_class other) is ∙ same)))
    at other false apart =
        set other
        ∙ ap (λ b. cond b (Some longer) (standing_in old other)) apart
        ∙ known.each other
        ∙ ap class_so_far
        (sym (lines-other kind other before line (ap (is_that_class other) is ∙ apart)))

pub placed-some : (kind : FlagKind) (before : List DirectiveLine) (line : DirectiveLine)
    (class : Class) (classes : Classes) (standing : Option ClassSoFar)
    → class_of kind line ≡ Some class → standing ≡ standing_in classes class
    → Knows kind before classes
    → Some (record { class = class; role = role_after standing }) ≡ placed_after kind before line
unfolding placed_after
placed-some kind before line class classes standing is found known =
    ap (λ s. Some (record { class = class; role = role_after s })) (found ∙ known.each class)
    ∙ sym (ap (option_map (placed_in kind before)) is)

abbrev placed-with : Class → Role → Option Placed
placed-with class role = Some (record { class = class; role = role })

pub placed-as : (class : Class) (role : Role) (standing : Option ClassSoFar)
    → role ≡ role_after standing
    → placed-with class role ≡ placed-with class (role_after standing)
placed-as class role standing is = ap (placed-with class) is
