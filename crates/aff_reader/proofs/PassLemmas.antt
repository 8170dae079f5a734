-- The first fault of the early passes and one more, and what is read of a file.
use Rattle.std.proofs.Common.{◌≡◌, ℕ, Bool, true, false, cond, List, [], ◌∷◌, ◌++◌, Option, Some}
use Rattle.std.proofs.Common.{None, Result, Ok, Err, IfOk, IfErr, refl, sym, ap, subst, ◌∙◌}
use Rattle.std.specs.Option.{option_or}
use Rattle.std.specs.Result.{IsErrAnd}
use Rattle.text_lines.specs.lists.Laws.{or-none, or-assoc}
use Rattle.spell_types.specs.declared.Affixes.{Affixes}
use Rattle.spell_types.specs.declared.flags.Flag.{Flag}
use Rattle.spell_types.specs.declared.flags.FlagKind.{FlagKind}
use Rattle.aff_lines.specs.declared.faults.AffFault.{AffFault}
use Rattle.aff_lines.specs.declared.faults.AffFault.TheVariants.{At, NoMemory}
use Rattle.aff_lines.specs.declared.rows.DirectiveLine.{DirectiveLine}
use Rattle.line_faults.specs.Faults.{IsFault}
use Rattle.aff_lines.specs.Faults.{Fault, least_of, first_fault, is_before, sooner, IsLeast}
use Rattle.aff_lines.specs.Passes.{early_passes, IsFirst}
use Rattle.aff_lines.specs.Rows.{rows_of}
use Rattle.aff_reader.specs.Grammar.{flag_kind_of_file, aliases_of, late_faults, aff_passes}
use Rattle.aff_reader.specs.Grammar.{aff_said}
use Rattle.aff_reader.specs.Grammar.{unless_fault, aff_read, AffReads, AffRefuses, IsRead}

-- a pass behind others decides where they have no fault
pub first_behind : (passes : List (List Fault)) (late : List Fault)
    → first_fault (passes ++ late ∷ []) ≡ option_or (first_fault passes) (least_of late)
first_behind [] late = or-none (least_of late)
first_behind (faults ∷ passes) late =
    ap (option_or (least_of faults)) (first_behind passes late)
    ∙ or-assoc (least_of faults) (first_fault passes) (least_of late)

-- a file whose first fault is one of the fourth pass
pub read_late : (bytes : List ℕ) (kind : FlagKind) (aliases : Option (List (List Flag)))
    (rows : List DirectiveLine) (fault : Fault)
    → kind ≡ flag_kind_of_file bytes → aliases ≡ aliases_of bytes → rows ≡ rows_of bytes
    → first_fault (early_passes bytes) ≡ None → least_of (late_faults kind aliases rows)
    ≡ Some fault → aff_read bytes ≡ Err fault
unfolding aff_read
read_late bytes kind aliases rows fault same_kind same_aliases same_rows fine late =
    let whole = late_faults (flag_kind_of_file bytes) (aliases_of bytes) (rows_of bytes) in
    let own : whole ≡ late_faults kind aliases rows =
    ap (λ k. late_faults k (aliases_of bytes) (rows_of bytes)) (sym same_kind)
    ∙ ap (λ a. late_faults kind a (rows_of bytes)) (sym same_aliases)
    ∙ ap (late_faults kind aliases) (sym same_rows) in
    ap (λ found. unless_fault found (aff_said bytes))
    (first_behind (early_passes bytes) whole ∙ ap (λ found. option_or found (least_of whole)) fine
    ∙ ap least_of own ∙ late)

-- a file whose first fault is one of the early passes
pub read_early : (bytes : List ℕ) (fault : AffFault) → IsFirst (early_passes bytes) fault
    → IsRead (aff_read bytes) (Err fault)
unfolding aff_read
read_early bytes NoMemory first = tt
read_early bytes (At line why) first =
    let whole = late_faults (flag_kind_of_file bytes) (aliases_of bytes) (rows_of bytes) in
    ap (λ found. unless_fault found (aff_said bytes))
    (first_behind (early_passes bytes) whole ∙ ap (λ found. option_or found (least_of whole)) first)

-- a fault that is handed on
pub handed : {T : Type 0} (P : Result T AffFault → Type 0) (result : Result T AffFault)
    (fault : AffFault) → IsErrAnd result (λ given. given ≡ fault) → P (Err fault) → P result
handed P (Ok made) fault same told = absurd same
handed P (Err given) fault same told = subst (λ own. P (Err own)) (sym same) told

-- the later of two faults is none where the earlier of them is
pub later_none : (found later : Option Fault) → sooner found later ≡ None → later ≡ None
later_none None later none = none
later_none (Some first) None none = refl
later_none (Some first) (Some other) none = absurd (some-or-some (is_before other first) none)
  where
    some-or-some : (b : Bool) → cond b (Some other) (Some first) ≡ None → ⊥
    some-or-some true is = cc is
    some-or-some false is = cc is

-- what is read, taken apart

read-ok : (found : Option Fault) (said affixes : Affixes) → unless_fault found said ≡ Ok affixes
    → (found ≡ None) × (affixes ≡ said)
read-ok None said affixes is = (refl, cc is)
read-ok (Some fault) said affixes is = absurd (cc is)

read-err : (found : Option Fault) (said : Affixes) (fault : Fault)
    → unless_fault found said ≡ Err fault → found ≡ Some fault
read-err None said fault is = absurd (cc is)
read-err (Some first) said fault is = cc is

pub reads_as_said : (bytes : List ℕ) (result : Result Affixes AffFault)
    → IsRead (aff_read bytes) result
    → ((passes : List (List Fault)) → first_fault passes ≡ None → (pass : ℕ) (fault : Fault)
    → ¬ IsFault passes pass fault)
    → IfOk result (AffReads bytes)
unfolding aff_read
reads_as_said bytes (Ok affixes) is law =
    let apart = read-ok (first_fault (aff_passes bytes)) (aff_said bytes) affixes is in
    record { no_fault = law (aff_passes bytes) apart.0; says = apart.1 }
reads_as_said bytes (Err fault) is law = tt

pub refuses_at_first : (bytes : List ℕ) (result : Result Affixes AffFault)
    → IsRead (aff_read bytes) result
    → ((passes : List (List Fault)) (fault : Fault) → first_fault passes ≡ Some fault → (pass : ℕ)
    × IsLeast (IsFault passes pass) fault)
    → IfErr result (AffRefuses bytes)
unfolding aff_read
refuses_at_first bytes (Ok affixes) is law = tt
refuses_at_first bytes (Err NoMemory) is law = tt
refuses_at_first bytes (Err (At line why)) is law =
    let fault : Fault = record { line = line; why = why } in
    law (aff_passes bytes) fault
    (read-err (first_fault (aff_passes bytes)) (aff_said bytes) fault is)
