-- The loops over the rows of a table, over directives, and over aliases.
use Rattle.std.proofs.Common.{◌≡◌, ℕ, zero, suc, ◌+◌, ◌-◌, ◌<◌, ◌==◌, Bool, true, false, cond, List}
use Rattle.std.proofs.Common.{[], ◌∷◌, ◌++◌, length, map, take, drop, Option, refl, sym, ap, ◌∙◌}
use Rattle.std.proofs.Common.{get_or, append_assoc, arith}
use Rattle.std.specs.Borrow.{Bor}
use Rattle.std.specs.List.{filter, flat_map}
use Rattle.std.proofs.lemmas.List.{take_more, append-nil, map-append}
use Rattle.std.proofs.lemmas.Bool.Decides.{nat_tests}
use Rattle.std.proofs.lemmas.Grind.{flat_map-append}
use Rattle.line_faults.specs.Laws.{least_append}
use Rattle.spell_types.specs.declared.flags.Flag.{Flag}
use Rattle.spell_types.specs.declared.flags.FlagKind.{FlagKind}
use Rattle.aff_lines.specs.declared.faults.AffWhy.TheVariants.{Twice}
use Rattle.aff_lines.specs.declared.names.Described.{Described}
use Rattle.aff_lines.specs.declared.names.Pass.{Pass}
use Rattle.aff_lines.specs.declared.names.RowForm.{RowForm}
use Rattle.aff_lines.specs.declared.rows.DirectiveLine.{DirectiveLine}
use Rattle.aff_lines.specs.Faults.{Fault, cause_number, sooner, least_of}
use Rattle.aff_lines.specs.Grammar.{at, row_faults, past_faults, rows_faults, place_faults}
use Rattle.aff_lines.specs.Names.{Description, description_of, is_of_pass, all_directives}
use Rattle.aff_lines.specs.Names.{directives_in}
use Rattle.aff_lines.specs.Passes.{directive_faults, pass_faults, faults_in, lines_at, set_in}

some-left : (left : ℕ) → (suc left == 0) ≡ false
some-left left = grind (arith, nat_tests)

-- the first of the rows that are wanted, and those behind it
pub rows-step : (kind : FlagKind) (row : RowForm) (left next : ℕ) (line : DirectiveLine)
    (more : List DirectiveLine) → next ≡ left - 1
    → rows_faults kind row left (line ∷ more) ≡ place_faults kind row left line
    ++ rows_faults kind row next more
rows-step kind row zero next line more is =
    let none : next ≡ 0 = omega (arith, is) in
    ap (λ n. at Twice line ∷ rows_faults kind row n more) (sym none)
rows-step kind row (suc left) next line more is =
    let same : next ≡ left = omega (arith, is) in
    let own : place_faults kind row (suc left) line ≡ row_faults kind row line =
    ap (λ b. cond b (past_faults line) (row_faults kind row line)) (some-left left) in
    append_assoc (row_faults kind row line) (flat_map (row_faults kind row) (take left more))
    (flat_map past_faults (drop left more))
    ∙ ap (λ n. row_faults kind row line ++ rows_faults kind row n more) (sym same)
    ∙ ap (λ here. here ++ rows_faults kind row next more) (sym own)

-- the faults of a row of the code's table, if it is one of the pass
abbrev pub described_faults : FlagKind → List DirectiveLine → Pass → Described → List Fault
described_faults kind rows pass described = faults_in kind rows pass (description_of described)

-- a turn of the loop over the directives
pub pass_turn : (kind : FlagKind) (rows : List DirectiveLine) (pass : Pass)
    (directives : List Described) (place : ℕ) (d : Described) (found here now : Option Fault)
    → place < length directives → now ≡ sooner found here
    → here ≡ least_of (described_faults kind rows pass (get_or directives place d))
    → found ≡ least_of (flat_map (described_faults kind rows pass) (take place directives))
    → now ≡ least_of (flat_map (described_faults kind rows pass) (take (place + 1) directives))
pass_turn kind rows pass directives place d found here now within merged told so_far =
    let own = described_faults kind rows pass (get_or directives place d) in
    let earlier = flat_map (described_faults kind rows pass) (take place directives) in
    let whole : flat_map (described_faults kind rows pass) (take (place + 1) directives) ≡ earlier
    ++ own =
    ap (flat_map (described_faults kind rows pass)) (take_more directives place d within)
    ∙ flat_map-append (described_faults kind rows pass) (take place directives)
    (get_or directives place d ∷ [])
    ∙ ap (λ faults. earlier ++ faults) (append-nil own) in
    merged
    ∙ ap (λ f. sooner f here) so_far
    ∙ ap (sooner (least_of earlier)) told
    ∙ sym (ap least_of whole ∙ least_append cause_number earlier own)

-- the end of that loop
pub all-described : (kind : FlagKind) (rows : List DirectiveLine) (pass : Pass)
    (directives : List Described)
    → flat_map (described_faults kind rows pass) directives ≡ flat_map (faults_in kind rows pass)
    (map description_of directives)
all-described kind rows pass [] = refl
all-described kind rows pass (described ∷ directives) =
    ap (λ faults. described_faults kind rows pass described ++ faults)
    (all-described kind rows pass directives)

-- the faults of directives that are of a pass
faults-of-pass : (kind : FlagKind) (rows : List DirectiveLine) (pass : Pass)
    (directives : List Description)
    → flat_map (faults_in kind rows pass) directives ≡ flat_map (directive_faults kind rows)
    (filter (is_of_pass pass) directives)
faults-of-pass kind rows pass [] = refl
faults-of-pass kind rows pass (row ∷ directives) =
    ap (λ faults. faults_in kind rows pass row ++ faults) (faults-of-pass kind rows pass directives)
    ∙ by-test (is_of_pass pass row)
  where
    by-test : (b : Bool)
        → cond b (directive_faults kind rows row) [] ++ flat_map (directive_faults kind rows)
        (filter (is_of_pass pass) directives)
        ≡ flat_map (directive_faults kind rows)
        (cond b (row ∷ filter (is_of_pass pass) directives) (filter (is_of_pass pass) directives))
    by-test true = refl
    by-test false = refl

-- those directives are the ones that the pass looks at
pub pass_all : (kind : FlagKind) (rows : List DirectiveLine) (pass : Pass)
    (directives : List Described) (found : Option Fault)
    → map description_of directives ≡ all_directives
    → found ≡ least_of (flat_map (faults_in kind rows pass) (map description_of directives))
    → found ≡ least_of (pass_faults kind rows pass)
unfolding directives_in
pass_all kind rows pass directives found is told =
    told
    ∙ ap (λ ds. least_of (flat_map (faults_in kind rows pass) ds)) is
    ∙ ap least_of (faults-of-pass kind rows pass all_directives)

-- a turn of the loop that gathers the rows of a table
pub lines_turn : (found pushed : List (Bor DirectiveLine)) (total : List DirectiveLine) (left : ℕ)
    (own more : List DirectiveLine) (line : Bor DirectiveLine)
    → 0 < left → pushed ≡ found ++ line ∷ [] → own ≡ line.now ∷ more
    → lines_at found ++ take left own ≡ total
    → lines_at pushed ++ take (left - 1) more ≡ total
lines_turn found pushed total zero own more line some grown is so_far = absurd (omega (arith, some))
lines_turn found pushed total (suc left) own more line some grown is so_far =
    let less : suc left - 1 ≡ left = omega arith in
    ap (λ n. lines_at pushed ++ take n more) less
    ∙ ap (λ now. now ++ take left more)
    (ap lines_at grown ∙ map-append (λ (l : Bor DirectiveLine). l.now) found (line ∷ []))
    ∙ append_assoc (lines_at found) (line.now ∷ []) (take left more)
    ∙ sym (ap (λ lines. lines_at found ++ take (suc left) lines) is)
    ∙ so_far

-- a turn of the loop over the rows of AF
pub sets_turn : (kind : FlagKind) (sets pushed : List (List Flag)) (set : List Flag)
    (lines : List (Bor DirectiveLine)) (place : ℕ) (line : Bor DirectiveLine)
    → place < length lines → line ≡ get_or lines place line → pushed ≡ sets ++ set ∷ []
    → set ≡ set_in kind line.now
    → sets ≡ map (set_in kind) (lines_at (take place lines))
    → pushed ≡ map (set_in kind) (lines_at (take (place + 1) lines))
sets_turn kind sets pushed set lines place line within is grown same so_far =
    let before = take place lines in
    let whole : lines_at (take (place + 1) lines) ≡ lines_at before ++ line.now ∷ [] =
    ap lines_at
    (take_more lines place line within
    ∙ ap (λ (l : Bor DirectiveLine). before ++ l ∷ []) (sym is))
    ∙ map-append (λ (l : Bor DirectiveLine). l.now) before (line ∷ []) in
    grown
    ∙ ap (λ s. sets ++ s ∷ []) same
    ∙ ap (λ s. s ++ set_in kind line.now ∷ []) so_far
    ∙ sym (ap (map (set_in kind)) whole
    ∙ map-append (set_in kind) (lines_at before) (line.now ∷ []))
