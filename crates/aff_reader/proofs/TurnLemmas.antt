-- The turns of the loops over the lines.
use Rattle.std.proofs.Common.{◌≡◌, ℕ, suc, ◌+◌, ◌-◌, ◌^◌, ◌<◌, ◌≤◌, min, List, [], ◌∷◌, ◌++◌}
use Rattle.std.proofs.Common.{length, map, take, cond, nat_le, Option, refl, sym, ap, ◌∙◌, subst}
use Rattle.std.proofs.Common.{get_or, append_assoc, arith}
use Rattle.std.specs.List.{sum}
use Rattle.std.proofs.lemmas.List.{take_more, append-nil, map-append}
use Rattle.std.proofs.lemmas.Bool.Decides.{nat_tests}
use Rattle.std.proofs.Math.Nat.{le-min, min-eq_left}
use Rattle.std.proofs.lemmas.List.Sums.{sum_by-append}
use Rattle.spell_types.specs.declared.flags.Flag.{Flag}
use Rattle.spell_types.specs.declared.flags.FlagKind.{FlagKind}
use Rattle.spell_types.specs.declared.rules.Rule.{Rule}
use Rattle.aff_lines.specs.declared.rows.DirectiveLine.{DirectiveLine}
use Rattle.aff_lines.specs.declared.faults.AffWhy.TheVariants.{TooMany}
use Rattle.aff_lines.specs.Causes.{unless}
use Rattle.aff_lines.specs.Grammar.{faults_at}
use Rattle.aff_lines.specs.Faults.{Fault, sooner, least_of, FaultsJoin}
use Rattle.aff_reader.specs.declared.class_lines.Classes.{Classes}
use Rattle.aff_reader.specs.declared.class_lines.Placed.{Placed}
use Rattle.aff_reader.specs.ClassLines.{side_of, placed_after, each_after, Knows}
use Rattle.aff_reader.specs.ClassRules.{rule_without}
use Rattle.aff_reader.specs.Classes.{side_faults, line_faults, heads, placed_rules, rules_said}
use Rattle.aff_reader.specs.Classes.{announced_by, announced, total_faults, limit_faults}

each-append : {A : Type 0} (f : List DirectiveLine → DirectiveLine → List A)
    (before lines more : List DirectiveLine)
    → each_after f before (lines ++ more) ≡ each_after f before lines
    ++ each_after f (before ++ lines) more
each-append f before [] more = ap (λ b. each_after f b more) (sym (append-nil before))
each-append f before (line ∷ lines) more =
    ap (λ rest. f before line ++ rest) (each-append f (before ++ line ∷ []) lines more)
    ∙ sym (append_assoc (f before line) (each_after f (before ++ line ∷ []) lines)
    (each_after f ((before ++ line ∷ []) ++ lines) more))
    ∙ ap (λ b. each_after f before (line ∷ lines) ++ each_after f b more)
    (append_assoc before (line ∷ []) lines)

each-more : {A : Type 0} (f : List DirectiveLine → DirectiveLine → List A)
    (lines : List DirectiveLine) (line : DirectiveLine)
    → each_after f [] (lines ++ line ∷ []) ≡ each_after f [] lines ++ f lines line
each-more f lines line =
    each-append f [] lines (line ∷ [])
    ∙ ap (λ own. each_after f [] lines ++ own) (append-nil (f lines line))

-- the lines up to the loop's place, and those behind its turn
pub taken : (rows : List DirectiveLine) (place : ℕ) (line : DirectiveLine) → place < length rows
    → line ≡ get_or rows place line
    → take (place + 1) rows ≡ take place rows ++ line ∷ []
taken rows place line within is =
    take_more rows place line within ∙ ap (λ l. take place rows ++ l ∷ []) (sym is)

-- a turn that takes a line in
pub knows-turn : (kind : FlagKind) (lines longer : List DirectiveLine) (line : DirectiveLine)
    (old new : Classes) → longer ≡ lines ++ line ∷ []
    → ((before : List DirectiveLine) → Knows kind before old → Knows kind (before ++ line ∷ []) new)
    → Knows kind lines old → Knows kind longer new
knows-turn kind lines longer line old new is grown known =
    subst (λ (ls : List DirectiveLine). Knows kind ls new) (sym is) (grown lines known)

-- a turn that adds the rule of a line
pub rules-turn : (kind : FlagKind) (aliases : Option (List (List Flag))) (ignore : List ℕ)
    (lines longer : List DirectiveLine) (line : DirectiveLine) (old : Classes)
    (placed : Option Placed) (rules more : List Rule) → longer ≡ lines ++ line ∷ []
    → ((before : List DirectiveLine) → Knows kind before old
    → placed ≡ placed_after kind before line)
    → more ≡ rules ++ map (rule_without ignore) (placed_rules kind aliases line placed)
    → Knows kind lines old → rules ≡ map (rule_without ignore) (rules_said kind aliases lines)
    → more ≡ map (rule_without ignore) (rules_said kind aliases longer)
unfolding rules_said
rules-turn kind aliases ignore lines longer line old placed rules more is told grown known so_far =
    let f : List DirectiveLine → DirectiveLine → List Rule =
    λ before own. placed_rules kind aliases own (placed_after kind before own) in
    grown
    ∙ ap (λ p. rules ++ map (rule_without ignore) (placed_rules kind aliases line p))
    (told lines known)
    ∙ ap (λ r. r ++ map (rule_without ignore) (f lines line)) so_far
    ∙ sym (ap (λ all. map (rule_without ignore) all)
    (ap (each_after f []) is ∙ each-more f lines line)
    ∙ map-append (rule_without ignore) (each_after f [] lines) (f lines line))

-- a turn that looks for the fault of a line
pub fault-turn : FaultsJoin
    → (f : List DirectiveLine → DirectiveLine → List Fault) (lines longer : List DirectiveLine)
    (line : DirectiveLine) (found here now : Option Fault) → longer ≡ lines ++ line ∷ []
    → now ≡ sooner found here → here ≡ least_of (f lines line)
    → found ≡ least_of (each_after f [] lines) → now ≡ least_of (each_after f [] longer)
fault-turn join f lines longer line found here now is merged told so_far =
    merged
    ∙ ap (λ o. sooner o here) so_far
    ∙ ap (sooner (least_of (each_after f [] lines))) told
    ∙ sym (ap (λ ls. least_of (each_after f [] ls)) is ∙ ap least_of (each-more f lines line)
    ∙ join (each_after f [] lines) (f lines line))

-- the running total is the sum, or both are past the limit
pub record IsTotal (limit total whole : ℕ) : Type 0 where
  pub within : whole ≤ limit → total ≡ whole
  pub beyond : limit < whole → limit < total

-- no line announces a rule yet
pub total-none : (kind : FlagKind) (limit : ℕ) → IsTotal limit 0 (announced kind [])
unfolding announced
total-none kind limit = record { within = λ _. refl; beyond = λ past. absurd (omega (arith, past)) }

pub announced-more : (kind : FlagKind) (lines : List DirectiveLine) (line : DirectiveLine)
    → announced kind (lines ++ line ∷ []) ≡ announced kind lines + announced_by line
    (placed_after kind lines line)
unfolding announced
announced-more kind lines line =
    let f : List DirectiveLine → DirectiveLine → List ℕ =
    λ before own. announced_by own (placed_after kind before own) ∷ [] in
    let own = announced_by line (placed_after kind lines line) in
    let last : sum (own ∷ []) ≡ own = omega arith in
    ap sum (each-more f lines line)
    ∙ sum_by-append (λ (x : ℕ). x) (each_after f [] lines) (own ∷ [])
    ∙ ap (λ n. sum (each_after f [] lines) + n) last

saturated : (limit total whole next own : ℕ) → limit < 2 ^ 32
    → next ≡ min (total + own) (2 ^ 64 - 1) → IsTotal limit total whole
    → IsTotal limit next (whole + own)
saturated limit total whole next own low is so_far = record {
  within = λ within.
      let same : total ≡ whole = so_far.within (omega (arith, within)) in
      is ∙ min-eq_left {n = total + own} {m = 2 ^ 64 - 1} (omega (arith, same, within, low))
      ∙ ap (λ n. n + own) same;
  beyond = λ past.
      let more : limit < total + own = grind (arith, past, so_far.within, so_far.beyond) in
      subst (λ (n : ℕ). limit < n) (sym is)
      (le-min {k = suc limit} {a = total + own} {b = 2 ^ 64 - 1} more (omega (arith, low)));
}

-- a turn that adds what a line announces
pub total-turn : (kind : FlagKind) (lines longer : List DirectiveLine) (line : DirectiveLine)
    (classes : Classes) (placed : Option Placed) (limit total next own : ℕ)
    → longer ≡ lines ++ line ∷ [] → limit < 2 ^ 32
    → ((before : List DirectiveLine) → Knows kind before classes
    → placed ≡ placed_after kind before line) → Knows kind lines classes
    → own ≡ announced_by line placed → next ≡ min (total + own) (2 ^ 64 - 1)
    → IsTotal limit total (announced kind lines) → IsTotal limit next (announced kind longer)
total-turn kind lines longer line classes placed limit total next own is low told known counted
    added so_far =
    subst (λ (n : ℕ). IsTotal limit next n)
    (ap (λ n. announced kind lines + n) (counted ∙ ap (announced_by line) (told lines known))
    ∙ sym (ap (announced kind) is ∙ announced-more kind lines line))
    (saturated limit total (announced kind lines) next own low added so_far)

same-test : (limit total whole : ℕ) → IsTotal limit total whole
    → nat_le total limit ≡ nat_le whole limit
same-test limit total whole is = grind (arith, nat_tests, is.within, is.beyond)

-- the fault of a line at its place

pub line-told : (kind : FlagKind) (aliases : Option (List (List Flag)))
    (rows lines : List DirectiveLine) (line : DirectiveLine) (classes : Classes)
    (placed : Option Placed) (fault : Option Fault)
    → ((before : List DirectiveLine) → Knows kind before classes
    → placed ≡ placed_after kind before line) → Knows kind lines classes
    → fault ≡ least_of (side_faults kind aliases rows line placed (side_of line.directive))
    → fault ≡ least_of (line_faults kind aliases rows lines line)
unfolding line_faults
line-told kind aliases rows lines line classes placed fault told known found =
    found ∙ ap (λ p. least_of (side_faults kind aliases rows line p (side_of line.directive)))
    (told lines known)

pub limit-told : (kind : FlagKind) (lines longer : List DirectiveLine) (line : DirectiveLine)
    (classes : Classes) (placed : Option Placed) (limit total : ℕ) (fault : Option Fault)
    → longer ≡ lines ++ line ∷ []
    → ((before : List DirectiveLine) → Knows kind before classes
    → placed ≡ placed_after kind before line) → Knows kind lines classes
    → IsTotal limit total (announced kind longer)
    → fault ≡ least_of (total_faults limit total line placed)
    → fault ≡ least_of (limit_faults kind limit lines line)
unfolding limit_faults
limit-told kind lines longer line classes placed limit total fault is told known so_far found =
    found
    ∙ ap (λ p. least_of (total_faults limit total line p)) (told lines known)
    ∙ ap (λ b. least_of
    (cond (heads (placed_after kind lines line)) (faults_at (unless b TooMany) line) []))
    (same-test limit total (announced kind longer) so_far
    ∙ ap (λ ls. nat_le (announced kind ls) limit) is)
