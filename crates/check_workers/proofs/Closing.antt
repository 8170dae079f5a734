-- Behind a finish, and where one is refused, a paragraph is closed.
use Rattle.std.proofs.Common.{◌≡◌, ◌∙◌, refl, sym, ap, subst, ℕ, zero, suc, ◌≤◌, ◌^◌, ◌==◌}
use Rattle.std.proofs.Common.{Bool, true, false, ◌&&◌, nat_lt, List, [], ◌∷◌, set, slice_get}
use Rattle.std.proofs.Common.{Option, None, Some, Result, Ok, Err, IfErr, OnOk, inl, inr, ◌+◌}
use Rattle.std.proofs.Common.{arith}
use Rattle.std.specs.Option.{option_map_or, option_or}
use Rattle.std.proofs.lemmas.Bool.{and_right, ltb-false}
use Rattle.std.proofs.lemmas.Option.{same_Some}
use Rattle.board_share.specs.paragraph_text.Paragraphs.{Paragraph}
use Rattle.mark_types.specs.spell_types.declared.Lexicon.{Lexicon}
use Rattle.board_share.specs.edit_core.Events.{AFinish}
use Rattle.board_share.specs.edit_core.Seen.{Seen}
use Rattle.board_share.specs.edit_core.Steps.{IsRefused, Step, event_refusal, finish_refusal}
use Rattle.board_share.specs.edit_core.Steps.{first_refusal}
use Rattle.board_share.specs.edit_core.Steps.{found, is_open, settled, unless}
use Rattle.board_share.specs.edit_core.declared.refusal.Refusal.{Refusal}
use Rattle.outside.specs.lists.Answers.{IsDueOr}
use Rattle.board_share.specs.edit_core.declared.refusal.Refusal.TheVariants.{Behind, Gone, NoMemory}
use Rattle.board_share.specs.edit_core.declared.refusal.Refusal.TheVariants.{Reloaded}
use Rattle.board_share.specs.edit_core.declared.refusal.Refusal.TheVariants.{Spent}
use Rattle.board_share.specs.edit_core.declared.state.Standing.{Standing}
use Rattle.board_share.specs.edit_core.declared.state.Standing.TheVariants.{Waiting, Held, Parked}
use Rattle.board_share.specs.edit_core.declared.state.Standing.TheVariants.{Finished}
use Rattle.board_share.specs.declared.claim.ClaimFault.{ClaimFault}
use Rattle.board_share.specs.declared.claim.ClaimFault.TheVariants as fault
use Rattle.check_workers.specs.Ends.{IsCutShort, IsLastPoint, IsPassedOver, refusal_of_claim}
use Rattle.board_share.specs.Settled.{is_open_for}
use Rattle.check_workers.proofs.Shown.{found-as}

none-is-some : {X Y : Type 0} (x : X) → None ≡ Some x → Y
none-is-some x is = cc

-- ---- behind a finish
set-here : {X : Type 0} (xs : List X) (k : ℕ) (x y : X) → slice_get xs k ≡ Some x
    → slice_get (set xs k y) k ≡ Some y
set-here [] k x y at = none-is-some x at
set-here (z ∷ xs) zero x y at = refl
set-here (z ∷ xs) (suc k) x y at = set-here xs k x y at

pub closed-behind : (before after : Seen) (worker id rev dict : ℕ) (text : List ℕ)
    (lexicon : Lexicon) → Step before (AFinish worker id rev dict text lexicon) after
    → is_open_for id rev dict after ≡ false
closed-behind before after worker id rev dict text lexicon step =
    let made = step.makes in
    let now = record before
    { point = before.point + 1; standings = set before.standings made.place Finished } in
    let there : found id now ≡ Some (made.paragraph, Finished) =
    found-as now id made.place made.paragraph Finished made.here.place_is made.here.paragraph_is
    (set-here before.standings made.place made.stands Finished made.here.standing_is) in
    subst (λ (board : Seen). is_open_for id rev dict board ≡ false) (sym made.after_is)
    (and_right (now.dict_version == dict) _
    (ap (λ rows. option_map_or (λ row. (row.0.rev == rev) && is_open row.1) rows false) there
    ∙ and_right (made.paragraph.rev == rev) false refl))

-- ---- where a finish is refused
-- by whether the dictionary version and the rev are the same, and by how the paragraph stands
closed-by : (d r : Bool) (rev rev' dict' : ℕ) (stands : Standing) (refusal : Refusal)
    → option_or (unless r (Behind rev'))
    (option_or (unless d (Reloaded dict')) (settled rev stands)) ≡ Some refusal
    → (d && (r && is_open stands)) ≡ false
closed-by true true rev rev' dict' Waiting refusal is = none-is-some refusal is
closed-by true true rev rev' dict' (Held worker) refusal is = none-is-some refusal is
closed-by true true rev rev' dict' Parked refusal is = refl
closed-by true true rev rev' dict' Finished refusal is = refl
closed-by true false rev rev' dict' stands refusal is = refl
closed-by false r rev rev' dict' stands refusal is = refl

closed-found : (board : Seen) (id rev dict : ℕ) (rows : Option (Paragraph × Standing))
    (refusal : Refusal)
    → option_map_or (λ row. finish_refusal board rev dict row.0 row.1) rows (Some (Gone id))
    ≡ Some refusal
    → ((board.dict_version == dict)
    && option_map_or (λ row. (row.0.rev == rev) && is_open row.1) rows false) ≡ false
closed-found board id rev dict None refusal is = and_right (board.dict_version == dict) false refl
closed-found board id rev dict (Some row) refusal is =
    closed-by (board.dict_version == dict) (row.0.rev == rev) row.0.rev row.0.rev
    board.dict_version row.1 refusal is

pub closed-refused : (worker id rev dict : ℕ) (text : List ℕ) (lexicon : Lexicon) (board : Seen)
    (refusal : Refusal) → ((point : ℕ) → ¬ (refusal ≡ Spent point))
    → IsRefused board (AFinish worker id rev dict text lexicon) refusal
    → is_open_for id rev dict board ≡ false
closed-refused worker id rev dict text lexicon board refusal other is =
    by (nat_lt board.point (2 ^ 62)) is
  where
    by : (b : Bool)
        → option_or (unless b (Spent board.point))
        (event_refusal board (AFinish worker id rev dict text lexicon)) ≡ Some refusal
        → is_open_for id rev dict board ≡ false
    by true told = closed-found board id rev dict (found id board) refusal told
    by false told = absurd (other board.point (sym (same_Some (Spent board.point) refusal told)))

-- ---- the last point
-- a check is never refused as one that is spent, while the history goes on
not-spent-by : (d r : Bool) (rev rev' dict' point : ℕ) (stands : Standing)
    → ¬ (option_or (unless r (Behind rev'))
    (option_or (unless d (Reloaded dict')) (settled rev stands)) ≡ Some (Spent point))
not-spent-by true true rev rev' dict' point Waiting is = absurd (cc)
not-spent-by true true rev rev' dict' point (Held worker) is = absurd (cc)
not-spent-by true true rev rev' dict' point Parked is = absurd (cc)
not-spent-by true true rev rev' dict' point Finished is = absurd (cc)
not-spent-by true false rev rev' dict' point stands is = absurd (cc)
not-spent-by false true rev rev' dict' point stands is = absurd (cc)
not-spent-by false false rev rev' dict' point stands is = absurd (cc)

not-spent-found : (board : Seen) (id rev dict point : ℕ) (rows : Option (Paragraph × Standing))
    → ¬ (option_map_or (λ row. finish_refusal board rev dict row.0 row.1) rows (Some (Gone id))
    ≡ Some (Spent point))
not-spent-found board id rev dict point None is = absurd (cc)
not-spent-found board id rev dict point (Some row) is =
    not-spent-by (board.dict_version == dict) (row.0.rev == rev) row.0.rev row.0.rev
    board.dict_version point row.1 is

point-last : (n : ℕ) → 2 ^ 62 ≤ n → n ≤ 2 ^ 62 → n ≡ 2 ^ 62
point-last n most least = omega (arith, most, least)

spent-is : (point now : ℕ) → Some (Spent now) ≡ Some (Spent point) → point ≡ now
spent-is point now is = cc

pub spent-last : (worker id rev dict : ℕ) (text : List ℕ) (lexicon : Lexicon) (board : Seen)
    (point : ℕ) → board.point ≤ 2 ^ 62
    → IsRefused board (AFinish worker id rev dict text lexicon) (Spent point)
    → IsLastPoint board point
spent-last worker id rev dict text lexicon board point most is =
    by (nat_lt board.point (2 ^ 62)) refl is
  where
    by : (b : Bool) → nat_lt board.point (2 ^ 62) ≡ b
        → option_or (unless b (Spent board.point))
        (event_refusal board (AFinish worker id rev dict text lexicon)) ≡ Some (Spent point)
        → IsLastPoint board point
    by true before told =
        absurd (not-spent-found board id rev dict point (found id board) told)
    by false behind told = record {
      point_is = spent-is point board.point told;
      last = point-last board.point (ltb-false board.point (2 ^ 62) behind) most;
    }

-- ---- what becomes of a refusal
-- a refusal that is no want of memory is due
told-due : (told : Refusal) (due : Option Refusal) → ¬ (told ≡ NoMemory)
    → IsDueOr NoMemory due told → due ≡ Some told
told-due told due other (inl wanting) = absurd (other wanting)
told-due told due other (inr is) = is

pub closed-passed : (worker id rev dict : ℕ) (text : List ℕ) (lexicon : Lexicon) (board : Seen)
    (told : Refusal) (answer : Result (Unit {0}) ClaimFault) → OnOk answer (IsPassedOver told)
    → IsDueOr NoMemory (first_refusal board (AFinish worker id rev dict text lexicon)) told
    → OnOk answer (is_open_for id rev dict board ≡ false)
closed-passed worker id rev dict text lexicon board told (Ok done) passed due =
    closed-refused worker id rev dict text lexicon board told passed.spent
    (told-due told _ passed.wanting due)
closed-passed worker id rev dict text lexicon board told (Err fault) passed due = tt

pub short-told : (worker id rev dict : ℕ) (text : List ℕ) (lexicon : Lexicon) (board : Seen)
    (told : Refusal) (answer : Result (Unit {0}) ClaimFault)
    → IfErr answer (λ fault. told ≡ refusal_of_claim fault) → board.point ≤ 2 ^ 62
    → IsDueOr NoMemory (first_refusal board (AFinish worker id rev dict text lexicon)) told
    → IfErr answer (IsCutShort board)
short-told worker id rev dict text lexicon board told (Ok done) is most due = tt
short-told worker id rev dict text lexicon board told (Err (fault.Spent point)) is most due =
    spent-last worker id rev dict text lexicon board point most
    (told-due told _ (λ wanting. apart point (sym is ∙ wanting)) due ∙ ap (λ r. Some r) is)
  where
    apart : (point : ℕ) → ¬ (Spent point ≡ NoMemory)
    apart point same = absurd (cc)
short-told worker id rev dict text lexicon board told (Err fault.NoMemory) is most due = tt
