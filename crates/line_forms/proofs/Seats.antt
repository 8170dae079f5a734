-- The eyes of a desk before a dialogue: those of the workers, and last the console's.
use Rattle.std.proofs.Common.{◌≡◌, ◌∙◌, sym, ap, subst, ℕ, ◌+◌, ◌<◌, ◌≤◌, List, [], ◌∷◌, ◌++◌, map}
use Rattle.std.proofs.Common.{length, zero-add, arith}
use Rattle.std.specs.List.{range_with_len}
use Rattle.std.proofs.lemmas.List.{length-map, same_from_push}
use Rattle.std.proofs.lemmas.List.FromFn.{length-range_with_len, map-range_with_len_more}
use Rattle.own_dictionary.specs.personal_words.Dictionaries.{OwnSeen}
use Rattle.board_share.specs.Eyes.{EyeSeen, fresh_eye}
use Rattle.desk_console.specs.Consoles.{lines_left_for_eye}
use Rattle.line_forms.specs.Talks.{fresh_workers, opening_by}
use Rattle.input_lines.specs.declared.limits.TheConstants.{INPUT_LIMIT}

-- how many there are
pub so-many : (count : ℕ) (dictionary : OwnSeen) {eyes : List EyeSeen}
    → eyes ≡ map (fresh_eye (opening_by dictionary)) (range_with_len 0 count)
    → length eyes ≡ count
so-many count dictionary are =
    ap length are ∙ length-map (range_with_len 0 count) (fresh_eye (opening_by dictionary))
    ∙ length-range_with_len 0 count

-- the last one taken off
pub taken-off : (workers : ℕ) (dictionary : OwnSeen) {eyes others : List EyeSeen} {eye : EyeSeen}
    → eyes ≡ map (fresh_eye (opening_by dictionary)) (range_with_len 0 (workers + 1))
    → eyes ≡ others ++ eye ∷ []
    → (others ≡ fresh_workers workers dictionary) × (eye ≡ fresh_eye (opening_by dictionary) workers)
taken-off workers dictionary {eyes} {others} {eye} are is =
    same_from_push others (fresh_workers workers dictionary) eye
    (fresh_eye (opening_by dictionary) workers)
    (sym is ∙ are
    ∙ map-range_with_len_more (fresh_eye (opening_by dictionary)) 0 workers workers
    (zero-add workers))

-- an eye that has counted nothing leaves room for all lines of an input
pub room-left : (workers : ℕ) (dictionary : OwnSeen) {eye : EyeSeen}
    → eye ≡ fresh_eye (opening_by dictionary) workers → INPUT_LIMIT + 1 ≤ lines_left_for_eye eye
room-left workers dictionary is =
    subst (λ (eye : EyeSeen). INPUT_LIMIT + 1 ≤ lines_left_for_eye eye) (sym is) (omega arith)

pub few-others : (workers : ℕ) (dictionary : OwnSeen) {others : List EyeSeen} → workers ≤ 63
    → others ≡ fresh_workers workers dictionary → length others < 64
few-others workers dictionary {others} few are = by (length others) (so-many workers dictionary are)
  where
    by : (n : ℕ) → n ≡ workers → n < 64
    by n is = omega (arith, is, few)
