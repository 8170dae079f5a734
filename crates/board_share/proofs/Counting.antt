-- How many events are counted, and by which eyes.
use Rattle.std.proofs.Common.{◌≡◌, ◌∙◌, sym, ap, ℕ, ◌+◌, List, [], ◌∷◌, ◌++◌, map, zero-add, arith}
use Rattle.std.specs.List.{range_with_len}
use Rattle.std.proofs.lemmas.List.FromFn.{map-range_with_len_more}
use Rattle.edit_core.specs.Seen.{Seen}
use Rattle.edit_core.specs.declared.event.EventKind.{EventKind}
use Rattle.edit_core.specs.declared.event.EventKind.TheVariants as kind
use Rattle.board_share.specs.Eyes.{EyeSeen, counted, entries_in, fresh_eye}
use Rattle.board_share.specs.declared.counts.Counts.{Counts}

-- an event more is one more
pub counted-one : (asked : EventKind) (counts : Counts)
    → entries_in (counted asked counts) ≡ entries_in counts + 1
counted-one kind.Edit counts = omega arith
counted-one kind.Load counts = omega arith
counted-one kind.Park counts = omega arith
counted-one kind.Ask counts = omega arith
counted-one kind.Claim counts = omega arith
counted-one kind.Finish counts = omega arith

-- an eye more has the next number
pub fresh-more : (opening : Seen) (number : ℕ) (before after : List EyeSeen) (eye : EyeSeen)
    → before ≡ map (fresh_eye opening) (range_with_len 0 number) → eye ≡ fresh_eye opening number
    → after ≡ before ++ eye ∷ []
    → after ≡ map (fresh_eye opening) (range_with_len 0 (number + 1))
fresh-more opening number before after eye is next more =
    more ∙ ap (λ eyes. eyes ++ eye ∷ []) is
    ∙ ap (λ e. map (fresh_eye opening) (range_with_len 0 number) ++ e ∷ []) next
    ∙ sym (map-range_with_len_more (fresh_eye opening) 0 number number (zero-add number))
