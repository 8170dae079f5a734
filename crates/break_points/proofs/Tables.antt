-- What a table says stays right.
use Rattle.std.proofs.Common.{◌≡◌, refl, sym, ap, ◌∙◌, ℕ, [], Bool, true, false, cond, Option, None}
use Rattle.std.proofs.Common.{Some, IfSome}
use Rattle.std.specs.BTreeMap.{get}
use Rattle.std.specs.Ordering.{is_eq, nat_cmp}
use Rattle.std.specs.declared.cmp.Ordering.{Ordering}
use Rattle.std.specs.declared.cmp.Ordering.TheVariants.{Less, Equal, Greater}
use Rattle.std.proofs.lemmas.Map.Lookups.{exact_pairs, exact_unsigned}
use Rattle.std.proofs.lemmas.Option.{same_Some}
use Rattle.break_points.specs.declared.table.Stretch.{Stretch}
use Rattle.break_points.specs.declared.table.Table.{Table}
use Rattle.break_points.specs.Pieces.{IsTableRight, place_cmp}

pub empty_right : (right : Stretch → Bool) (table : Table) → table.answers.entries ≡ []
    → IsTableRight right table
unfolding IsTableRight
empty_right right table empty = λ piece answer found. cc

pub read_right : (right : Stretch → Bool) (table : Table) (piece : Stretch) (found : Option Bool)
    → found ≡ get place_cmp table.answers (piece.from, piece.to) → IsTableRight right table
    → IfSome found (λ answer. answer ≡ right piece)
unfolding IsTableRight
read_right right table piece None is all = tt
read_right right table piece (Some answer) is all = all piece answer (sym is)

is_equal : (o : Ordering) → is_eq o ≡ true → o ≡ Equal
is_equal Less e = cc
is_equal Equal e = refl
is_equal Greater e = cc

same_place : (piece other : Stretch)
    → is_eq (place_cmp (piece.from, piece.to) (other.from, other.to)) ≡ true → piece ≡ other
same_place piece other same =
    ap (λ (k : ℕ × ℕ). let s : Stretch = record { from = k.0; to = k.1 } in s)
    (exact_pairs nat_cmp nat_cmp exact_unsigned exact_unsigned (piece.from, piece.to)
    (other.from, other.to) (is_equal _ same))

pub put_right : (right : Stretch → Bool) (table new : Table) (piece : Stretch) (answer : Bool)
    → ((q : ℕ × ℕ) → get place_cmp new.answers q ≡ cond (is_eq (place_cmp (piece.from, piece.to) q))
    (Some answer) (get place_cmp table.answers q))
    → IsTableRight right table → answer ≡ right piece → IsTableRight right new
unfolding IsTableRight
put_right right table new piece answer puts all is = λ other found given.
    (elim (is_eq (place_cmp (piece.from, piece.to) (other.from, other.to))) as
    (λ b. is_eq (place_cmp (piece.from, piece.to) (other.from, other.to)) ≡ b
    → cond b (Some answer) (get place_cmp table.answers (other.from, other.to)) ≡ Some found
    → found ≡ right other) [
      | true ↦ λ same e. sym (same_Some answer found e)
          ∙ (is ∙ ap right (same_place piece other same))
      | false ↦ λ _ e. all other found e
    ]) refl (sym (puts (other.from, other.to)) ∙ given)
