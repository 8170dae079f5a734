-- A change of a list at one place.
use Rattle.std.specs.Prelude.{ℕ, List, set}
use Rattle.std.specs.List.{insert, remove}

pub data Change : Type 0 where
  -- the item at a place becomes another
  SetAt : ℕ → Change
  -- an item is put before the one at a place, or behind the last
  InsertAt : ℕ → Change
  -- the item at a place is taken out
  RemoveAt : ℕ → Change

-- a list with one change, where the item is the one that is put
abbrev pub changed : {X : Type 0} → Change → X → List X → List X
changed (SetAt place) item items = set items place item
changed (InsertAt place) item items = insert items place item
changed (RemoveAt place) item items = remove items place
