-- Items in an array of the caller's.
use Rattle.std.specs.Prelude.{List, ◌++◌, take, drop, length}

-- what an array has once these items are put at its front, as many as it has room for
abbrev pub array_with : {A : Type 0} → List A → List A → List A
array_with items array = take (length array) items ++ drop (length items) array
