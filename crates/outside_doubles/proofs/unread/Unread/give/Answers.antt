use Rattle.std.proofs.Common.{◌≡◌, ◌∙◌, ℕ, ◌+◌, List, ◌++◌, length, take, drop, sym, arith}
use Rattle.std.proofs.lemmas.Grind.{common_steps}
use Rattle.std.proofs.lemmas.List.{take_at, drop-drop, take-append-drop}
use Rattle.outside_doubles.proofs.unread.Unread.give.Goals as goal

-- what is left from a place on is what was put into the buffer's front and what is left behind it
front_taken : (bytes put tail : List ℕ) (place count : ℕ) → length put ≡ count
    → put ≡ take count (drop place bytes)
    → drop place bytes ≡ take count (put ++ tail) ++ drop (place + count) bytes
front_taken bytes put tail place count enough same =
    rw (take_at put tail count enough, same, ← drop-drop count place bytes)
    (sym (take-append-drop count (drop place bytes)))

pub returns-clause-taken : goal.returns-clause-taken
returns-clause-taken c = sym c.self.view_is
    ∙ front_taken c.self.inside.bytes.items c.copy_from_slice.new.self
    (drop c.min-count.result c.args.into.now)
    c.self.inside.place c.min-count.result (grind (arith, common_steps))
    (grind (arith, common_steps))
