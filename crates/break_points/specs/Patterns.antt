-- Patterns that are prepared.
use Rattle.std.specs.Prelude.{◌≡◌, ℕ, Bool, List}
use Rattle.spell_types.specs.declared.breaks.Anchored.{Anchored}
use Rattle.spell_types.specs.Breaks.{is_broken}
use Rattle.text_order.specs.TextOrder.{Row}

-- a text, and whether it is anchored at the front and at the back
abbrev pub BreakPattern : Type 0
BreakPattern = Row (Bool × Bool)

abbrev pub anchored_of : BreakPattern → Anchored
anchored_of p = record { text = p.0.items; front = p.1.0; back = p.1.1 }

-- the same words are broken by the patterns of one list as by those of another
unfoldable pub BreakAlike : List Anchored → List Anchored → Type 0
BreakAlike breaks other = (base barred : List ℕ → Bool) (word : List ℕ)
    → is_broken base barred breaks word ≡ is_broken base barred other word
