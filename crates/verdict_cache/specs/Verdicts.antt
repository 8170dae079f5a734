-- What is remembered of a judge.
use Rattle.std.specs.Prelude.{◌≡◌, ℕ, Bool, List, Contains}
use Rattle.std.specs.declared.vec.Vec.{Vec}
use Rattle.std.specs.declared.alloc.Global.{Global}
use Rattle.mark_types.specs.spell_types.declared.Lexicon.{Lexicon}
use Rattle.mark_types.specs.spell_types.Yields.{yields}

-- each verdict that is remembered is the one of this lexicon on its word
pub record AreVerdicts (lexicon : Lexicon) (entries : List (Vec ℕ Global × Bool)) : Type 0 where
  pub each : (word : Vec ℕ Global) (answer : Bool) → Contains entries (word, answer)
      → answer ≡ yields lexicon word.items
