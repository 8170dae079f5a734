-- What is wrong with a file that is no script, cause by cause.
use Rattle.std.specs.Prelude.{◌≡◌, ℕ, ◌+◌, ◌<◌, true, false, List, ◌∷◌, ◌++◌, length}
use Rattle.std.specs.List.{list_any}
use Rattle.team_script.specs.Lines.{told_in, is_bad, is_long}
use Rattle.team_script.specs.Pairs.{pairs_in, pair_limit}

-- of the lines with these texts the one with this number is bad, and none before it is
pub record IsFirstBad (texts : List (List ℕ)) (line : ℕ) : Type 0 where
  pub front : List (List ℕ)
  pub text : List ℕ
  pub back : List (List ℕ)
  pub texts_are : texts ≡ front ++ text ∷ back
  pub number : line ≡ length front + 1
  pub bad : is_bad text ≡ true
  pub first : list_any is_bad front ≡ false

-- no line is bad, and the text of some session's line is too long
pub record HasLong (texts : List (List ℕ)) : Type 0 where
  pub good : list_any is_bad texts ≡ false
  pub long : list_any is_long (told_in texts) ≡ true

-- no line is bad and no text too long, and the lines load more pairs than are allowed
pub record HasMany (texts : List (List ℕ)) : Type 0 where
  pub good : list_any is_bad texts ≡ false
  pub short : list_any is_long (told_in texts) ≡ false
  pub many : pair_limit < length (pairs_in (told_in texts))
