-- One call of an eye after another.
use Rattle.std.proofs.Common.{◌≡◌, ◌∙◌, refl, sym, subst, ℕ, ◌+◌, ◌≤◌, List, length, arith}
use Rattle.board_share.specs.edit_core.Seen.{Seen}
use Rattle.board_share.specs.edit_core.Runs.{last_board}
use Rattle.mark_types.specs.spell_types.declared.Lexicon.{Lexicon}
use Rattle.board_share.specs.Events.{KnowsCheck}
use Rattle.board_share.specs.edit_core.Runs.{IsCheckOf}
use Rattle.board_share.specs.Eyes.{EyeSeen, IsLater, entries_in}
use Rattle.board_share.specs.Eyes.{CountsChecks}
use Rattle.check_workers.proofs.Prefixes.{prefix-self, prefix-trans}

all-few : (n : ℕ) → n ≤ n
all-few n = omega arith

-- a call that does nothing
pub later-self : (eye : EyeSeen) → IsLater eye eye
later-self eye = record {
  number = refl;
  opening = refl;
  begins = prefix-self eye.run.entries;
  longer = all-few (length eye.run.entries + entries_in eye.counts);
}

longer-on : (a b c x y z : ℕ) → a + y ≤ b + x → b + z ≤ c + y → a + z ≤ c + x
longer-on a b c x y z first second = omega (arith, first, second)

pub later-trans : (old middle new : EyeSeen) → IsLater old middle → IsLater middle new
    → IsLater old new
later-trans old middle new first second = record {
  number = second.number ∙ first.number;
  opening = second.opening ∙ first.opening;
  begins = prefix-trans old.run.entries middle.run.entries new.run.entries first.begins
      second.begins;
  longer = longer-on (length old.run.entries) (length middle.run.entries) (length new.run.entries)
      (entries_in old.counts) (entries_in middle.counts) (entries_in new.counts) first.longer
      second.longer;
}

-- what an eye knows, it knows later
pub knows-later : (old new : EyeSeen) {id rev dict : ℕ} {text : List ℕ} {lexicon : Lexicon}
    → IsLater old new → KnowsCheck old.run id rev dict text lexicon
    → KnowsCheck new.run id rev dict text lexicon
knows-later old new {id} {rev} {dict} {text} {lexicon} later knows = record {
  front = knows.front;
  begins = prefix-trans knows.front old.run.entries new.run.entries knows.begins later.begins;
  dict_is = subst (λ (opening : Seen). (last_board opening knows.front).dict_version ≡ dict)
      (sym later.opening) knows.dict_is;
  check = subst (λ (opening : Seen). IsCheckOf (last_board opening knows.front) id rev text lexicon)
      (sym later.opening) knows.check;
}

-- ---- counts
pub counts-self : (eye : EyeSeen) → CountsChecks eye eye
counts-self eye =
    record { edits = refl; loads = refl; asks = refl; checks = all-few eye.counts.checks }

few-on : (n m k : ℕ) → n ≤ m → m ≤ k → n ≤ k
few-on n m k first second = omega (arith, first, second)

pub counts-trans : (old middle new : EyeSeen) → CountsChecks old middle → CountsChecks middle new
    → CountsChecks old new
counts-trans old middle new first second = record {
  edits = second.edits ∙ first.edits;
  loads = second.loads ∙ first.loads;
  asks = second.asks ∙ first.asks;
  checks = few-on old.counts.checks middle.counts.checks new.counts.checks first.checks
      second.checks;
}
