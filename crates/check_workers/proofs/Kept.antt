-- What remembers verdicts is by the dictionary of its version.
use Rattle.std.proofs.Common.{◌≡◌, sym, ap, subst, ℕ, ◌==◌, true, false, Option, None, Some}
use Rattle.std.proofs.Common.{IfSome}
use Rattle.std.specs.Arc.{arc_value}
use Rattle.std.specs.Option.{option_map_or}
use Rattle.std.proofs.lemmas.Bool.{eqb-true, false≢true}
use Rattle.mark_types.specs.spell_types.declared.Lexicon.{Lexicon}
use Rattle.board_share.specs.edit_core.Runs.{IsRun, Run, last_board}
use Rattle.board_share.specs.edit_core.Seen.{Seen}
use Rattle.board_share.specs.Eyes.{EyeSeen, IsLater}
use Rattle.board_share.specs.declared.claim.Claim.{Claim}
use Rattle.check_workers.specs.Knowing.{KeepsFor, KnowsClaim, KnowsKept, KnowsLexicon}
use Rattle.check_workers.specs.declared.keeping.Kept.{Kept}
use Rattle.check_workers.proofs.Prefixes.{prefix-trans}

abbrev pub VersionsNameDictionaries : Type 0
VersionsNameDictionaries = (run : Run) (dict : ℕ) (one other : Lexicon) → IsRun run
    → KnowsLexicon run dict one → KnowsLexicon run dict other → one ≡ other

-- with a claim's board its dictionary is known
claim-lexicon : {J : Type 0} (lexicon_of : J → Lexicon) (run : Run) (claim : Claim J)
    → KnowsClaim lexicon_of run claim
    → KnowsLexicon run claim.dict (lexicon_of (arc_value claim.judge))
claim-lexicon lexicon_of run claim knows = record {
  front = knows.front;
  begins = knows.begins;
  dict_is = knows.dict_is;
  lexicon_is = sym knows.check.lexicon_is;
}

-- what is kept for the claim's version is by its dictionary
pub keeps-same : {J : Type 0} (lexicon_of : J → Lexicon) → VersionsNameDictionaries → (run : Run)
    (claim : Claim J) (kept : Option (Kept J))
    → option_map_or (λ kept. kept.dict == claim.dict) kept false ≡ true → IsRun run
    → KnowsClaim lexicon_of run claim → KnowsKept lexicon_of run kept
    → KeepsFor lexicon_of run claim kept
keeps-same lexicon_of names run claim None same is knows known = absurd (false≢true same)
keeps-same lexicon_of names run claim (Some kept) same is knows known = record {
  known = known;
  same = names run claim.dict (lexicon_of kept.cache) (lexicon_of (arc_value claim.judge)) is
      (subst (λ (dict : ℕ). KnowsLexicon run dict (lexicon_of kept.cache))
      (eqb-true kept.dict claim.dict same) known)
      (claim-lexicon lexicon_of run claim knows);
}

-- what is new for a claim is by its dictionary
pub keeps-new : {J : Type 0} (lexicon_of : J → Lexicon) (run : Run) (claim : Claim J)
    (kept : Option (Kept J))
    → IfSome kept (λ kept. kept ≡ record { cache = arc_value claim.judge; dict = claim.dict })
    → KnowsClaim lexicon_of run claim → KeepsFor lexicon_of run claim kept
keeps-new lexicon_of run claim None new knows = record { known = tt; same = tt }
keeps-new lexicon_of run claim (Some kept) new knows = record {
  known = subst (λ (k : Kept _). KnowsLexicon run k.dict (lexicon_of k.cache)) (sym new)
      (claim-lexicon lexicon_of run claim knows);
  same = ap (λ (k : Kept _). lexicon_of k.cache) new;
}

-- a dictionary that an eye knows, it knows later
lexicon-later : (old new : EyeSeen) (dict : ℕ) (lexicon : Lexicon) → IsLater old new
    → KnowsLexicon old.run dict lexicon → KnowsLexicon new.run dict lexicon
lexicon-later old new dict lexicon later knows = record {
  front = knows.front;
  begins = prefix-trans knows.front old.run.entries new.run.entries knows.begins later.begins;
  dict_is = subst (λ (opening : Seen). (last_board opening knows.front).dict_version ≡ dict)
      (sym later.opening) knows.dict_is;
  lexicon_is = subst (λ (opening : Seen). (last_board opening knows.front).lexicon ≡ lexicon)
      (sym later.opening) knows.lexicon_is;
}

pub kept-later : {J : Type 0} (lexicon_of : J → Lexicon) (old new : EyeSeen)
    (kept : Option (Kept J)) → IsLater old new → KnowsKept lexicon_of old.run kept
    → KnowsKept lexicon_of new.run kept
kept-later lexicon_of old new None later known = tt
kept-later lexicon_of old new (Some kept) later known =
    lexicon-later old new kept.dict (lexicon_of kept.cache) later known

-- what was kept and is asked since, is still by the dictionary of its version
pub kept-asked : {J : Type 0} (lexicon_of : J → Lexicon) (old new : EyeSeen)
    (kept : Option (Kept J)) (one : Kept J) (asked : Lexicon) → kept ≡ Some one
    → KnowsKept lexicon_of old.run kept → IsLater old new → asked ≡ lexicon_of one.cache
    → KnowsLexicon new.run one.dict asked
kept-asked lexicon_of old new kept one asked is known later same =
    rw same
    (lexicon-later old new one.dict (lexicon_of one.cache) later
    (subst (λ (k : Option (Kept _)). KnowsKept lexicon_of old.run k) is known))
