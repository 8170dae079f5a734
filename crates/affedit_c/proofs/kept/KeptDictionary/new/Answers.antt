-- A dictionary that was loaded is kept.
use Rattle.std.proofs.Common.{◌∙◌, sym, subst}
use Rattle.affedit_c.specs.Dictionaries.{IsLoaded}
use Rattle.affedit_c.proofs.kept.KeptDictionary.new.Goals as goal

pub invariant_of-kept : goal.invariant_of-kept
invariant_of-kept c = record {
  loaded = subst IsLoaded (sym (c.in_ok-new.ensures.ok ∙ c.in_ok-speller.ensures)) c.requires;
  asked_is = tt;
}
