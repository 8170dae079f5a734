-- No form is longer than a word with three affixes.
use Rattle.std.proofs.Common.{subst}
use Rattle.affix_strip.specs.Lengths.{AreAddedWithin}
use Rattle.affix_strip.proofs.LengthLemmas.{longest-is}
use Rattle.affix_strip.proofs.lengths.longest_of.Goals as goal

pub returns : goal.returns
returns c =
    longest-is c.args.lexicon.now c.longest_word-word.result c.longest_added-added.result
    c.sum_of.result
    c.longest_word-word.ensures
    (subst (λ rules. AreAddedWithin rules c.longest_added-added.result) c.deref.ensures
    c.longest_added-added.ensures) c.sum_of.ensures
