-- The rest of the line is cut at its first space.
use Rattle.std.proofs.Common.{◌∙◌, ap}
use Rattle.console_lang.specs.Handed.{words_in}
use Rattle.console_lang.proofs.WordLemmas.{cut_at, uncut}
use Rattle.console_lang.proofs.words.Words.split_first.Goals as goal

pub returns-in-Some : goal.returns-in-Some
returns-in-Some c =
    ap words_in c.in_ok-text.was ∙ cut_at c.in_ok-text.text.now c.split_once.result c.in-Some.word
    c.in-Some.behind c.split_once.ensures.cases c.in-Some.is

pub returns-in-None : goal.returns-in-None
returns-in-None c =
    ap words_in c.in_ok-text.was
    ∙ uncut c.in_ok-text.text.now c.split_once.result c.split_once.ensures.cases c.in-None.is
