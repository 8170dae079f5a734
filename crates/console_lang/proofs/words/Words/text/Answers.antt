-- What is left of the line is the text of the words that are left.
use Rattle.std.proofs.Common.{◌∙◌, refl, ap}
use Rattle.console_lang.proofs.WordLemmas.{text_left}
use Rattle.console_lang.proofs.words.Words.text.Goals as goal

pub returns : goal.returns
returns c = ap (λ r. r.now) c.unwrap_or.ensures ∙ text_left c.args.self.rest _ refl
