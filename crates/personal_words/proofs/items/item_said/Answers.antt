-- Without a star at its front an item adds its word.
use Rattle.std.proofs.Common.{◌∙◌, sym, lit<}
use Rattle.std.proofs.lemmas.Option.{MatchOption-at_none}
use Rattle.std.proofs.lemmas.Str.Pattern.{strip_prefix_char}
use Rattle.personal_words.proofs.ItemLemmas.{if-ok, said-without}
use Rattle.personal_words.proofs.items.item_said.Goals as goal

pub returns-in-None : goal.returns-in-None
returns-in-None c =
    let strip =
    strip_prefix_char 42 c.args.text.now c.strip_prefix.result c.strip_prefix.ensures.cases
    (lit< tt) in
    if-ok c.adding.result
    (λ made is. is ∙ sym (said-without c.args.ignore.now c.args.text.now
    (MatchOption-at_none _ _ c.in-None.is strip)))
    c.adding.ensures
