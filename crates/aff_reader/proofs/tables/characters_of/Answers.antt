-- A text that is not empty has a character.
use Rattle.std.proofs.Common.{◌<◌, length, subst, sym}
use Rattle.std.proofs.lemmas.Result.{IfOk-weaker}
use Rattle.aff_reader.proofs.TableLemmas.{chars-some}
use Rattle.aff_reader.proofs.tables.characters_of.Goals as goal

pub returns-clause-some : goal.returns-clause-some
returns-clause-some c = λ some.
    IfOk-weaker c.chars_of.result _ (λ made. 0 < length made)
    (λ made is. subst (λ own. 0 < length own) (sym is)
    (chars-some c.args.text.now c.utf8.text some))
    c.chars_of.ensures
