-- Each table is made of the rules or the entries.
use Rattle.std.proofs.Common.{rules}
use Rattle.affix_strip.proofs.walk.Tables.new.Goals as goal

pub returns : goal.returns
returns c = λ by_word has. record {
  rules = search rules;
  entries = has;
  seconds = search rules;
  has_seconds = search rules;
  barring = search rules;
  heads = search rules;
  longest = search rules;
  inside = search rules;
}
