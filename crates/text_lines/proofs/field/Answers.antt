-- The chain gives the pieces between blank characters, without the empty ones.
use Rattle.std.proofs.Common.{rules, tests, sym, subst, ◌≡◌, ℕ}
use Rattle.std.proofs.lemmas.Iterator.Consumers.{nth_from_yields_List, YieldsList-from_filter}
use Rattle.std.proofs.lemmas.Iterator.Consumers.{YieldsList-at}
use Rattle.std.specs.Char.{char_set_contains}
use Rattle.text_lines.specs.Fields.{fields, has_bytes, is_blank}
use Rattle.text_lines.proofs.FieldLemmas.{yields_pieces, blank_pattern}
use Rattle.text_lines.proofs.field.Goals as goal

pub returns : goal.returns
unfolding fields
returns c =
    nth_from_yields_List c.nth.result c.nth.new.self c.args.k c.nth.ensures.ran
    (YieldsList-from_filter _ has_bytes
    (YieldsList-at c.filter.ensures.source
    (yields_pieces (λ l k. (n : ℕ) → char_set_contains l n ≡ k n) c.args.text.now
    c.split.ensures.text c.split.ensures.has_more
    (subst (λ l. (n : ℕ) → char_set_contains l n ≡ is_blank n) (sym c.split.ensures.pattern)
    blank_pattern)))
    c.filter.ensures.closure (λ x b q k. search (rules, tests)))
