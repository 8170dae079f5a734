-- The numbers of the rest are those of the part before what is behind it.
use Rattle.std.proofs.Common.{◌≡◌, ◌∙◌, sym, ap, refl, not, is_some}
use Rattle.std.specs.List.{list_any}
use Rattle.compound_words.specs.Rests.{Way, ByFlags, ByRule, count_of, number_with, asked_by}
use Rattle.compound_words.specs.Rests.{patterns_of}
use Rattle.compound_words.proofs.NumberLemmas.{no-numbers, none-is}
use Rattle.compound_words.proofs.rests.rest_with.Goals as goal

pub returns-then-not-has_number : goal.returns-then-not-has_number
returns-then-not-has_number c ByFlags =
    sym (c.number_by_flags-by_flags.ensures (patterns_of c.args.search.now))
    ∙ none-is c.number_by_flags-by_flags.result
    (ap not c.is_none.ensures ∙ ap (λ b. not (not b)) c.if-is_none.true)
returns-then-not-has_number c (ByRule rule step) =
    sym (c.in_ok-by_rules.ensures rule step)
    ∙ no-numbers c.in_ok-by_rules.by_rules rule step
    (ap (list_any (list_any is_some)) (sym c.deref.ensures) ∙ sym c.if-not-has_number.ensures)

pub returns : goal.returns
returns c = record { first = refl; numbers = numbers }
  where
    numbers : (way : Way)
        → count_of (record {
          part = c.args.part;
          by_flags = c.number_by_flags-by_flags.result;
          by_rules = c.in_ok-by_rules.by_rules;
        }) way
        ≡ number_with (asked_by c.args.search.now)
        (patterns_of c.args.search.now) c.args.place c.args.part c.args.behind.now way
    numbers ByFlags = c.number_by_flags-by_flags.ensures (patterns_of c.args.search.now)
    numbers (ByRule rule step) = c.in_ok-by_rules.ensures rule step
