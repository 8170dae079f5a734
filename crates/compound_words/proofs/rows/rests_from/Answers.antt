-- The row has the rests of one part, and then those of more.
use Rattle.std.proofs.Common.{◌-◌, [], drop, length, subst, take}
use Rattle.spell_types.specs.lists.Laws.{take-rest}
use Rattle.spell_types.specs.declared.parts.Place.TheVariants.{Middle}
use Rattle.compound_words.specs.Rests.{HasFirsts, asked_by, patterns_of}
use Rattle.compound_words.proofs.RowLemmas.{row-whole}
use Rattle.compound_words.proofs.rows.rests_from.Goals as goal

pub returns : goal.returns
returns c =
    row-whole c.new-row.ensures
    (take-rest c.args.from c.args.word.now)
    c.in_ok-add_last.ensures.grows
    (subst (λ before. HasFirsts (asked_by c.args.search.now) (patterns_of c.args.search.now)
    Middle
    (take (length c.args.word.now - c.args.from) (drop c.args.from c.args.word.now))
    (record {
      before = before;
      front = take (length c.args.word.now - c.args.from) (drop c.args.from c.args.word.now);
      following = [];
      rests = [];
    }) c.add_last.new.row) c.in_ok-start.ensures.text c.in_ok-add_last.ensures.has)
    c.in_ok-add_before_rows.ensures.grows c.in_ok-add_before_rows.ensures.all
