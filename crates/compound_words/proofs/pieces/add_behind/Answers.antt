-- A text that is longer than every form is no part's.
use Rattle.std.proofs.Common.{◌∙◌, ◌++◌, ap, append-nil, length, sym}
use Rattle.compound_words.specs.Rests.{asked_by}
use Rattle.compound_words.proofs.PieceLemmas.{none-with}
use Rattle.compound_words.proofs.pieces.add_behind.Goals as goal

pub returns-then-is_too_long : goal.returns-then-is_too_long
returns-then-is_too_long c =
    sym (append-nil c.args.found.now.items)
    ∙ ap (λ parts. c.args.found.now.items ++ parts)
    (sym (none-with (asked_by c.args.search.now)
    (c.derivations_are.ensures.members c.args.search.now.stems.now)
    c.least_length.result (c.is_too_long.ensures c.if-is_too_long.true) (length c.args.front.now)
    c.args.ending.now.joint
    (c.args.front.now ++ (c.args.ending.now.kept.now ++ c.args.ending.now.end.now))
    c.least_length.ensures))
