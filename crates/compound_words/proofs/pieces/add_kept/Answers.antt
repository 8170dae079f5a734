-- Texts that are longer than every form are no part's.
use Rattle.std.proofs.Common.{◌∙◌, ◌++◌, ap, append-nil, sym}
use Rattle.compound_words.specs.Rests.{asked_by}
use Rattle.compound_words.proofs.PieceLemmas.{none-kept}
use Rattle.compound_words.proofs.pieces.add_kept.Goals as goal

pub returns-then-is_too_long : goal.returns-then-is_too_long
returns-then-is_too_long c =
    sym (append-nil c.args.found.now.items)
    ∙ ap (λ parts. c.args.found.now.items ++ parts)
    (sym (none-kept (asked_by c.args.search.now)
    (c.derivations_are.ensures.members c.args.search.now.stems.now)
    c.least_length.result (c.is_too_long.ensures c.if-is_too_long.true) c.args.fronts.now
    c.args.ending.now.kept.now c.args.ending.now.end.now c.args.ending.now.joint
    c.least_length.ensures))
