-- The other rest has no number by a rule.
use Rattle.std.proofs.Common.{◌∙◌, sym, ap}
use Rattle.std.specs.List.{list_any}
use Rattle.std.specs.Option.{is_some}
use Rattle.compound_words.proofs.HeadLemmas.{covers-from}
use Rattle.compound_words.proofs.heads.covers.Goals as goal

pub returns : goal.returns
returns c told =
    covers-from c.args.rest.now c.args.other.now
    (c.is_same_head.ensures c.if-not-is_same_head.false)
    (c.is_at_most.ensures told)
    (ap (list_any (list_any is_some)) (sym c.deref.ensures) ∙ sym c.has_number.ensures
    ∙ c.if-has_number.false)
