-- Where the filter does not let the hash through, no entry's word has it.
use Rattle.std.proofs.Common.{◌∙◌, sym, ap, subst, ◌%◌}
use Rattle.key_filter.specs.Filter.{may_have}
use Rattle.entry_table.specs.Hashes.{hash_of}
use Rattle.entry_table.specs.EntryTable.{HasHalf}
use Rattle.entry_table.proofs.EntryLemmas.{hash-none}
use Rattle.entry_table.proofs.PlaceLemmas.{no-places}
use Rattle.entry_table.proofs.half.Half.may_have.Goals as goal

pub returns : goal.returns
returns c = λ entries word holds is none.
    no-places entries word
    (hash-none entries c.args.self.now (hash_of word)
    (subst (λ hash. HasHalf (hash % 2) entries c.args.self.now) is holds)
    (ap (may_have c.args.self.now.hashes) (sym is) ∙ sym c.may_have.ensures ∙ none))
