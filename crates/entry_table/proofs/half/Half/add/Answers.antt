-- The place is the last of its hash, if the half is for that, and the one that was last lies before
-- it.
use Rattle.std.proofs.Common.{sym, subst}
use Rattle.entry_table.specs.EntryTable.{Notes}
use Rattle.entry_table.specs.Hashes.{hash_of}
use Rattle.entry_table.proofs.EntryLemmas.{half-more}
use Rattle.entry_table.proofs.half.Half.add.Goals as goal

pub returns : goal.returns
returns c = λ remainder entries entry count is holds.
    let before = c.args.self.now in
    half-more remainder entries entry before c.note.new.self c.push.new.self
    c.in_ok-earlier.earlier holds
    (subst (λ place. Notes before c.note.new.self (hash_of entry.word) place c.in_ok-earlier.earlier)
    (sym count)
    (subst (λ hash. Notes before c.note.new.self hash c.args.place c.in_ok-earlier.earlier) is
    c.in_ok-earlier.ensures))
    c.in_ok-push.ensures.items
