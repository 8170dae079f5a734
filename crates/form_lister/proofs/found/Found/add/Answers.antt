-- The word is known, or forbidden, or a form; and where it is one form more than may be listed,
-- there are as many.
use Rattle.std.proofs.Common.{◌≡◌, ◌∙◌, refl, sym, ap, true, false, arith}
use Rattle.spell_types.specs.Licences.{is_barred}
use Rattle.form_lister.specs.Forms.{IsForm}
use Rattle.form_lister.specs.declared.found.Found.{Found}
use Rattle.form_lister.proofs.FoundLemmas.{no-word, known-form, known-barred, some-word}
use Rattle.form_lister.proofs.FoundLemmas.{barred-more, word-there, word-more, no-fewer}
use Rattle.form_lister.proofs.found.Found.add.Goals as goal
use Rattle.form_lister.proofs.found.Found.add.Goals.{then-contains-via-then-contains}
use Rattle.form_lister.proofs.found.Found.add.Goals.{then-contains-via-else-contains+then-contains-2}

pub returns-then-is_empty-clause-has : goal.returns-then-is_empty-clause-has
returns-then-is_empty-clause-has c =
    no-word c.args.stems.now c.args.word c.args.self.now
    (sym c.is_empty.ensures ∙ c.if-is_empty.true)

pub returns-then-contains-clause-has : goal.returns-then-contains-clause-has
returns-then-contains-clause-has c =
    let lexicon = c.args.stems.now in
    let word = c.args.word in
    let found = c.args.self.now in
    elim c.then-contains.branch [
      | then-contains-via-then-contains w ↦ known-form lexicon word found
          (sym c.contains.ensures ∙ w.if-contains.true)
      | then-contains-via-else-contains+then-contains-2 w ↦ known-barred lexicon c.args.limit word
          found c.requires.found (sym w.contains-else-contains.ensures ∙ w.if-contains-2.true)
    ]

pub returns-then-branch-clause-found : goal.returns-then-branch-clause-found
returns-then-branch-clause-found c =
    let found = c.args.self.now in
    let now : Found = record { words = found.words; barred = c.put.new.set } in
    let barred : is_barred c.args.stems.now c.args.word ≡ true =
    ap (is_barred c.args.stems.now) (sym c.deref.ensures) ∙ sym c.in_ok-is_barred.ensures
    ∙ c.if-branch.true in
    barred-more c.args.stems.now c.args.limit c.args.word found now c.requires.found barred refl
    c.in_ok-put.ensures

pub returns-then-len-limit-clause-fault : goal.returns-then-len-limit-clause-fault
returns-then-len-limit-clause-fault c =
    let found = c.args.self.now in
    let now : Found = record { words = c.put-2.new.set; barred = found.barred } in
    let free : is_barred c.args.stems.now c.args.word ≡ false =
    ap (is_barred c.args.stems.now) (sym c.deref.ensures) ∙ sym c.in_ok-is_barred.ensures
    ∙ c.if-branch.false in
    let form : IsForm c.args.stems.now c.args.word = record {
      nonempty = some-word c.args.word (sym c.is_empty.ensures ∙ c.if-is_empty.false);
      stands = c.requires.word;
      free = free;
    } in
    let fewer = no-fewer c.args.stems.now c.args.limit c.args.word found now c.requires.found
    c.in_ok-put-2.ensures c.forms_are.ensures.members form c.len.ensures.unique in
    (refl, omega (arith, fewer, c.len.ensures.len, c.if-len-limit.true))

pub returns-clause-found : goal.returns-clause-found
returns-clause-found c =
    let found = c.args.self.now in
    let now : Found = record { words = c.put-2.new.set; barred = found.barred } in
    let free : is_barred c.args.stems.now c.args.word ≡ false =
    ap (is_barred c.args.stems.now) (sym c.deref.ensures) ∙ sym c.in_ok-is_barred.ensures
    ∙ c.if-branch.false in
    let form : IsForm c.args.stems.now c.args.word = record {
      nonempty = some-word c.args.word (sym c.is_empty.ensures ∙ c.if-is_empty.false);
      stands = c.requires.word;
      free = free;
    } in
    word-more c.args.stems.now c.args.limit c.args.word found now c.requires.found
    c.in_ok-put-2.ensures form refl (omega (arith, c.len.ensures.len, c.if-len-limit.false))

pub returns-clause-has : goal.returns-clause-has
returns-clause-has c =
    let found = c.args.self.now in
    let now : Found = record { words = c.put-2.new.set; barred = found.barred } in
    word-there c.args.stems.now c.args.limit c.args.word found now c.requires.found
    c.in_ok-put-2.ensures
