-- An entry without a word; one with a word and right flags.
use Rattle.std.proofs.Common.{◌≡◌, ◌∙◌, ◌==◌, ap, sym, subst, length, ◌<◌, Ok, Err}
use Rattle.std.specs.Str.{chars}
use Rattle.spell_types.specs.Conversions.{without_ignored}
use Rattle.flag_sets.specs.FlagTexts.{flag_field}
use Rattle.dic_reader.specs.Entries.{entry_at, whole_word, word_of_entry}
use Rattle.dic_reader.specs.Faults.{entry_read, IsTold}
use Rattle.dic_reader.specs.KnownSets.{bytes_of, flags_in}
use Rattle.dic_reader.proofs.EntryLemmas.{no-word, no-characters, some-characters, read-well}
use Rattle.dic_reader.proofs.EntryLemmas.{told-ill}
use Rattle.dic_reader.proofs.KnownLemmas.{flags-set}
use Rattle.dic_reader.proofs.words.read_entry.Goals as goal

pub returns-then-is_empty-clause-fault : goal.returns-then-is_empty-clause-fault
returns-then-is_empty-clause-fault c =
    let word : chars (bytes_of c.in_ok-word.word) ≡ word_of_entry c.args.affixes.now c.args.text.now =
    c.in_ok-word.ensures.word
    ∙ ap (λ ignore. without_ignored ignore (whole_word c.args.text.now)) c.deref.ensures in
    no-word c.args.affixes.now c.args.number c.args.text.now
    (chars (bytes_of c.in_ok-word.word)) word
    (no-characters (bytes_of c.in_ok-word.word)
    (c.if-is_empty.ensures ∙ ap (λ bytes. length bytes == 0) c.as_str.ensures))

pub returns-in-Ok-clause-word : goal.returns-in-Ok-clause-word
returns-in-Ok-clause-word c =
    subst (λ bytes. 0 < length (chars bytes)) c.as_str.ensures
    (some-characters c.as_str.result.now c.as_str.utf8 (sym c.if-is_empty.ensures))

pub returns-in-Ok-clause-read : goal.returns-in-Ok-clause-read
returns-in-Ok-clause-read c = λ entries are.
    let word : chars (bytes_of c.in_ok-word.word) ≡ word_of_entry c.args.affixes.now c.args.text.now =
    c.in_ok-word.ensures.word
    ∙ ap (λ ignore. without_ignored ignore (whole_word c.args.text.now)) c.deref.ensures in
    let some : 0 < length (chars (bytes_of c.in_ok-word.word)) =
    subst (λ bytes. 0 < length (chars bytes)) c.as_str.ensures
    (some-characters c.as_str.result.now c.as_str.utf8 (sym c.if-is_empty.ensures)) in
    let affixes = c.args.affixes.now in
    read-well affixes c.args.number c.args.text.now
    (record { word = chars (bytes_of c.in_ok-word.word); flags = flags_in entries c.in-Ok.flags })
    word some
    (subst (λ text. flag_field affixes.kind affixes.aliases text
    ≡ Ok (flags_in entries c.in-Ok.flags)) c.in_ok-word.ensures.flags
    (flags-set affixes entries c.in_ok-word.flag_text.now c.in-Ok.flags
    (c.in-Ok.ensures.set entries are)).field)

pub returns-clause-fault : goal.returns-clause-fault
returns-clause-fault c =
    let affixes = c.args.affixes.now in
    let word : chars (bytes_of c.in_ok-word.word) ≡ word_of_entry affixes c.args.text.now =
    c.in_ok-word.ensures.word
    ∙ ap (λ ignore. without_ignored ignore (whole_word c.args.text.now)) c.deref.ensures in
    let some : 0 < length (chars (bytes_of c.in_ok-word.word)) =
    subst (λ bytes. 0 < length (chars bytes)) c.as_str.ensures
    (some-characters c.as_str.result.now c.as_str.utf8 (sym c.if-is_empty.ensures)) in
    subst (IsTold (entry_read affixes (entry_at c.args.number c.args.text.now)))
    (sym c.told_at.ensures)
    (told-ill affixes c.args.number c.args.text.now (chars (bytes_of c.in_ok-word.word))
    c.in-Err.fault word some
    (λ told. subst (λ text. flag_field affixes.kind affixes.aliases text ≡ Err c.in-Err.fault)
    c.in_ok-word.ensures.flags (c.in-Err.ensures.fault told)))
